-- A held block is aligned.
use Rattle.std.proofs.Common.{◌≡◌, Some}
use Rattle.fit_tree.proofs.ImageLemmas.{Represents-in}
use Rattle.fit_tree.proofs.ValueLemmas.{of_view}
use Rattle.fit_tree.proofs.fit.FitTree.release.Goals as goal

pub returns-then-not-is_aligned-clause-refused : goal.returns-then-not-is_aligned-clause-refused
returns-then-not-is_aligned-clause-refused c =
    let image = c.self.invariant in
    let represents = Represents-in c.self.inside.dim c.self.inside.rooms.items image.sound in
    of_view (λ _ held. held c.args.region.base ≡ Some c.args.region → ⊥) c.self.inside.dim c.self.inside.rooms.items c.args.self.now c.self.view_is
    (λ is. let aligned = c.is_aligned.ensures.1 ((represents.lawful).aligned c.args.region.base c.args.region is) in absurd (cc))
