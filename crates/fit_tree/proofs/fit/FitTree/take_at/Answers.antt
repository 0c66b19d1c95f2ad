use Rattle.cube_shape.specs.Machine.{IsFree}
use Rattle.fit_tree.proofs.ValueLemmas.{of_view}
use Rattle.fit_tree.proofs.fit.FitTree.take_at.Goals as goal

pub returns-then-not-take_at-clause-refused : goal.returns-then-not-take_at-clause-refused
returns-then-not-take_at-clause-refused c =
    let free = (rw c.deref_mut.ensures.value at c.take_at.ensures.free) c.self.invariant in
    of_view (λ _ held. IsFree held c.args.region → ⊥) c.self.inside.dim c.self.inside.rooms.items c.args.self.now c.self.view_is
    (λ is. let taken = free.1 is in absurd (cc))
