-- The room of the root.
use Rattle.std.proofs.Common.{arith}
use Rattle.std.proofs.lemmas.Nat.{pow_pos}
use Rattle.fit_tree.specs.Fit.{held_in}
use Rattle.fit_tree.specs.Image.{fit_in}
use Rattle.fit_tree.proofs.NodeLemmas.{all_nodes}
use Rattle.fit_tree.proofs.BlockLemmas.{root_bound, root_none, root_some}
use Rattle.fit_tree.proofs.ImageLemmas.{Represents-in}
use Rattle.fit_tree.proofs.image.largest_free.Goals as goal

pub bounds-rooms-1 : goal.bounds-rooms-1
bounds-rooms-1 c = omega (arith, c.requires.rooms, all_nodes c.args.n, pow_pos c.args.n)

pub returns-then-rooms-lt2-clause-none : goal.returns-then-rooms-lt2-clause-none
returns-then-rooms-lt2-clause-none c = λ head image k fits.
    root_none c.args.n c.args.rooms.now image.sound k (held_in (fit_in c.args.n c.args.rooms.now)) (Represents-in c.args.n c.args.rooms.now image.sound) fits (omega arith)

pub returns-clause-fits : goal.returns-clause-fits
returns-clause-fits c = λ head image.
    root_some c.args.n c.args.rooms.now image.sound _ (held_in (fit_in c.args.n c.args.rooms.now)) (Represents-in c.args.n c.args.rooms.now image.sound) (omega (arith, root_bound c.args.n c.args.rooms.now image.sound)) (omega (arith, root_bound c.args.n c.args.rooms.now image.sound))

pub returns-clause-larger : goal.returns-clause-larger
returns-clause-larger c = λ head image j less fits.
    root_none c.args.n c.args.rooms.now image.sound j (held_in (fit_in c.args.n c.args.rooms.now)) (Represents-in c.args.n c.args.rooms.now image.sound) fits (omega (arith, less, root_bound c.args.n c.args.rooms.now image.sound))
