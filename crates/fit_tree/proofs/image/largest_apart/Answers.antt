-- The most room apart from the node says it.
use Rattle.std.proofs.Common.{arith}
use Rattle.fit_tree.specs.Fit.{held_in}
use Rattle.fit_tree.specs.Image.{fit_in}
use Rattle.fit_tree.proofs.ImageLemmas.{Represents-in}
use Rattle.fit_tree.proofs.LargestLemmas.{none_larger, one_fits}
use Rattle.fit_tree.proofs.image.largest_apart.Goals as goal

pub returns-then-most-lt2-clause-none : goal.returns-then-most-lt2-clause-none
returns-then-most-lt2-clause-none c = λ head image k fits.
    none_larger c.args.n c.args.rooms.now image.sound (held_in (fit_in c.args.n c.args.rooms.now)) (Represents-in c.args.n c.args.rooms.now image.sound) c.args.avoid c.node_of.result c.node_of.ensures.named
    c.most_apart-most.result (c.most_apart-most.ensures image.sound) k fits (omega arith)

pub returns-clause-fits : goal.returns-clause-fits
returns-clause-fits c = λ head image.
    one_fits c.args.n c.args.rooms.now image.sound (held_in (fit_in c.args.n c.args.rooms.now)) (Represents-in c.args.n c.args.rooms.now image.sound) c.args.avoid c.node_of.result c.node_of.ensures.named
    c.most_apart-most.result (c.most_apart-most.ensures image.sound) c.min.result (omega (arith, c.min.ensures))

pub returns-clause-larger : goal.returns-clause-larger
returns-clause-larger c = λ head image j less fits.
    none_larger c.args.n c.args.rooms.now image.sound (held_in (fit_in c.args.n c.args.rooms.now)) (Represents-in c.args.n c.args.rooms.now image.sound) c.args.avoid c.node_of.result c.node_of.ensures.named
    c.most_apart-most.result (c.most_apart-most.ensures image.sound) j fits (omega (arith, c.min.ensures, less, fits))
