-- A block is held exactly if its node was taken as one block.
use Rattle.std.proofs.Common.{arith}
use Rattle.std.proofs.lemmas.Bool.{eq-eqb, eqb-true}
use Rattle.cube_shape.proofs.RegionLemmas.{IsNodeOf-in_cube}
use Rattle.fit_tree.proofs.ImageLemmas.{Represents-in, held_at}
use Rattle.fit_tree.proofs.image.is_held.Goals as goal

pub bounds-rooms-node_of : goal.bounds-rooms-node_of
bounds-rooms-node_of c = omega (arith, (IsNodeOf-in_cube c.args.n c.node_of.result c.args.region c.node_of.ensures.named).1, c.requires.rooms)

pub returns : goal.returns
returns c = λ head image.
    let represents = Represents-in c.args.n c.args.rooms.now image.sound in (
      λ is. held_at c.args.n c.args.rooms.now c.args.region (represents.each_is_held c.node_of.result c.args.region c.node_of.ensures.named (eqb-true _ _ is)),
      λ held. eq-eqb _ _ (represents.each_is_taken c.args.region.base c.args.region c.node_of.result held c.node_of.ensures.named),
    )
