-- A block is held exactly if its node was taken as one block.
use Rattle.std.proofs.Common.{◌≡◌, refl, arith}
use Rattle.std.proofs.lemmas.Bool.{eq-eqb, eqb-true}
use Rattle.cube_shape.proofs.RegionLemmas.{IsNodeOf-in_cube}
use Rattle.fit_tree.specs.Rooms.{room_of}
use Rattle.fit_tree.proofs.ImageLemmas.{CanSet-taken, IsImage-written, Represents-in, TakesBack-in, held_at}
use Rattle.fit_tree.proofs.image.release.Goals as goal

pub bounds-rooms-node : goal.bounds-rooms-node
bounds-rooms-node c = omega (arith, (IsNodeOf-in_cube c.args.n c.node_of-node.result c.args.region c.node_of-node.ensures.named).1, c.requires.rooms)

pub returns-then-held-clause-image : goal.returns-then-held-clause-image
returns-then-held-clause-image c = λ image.
    let taken : room_of c.args.rooms.now c.node_of-node.result ≡ 0 = omega arith in
    let can = CanSet-taken c.args.n c.args.region.dim c.node_of-node.result c.args.rooms.now image.sound c.node_of-node.ensures.node taken in
    IsImage-written c.args.n c.args.head.now _ c.args.rooms.now c.set_room.new.rooms image (c.set_room.ensures.sound can) c.set_room.ensures.len c.set_room.ensures.no_node (c.set_room.ensures.counted can image.counted) refl refl refl

pub returns-then-held-clause-taken_back : goal.returns-then-held-clause-taken_back
returns-then-held-clause-taken_back c = λ is image.
    let taken : room_of c.args.rooms.now c.node_of-node.result ≡ 0 = omega arith in
    let can = CanSet-taken c.args.n c.args.region.dim c.node_of-node.result c.args.rooms.now image.sound c.node_of-node.ensures.node taken in
    TakesBack-in c.args.n c.args.region.dim c.node_of-node.result c.args.rooms.now c.set_room.new.rooms c.args.region image.sound (c.set_room.ensures.sound can) c.node_of-node.ensures.named (c.set_room.ensures.others can) taken
    (λ none. omega (arith, (c.set_room.ensures.own can).0 none))

pub returns-then-held-clause-held : goal.returns-then-held-clause-held
returns-then-held-clause-held c = λ image.
    let represents = Represents-in c.args.n c.args.rooms.now image.sound in (
      λ is. held_at c.args.n c.args.rooms.now c.args.region (represents.each_is_held c.node_of-node.result c.args.region c.node_of-node.ensures.named (eqb-true _ _ is)),
      λ held. eq-eqb _ _ (represents.each_is_taken c.args.region.base c.args.region c.node_of-node.result held c.node_of-node.ensures.named),
    )

pub returns-else-held-clause-held : goal.returns-else-held-clause-held
returns-else-held-clause-held c = λ image.
    let represents = Represents-in c.args.n c.args.rooms.now image.sound in (
      λ is. held_at c.args.n c.args.rooms.now c.args.region (represents.each_is_held c.node_of-node.result c.args.region c.node_of-node.ensures.named (eqb-true _ _ is)),
      λ held. eq-eqb _ _ (represents.each_is_taken c.args.region.base c.args.region c.node_of-node.result held c.node_of-node.ensures.named),
    )
