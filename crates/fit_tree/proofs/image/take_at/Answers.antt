-- A block is free exactly if its node is open.
use Rattle.std.proofs.Common.{inr, refl}
use Rattle.fit_tree.specs.Fit.{held_in}
use Rattle.fit_tree.specs.Image.{fit_in}
use Rattle.fit_tree.specs.InnerNodes.{CanSet}
use Rattle.fit_tree.proofs.RepresentsLemmas.{free_from_open, open_from_free}
use Rattle.fit_tree.proofs.ImageLemmas.{Gives-in, IsImage-written, Represents-in}
use Rattle.fit_tree.proofs.image.take_at.Goals as goal

pub returns-then-free-clause-image : goal.returns-then-free-clause-image
returns-then-free-clause-image c = λ image.
    let can : CanSet c.args.n c.args.region.dim c.args.rooms.now c.node_of-node.result = record { sound = image.sound; below = inr (c.is_open-free.ensures.whole c.if-free.true); above = c.is_open-free.ensures.above c.if-free.true } in
    IsImage-written c.args.n c.args.head.now _ c.args.rooms.now c.set_room.new.rooms image (c.set_room.ensures.sound can) c.set_room.ensures.len c.set_room.ensures.no_node (c.set_room.ensures.counted can image.counted) refl refl refl

pub returns-then-free-clause-free : goal.returns-then-free-clause-free
returns-then-free-clause-free c = λ image.
    let held = held_in (fit_in c.args.n c.args.rooms.now) in
    let represents = Represents-in c.args.n c.args.rooms.now image.sound in (
      λ is. free_from_open c.args.n held c.args.rooms.now represents c.node_of-node.result c.args.region c.node_of-node.ensures.named ((c.is_open-free.ensures.open image.sound).0 is),
      λ free. (c.is_open-free.ensures.open image.sound).1 (open_from_free c.args.n held c.args.rooms.now represents c.node_of-node.result c.args.region c.node_of-node.ensures.named free),
    )

pub returns-else-free-clause-free : goal.returns-else-free-clause-free
returns-else-free-clause-free c = λ image.
    let held = held_in (fit_in c.args.n c.args.rooms.now) in
    let represents = Represents-in c.args.n c.args.rooms.now image.sound in (
      λ is. free_from_open c.args.n held c.args.rooms.now represents c.node_of-node.result c.args.region c.node_of-node.ensures.named ((c.is_open-free.ensures.open image.sound).0 is),
      λ free. (c.is_open-free.ensures.open image.sound).1 (open_from_free c.args.n held c.args.rooms.now represents c.node_of-node.result c.args.region c.node_of-node.ensures.named free),
    )

pub returns-then-free-clause-given : goal.returns-then-free-clause-given
returns-then-free-clause-given c = λ is image.
    let can : CanSet c.args.n c.args.region.dim c.args.rooms.now c.node_of-node.result = record { sound = image.sound; below = inr (c.is_open-free.ensures.whole c.if-free.true); above = c.is_open-free.ensures.above c.if-free.true } in
    Gives-in c.args.n c.args.region.dim c.node_of-node.result c.args.rooms.now c.set_room.new.rooms c.args.region image.sound (c.set_room.ensures.sound can) c.node_of-node.ensures.named (c.set_room.ensures.others can) refl ((c.is_open-free.ensures.open image.sound).0 is) ((c.set_room.ensures.own can).1 refl)
