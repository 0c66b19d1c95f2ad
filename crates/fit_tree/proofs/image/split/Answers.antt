-- Only the rooms of the node and of its children change.
use Rattle.std.proofs.Common.{◌≡◌, ◌+◌, ◌-◌, suc, refl, subst, arith}
use Rattle.cube_shape.proofs.RegionLemmas.{IsNodeOf-in_cube}
use Rattle.fit_tree.specs.Rooms.{IsNode, room_of}
use Rattle.fit_tree.proofs.ImageLemmas.{IsImage-written, Represents-in}
use Rattle.fit_tree.proofs.SplitLemmas.{family_inside, split_sound, split_written}
use Rattle.fit_tree.proofs.HalvesLemmas.{split_views}
use Rattle.fit_tree.proofs.image.split.Goals as goal

pub bounds-rooms-node : goal.bounds-rooms-node
bounds-rooms-node c = omega (arith, (IsNodeOf-in_cube c.args.n c.node_of-node.result c.args.region c.node_of-node.ensures.named).1, c.requires.rooms)

pub split_node-requires-clause-node : goal.split_node-requires-clause-node
split_node-requires-clause-node c =
    let up : c.args.region.dim ≡ c.args.region.dim - 1 + 1 = omega arith in
    subst (λ d. IsNode c.args.n d c.node_of-node.result) up c.node_of-node.ensures.node

pub returns-then-rooms-node-ne0-clause-not_held : goal.returns-then-rooms-node-ne0-clause-not_held
returns-then-rooms-node-ne0-clause-not_held c = λ error image held.
    let represents = Represents-in c.args.n c.args.rooms.now image.sound in
    omega (arith, represents.each_is_taken c.args.region.base c.args.region c.node_of-node.result held c.node_of-node.ensures.named)

pub returns-clause-len : goal.returns-clause-len
returns-clause-len c =
    let up : c.args.region.dim ≡ suc (c.args.region.dim - 1) = omega arith in
    let node = subst (λ d. IsNode c.args.n d c.node_of-node.result) up c.node_of-node.ensures.node in
    let written = split_written c.args.n (c.args.region.dim - 1) c.node_of-node.result c.args.rooms.now c.split_node.new.rooms node c.requires.rooms c.split_node.ensures.written in
    written.len

pub returns-clause-image : goal.returns-clause-image
returns-clause-image c = λ image.
    let up : c.args.region.dim ≡ suc (c.args.region.dim - 1) = omega arith in
    let node = subst (λ d. IsNode c.args.n d c.node_of-node.result) up c.node_of-node.ensures.node in
    let written = split_written c.args.n (c.args.region.dim - 1) c.node_of-node.result c.args.rooms.now c.split_node.new.rooms node c.requires.rooms c.split_node.ensures.written in
    let sound = split_sound c.args.n (c.args.region.dim - 1) c.node_of-node.result c.args.rooms.now c.split_node.new.rooms image.sound node (omega arith) written in
    let inside = family_inside c.args.n (c.args.region.dim - 1) c.node_of-node.result node in
    let none : room_of c.split_node.new.rooms 0 ≡ room_of c.args.rooms.now 0 = written.others 0 (λ same. omega (arith, same, inside.0)) (λ same. omega (arith, same)) (λ same. omega (arith, same, inside.0)) in
    IsImage-written c.args.n c.args.head.now _ c.args.rooms.now c.split_node.new.rooms image sound written.len none (c.split_node.ensures.counted image.counted) refl refl refl

pub returns-clause-split : goal.returns-clause-split
returns-clause-split c = λ image.
    let k = c.args.region.dim - 1 in
    let v = c.node_of-node.result in
    let old = c.args.rooms.now in
    let new = c.split_node.new.rooms in
    let up : c.args.region.dim ≡ suc (c.args.region.dim - 1) = omega arith in
    let node = subst (λ d. IsNode c.args.n d v) up c.node_of-node.ensures.node in
    let written = split_written c.args.n k v old new node c.requires.rooms c.split_node.ensures.written in
    let taken : room_of old v ≡ 0 = omega arith in
    let sound = split_sound c.args.n k v old new image.sound node taken written in
    split_views c.args.n k v c.args.region old new image.sound sound node c.node_of-node.ensures.named taken written
