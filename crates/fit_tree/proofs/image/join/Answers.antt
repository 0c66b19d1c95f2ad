-- Only the rooms of the node and of its children change.
use Rattle.std.proofs.Common.{◌≡◌, ◌+◌, ◌-◌, ◌*◌, suc, refl, subst, arith}
use Rattle.fit_tree.specs.Rooms.{IsNode, room_of}
use Rattle.fit_tree.proofs.ImageLemmas.{IsImage-written}
use Rattle.fit_tree.proofs.SplitLemmas.{family_inside, join_sound, join_written}
use Rattle.fit_tree.proofs.HalvesLemmas.{halves_taken, join_views}
use Rattle.fit_tree.proofs.image.join.Goals as goal
use Rattle.fit_tree.proofs.image.join.Goals.{then-rooms-node-ne0-via-then-rooms-node-ne0, then-rooms-node-ne0-via-else-rooms-node-ne0+then-rooms-node-ne0-2}

pub bounds-rooms-node : goal.bounds-rooms-node
bounds-rooms-node c =
    let up : c.args.region.dim ≡ suc (c.args.region.dim - 1) = omega arith in
    let node = subst (λ d. IsNode c.args.n d c.node_of-node.result) up c.node_of-node.ensures.node in
    omega (arith, family_inside c.args.n (c.args.region.dim - 1) c.node_of-node.result node, c.requires.rooms)

pub bounds-rooms-node-else-rooms-node-ne0 : goal.bounds-rooms-node-else-rooms-node-ne0
bounds-rooms-node-else-rooms-node-ne0 c =
    let up : c.args.region.dim ≡ suc (c.args.region.dim - 1) = omega arith in
    let node = subst (λ d. IsNode c.args.n d c.node_of-node.result) up c.node_of-node.ensures.node in
    omega (arith, family_inside c.args.n (c.args.region.dim - 1) c.node_of-node.result node, c.requires.rooms)

pub join_node-requires-clause-node : goal.join_node-requires-clause-node
join_node-requires-clause-node c =
    let up : c.args.region.dim ≡ c.args.region.dim - 1 + 1 = omega arith in
    subst (λ d. IsNode c.args.n d c.node_of-node.result) up c.node_of-node.ensures.node

pub returns-then-rooms-node-ne0-clause-not_held : goal.returns-then-rooms-node-ne0-clause-not_held
returns-then-rooms-node-ne0-clause-not_held c = λ error image held.
    let up : c.args.region.dim ≡ suc (c.args.region.dim - 1) = omega (arith, c.if-region-eq0.false) in
    let node = subst (λ d. IsNode c.args.n d c.node_of-node.result) up c.node_of-node.ensures.node in
    let taken = halves_taken c.args.n (c.args.region.dim - 1) c.node_of-node.result c.args.region c.args.rooms.now image.sound node c.node_of-node.ensures.named held in
    elim c.then-rooms-node-ne0.branch [
      | then-rooms-node-ne0-via-then-rooms-node-ne0 w ↦ w.if-rooms-node-ne0.true taken.0
      | then-rooms-node-ne0-via-else-rooms-node-ne0+then-rooms-node-ne0-2 w ↦ w.if-rooms-node-ne0-2.true taken.1
    ]

pub returns-clause-len : goal.returns-clause-len
returns-clause-len c =
    let up : c.args.region.dim ≡ suc (c.args.region.dim - 1) = omega arith in
    let node = subst (λ d. IsNode c.args.n d c.node_of-node.result) up c.node_of-node.ensures.node in
    let written = join_written c.args.n (c.args.region.dim - 1) c.node_of-node.result c.args.rooms.now c.join_node.new.rooms node c.requires.rooms c.join_node.ensures.written in
    written.len

pub returns-clause-image : goal.returns-clause-image
returns-clause-image c = λ image.
    let up : c.args.region.dim ≡ suc (c.args.region.dim - 1) = omega arith in
    let node = subst (λ d. IsNode c.args.n d c.node_of-node.result) up c.node_of-node.ensures.node in
    let written = join_written c.args.n (c.args.region.dim - 1) c.node_of-node.result c.args.rooms.now c.join_node.new.rooms node c.requires.rooms c.join_node.ensures.written in
    let sound = join_sound c.args.n (c.args.region.dim - 1) c.node_of-node.result c.args.rooms.now c.join_node.new.rooms image.sound node (omega arith) (omega arith) written in
    let inside = family_inside c.args.n (c.args.region.dim - 1) c.node_of-node.result node in
    let none : room_of c.join_node.new.rooms 0 ≡ room_of c.args.rooms.now 0 = written.others 0 (λ same. omega (arith, same, inside.0)) (λ same. omega (arith, same, inside.0)) (λ same. omega (arith, same)) in
    IsImage-written c.args.n c.args.head.now _ c.args.rooms.now c.join_node.new.rooms image sound written.len none (c.join_node.ensures.counted image.counted) refl refl refl

pub returns-clause-joined : goal.returns-clause-joined
returns-clause-joined c = λ image.
    let k = c.args.region.dim - 1 in
    let v = c.node_of-node.result in
    let old = c.args.rooms.now in
    let new = c.join_node.new.rooms in
    let up : c.args.region.dim ≡ suc (c.args.region.dim - 1) = omega arith in
    let node = subst (λ d. IsNode c.args.n d v) up c.node_of-node.ensures.node in
    let written = join_written c.args.n k v old new node c.requires.rooms c.join_node.ensures.written in
    let left : room_of old (2 * v) ≡ 0 = omega arith in
    let right : room_of old (2 * v + 1) ≡ 0 = omega arith in
    let sound = join_sound c.args.n k v old new image.sound node left right written in
    join_views c.args.n k v c.args.region old new image.sound sound node c.node_of-node.ensures.named left right written
