-- Each step makes the parent's room right.
use Rattle.std.proofs.Common.{◌≡◌, ◌<◌, ◌+◌, ◌/◌, suc, length, refl, sym, ◌∙◌, ap, subst, arith}
use Rattle.std.proofs.lemmas.List.{get_or-set_other, get_or-set_same, length-set}
use Rattle.fit_tree.specs.Rooms.{IsNode, room_of}
use Rattle.fit_tree.specs.InnerNodes.{AreBounded}
use Rattle.fit_tree.proofs.NodeLemmas.{IsNode-in_cube, IsNode-parent}
use Rattle.fit_tree.proofs.PartLemmas.{Parts-begin, Parts-counted, bounded_above}
use Rattle.fit_tree.proofs.WalkLemmas.{Climb, Climb-begin, Climb-end, Climb-step, Climb-stop, joined_above, parent_inside, sibling_room}
use Rattle.fit_tree.proofs.walks.mend.Goals as goal

pub loop-dim-init : goal.loop-dim-init
loop-dim-init c = record {
  len = refl;
  node = c.requires.node;
  no_node = refl;
  bounded = λ bounded. bounded;
  counted = λ counted. counted;
  own = refl;
  climb = λ can. Climb-begin c.args.n c.args.k c.args.start c.args.rooms.now c.requires.node can.sound can.open_above;
}

pub bounds-rooms-start : goal.bounds-rooms-start
bounds-rooms-start c = omega (arith, (IsNode-in_cube c.args.n c.args.k c.args.start c.requires.node).1, c.requires.rooms)

pub bounds-rooms-node : goal.bounds-rooms-node
bounds-rooms-node c = omega (arith, sibling_room c.args.n c.loop-dim.dim c.loop-dim.node (omega arith) c.loop-dim.invariant.node, c.requires.rooms, c.loop-dim.invariant.len)

pub bounds-rooms-node-in-loop-dim : goal.bounds-rooms-node-in-loop-dim
bounds-rooms-node-in-loop-dim c = omega (arith, parent_inside c.args.n c.loop-dim.dim c.loop-dim.node (omega arith) c.loop-dim.invariant.node, c.requires.rooms, c.loop-dim.invariant.len)

pub bounds-rooms-node-then-is_part-2 : goal.bounds-rooms-node-then-is_part-2
bounds-rooms-node-then-is_part-2 c = omega (arith, parent_inside c.args.n c.loop-dim.dim c.loop-dim.node (omega arith) c.loop-dim.invariant.node, c.requires.rooms, c.loop-dim.invariant.len)

pub mend_parts-requires-clause-node : goal.mend_parts-requires-clause-node
mend_parts-requires-clause-node c =
    let next : suc c.loop-dim.dim ≡ c.loop-dim.dim + 1 = omega arith in
    subst (λ e. IsNode c.args.n e (c.loop-dim.node / 2)) next (IsNode-parent c.args.n c.loop-dim.dim c.loop-dim.node (omega arith) c.loop-dim.invariant.node)

pub write_inner-requires-clause-node : goal.write_inner-requires-clause-node
write_inner-requires-clause-node c =
    let next : suc c.loop-dim.dim ≡ c.loop-dim.dim + 1 = omega arith in
    subst (λ e. IsNode c.args.n e (c.loop-dim.node / 2)) next (IsNode-parent c.args.n c.loop-dim.dim c.loop-dim.node (omega arith) c.loop-dim.invariant.node)

pub returns-then-before-room-clause-counted : goal.returns-then-before-room-clause-counted
returns-then-before-room-clause-counted c = λ can counted. c.loop-dim.invariant.counted counted

pub returns-then-before-room-clause-sound : goal.returns-then-before-room-clause-sound
returns-then-before-room-clause-sound c = λ can.
    Climb-stop c.args.n c.loop-dim.dim c.loop-dim.node c.join-room.result c.args.rooms.now c.loop-dim.rooms (c.loop-dim.invariant.climb can) (omega arith) (joined_above c.loop-dim.dim c.loop-dim.node c.loop-dim.own c.join-room.result c.loop-dim.rooms c.loop-dim.invariant.own c.join-room.ensures) (omega arith)

pub returns-then-before-room-clause-taken : goal.returns-then-before-room-clause-taken
returns-then-before-room-clause-taken c = λ can. let climb = c.loop-dim.invariant.climb can in climb.taken

pub returns-then-is_part-2-clause-no_node : goal.returns-then-is_part-2-clause-no_node
returns-then-is_part-2-clause-no_node c =
    let inside = parent_inside c.args.n c.loop-dim.dim c.loop-dim.node (omega arith) c.loop-dim.invariant.node in
    c.mend_parts.ensures.no_node
    ∙ get_or-set_other c.loop-dim.rooms (c.loop-dim.node / 2) 0 c.join-room.result 0 (λ same. omega (arith, same, inside.0)) ∙ c.loop-dim.invariant.no_node

pub returns-then-is_part-2-clause-counted : goal.returns-then-is_part-2-clause-counted
returns-then-is_part-2-clause-counted c = λ can counted.
    let inv = c.loop-dim.invariant in
    let inside = parent_inside c.args.n c.loop-dim.dim c.loop-dim.node (omega arith) inv.node in
    let within : c.loop-dim.node / 2 < length c.loop-dim.rooms = omega (arith, inside, c.requires.rooms, inv.len) in
    let was = c.is_part.ensures.0 c.if-is_part.true in
    let now = c.is_part-then-is_part.ensures.0 c.if-is_part-2.true in
    c.mend_parts.ensures.counted
    (Parts-begin c.args.n c.loop-dim.dim c.loop-dim.node c.join-room.result c.loop-dim.rooms (omega arith) inv.node within (inv.bounded can.bounded) (joined_above c.loop-dim.dim c.loop-dim.node c.loop-dim.own c.join-room.result c.loop-dim.rooms c.loop-dim.invariant.own c.join-room.ensures) c.args.rooms.now (inv.climb can)
    (λ whole. was.1 (omega (arith, whole))) (λ whole. now.1 (omega (arith, whole))))
    c.loop-dim.counts
    (Parts-counted c.args.n c.loop-dim.dim c.loop-dim.node c.join-room.result c.loop-dim.rooms (omega arith) inv.node within (inv.bounded can.bounded) (joined_above c.loop-dim.dim c.loop-dim.node c.loop-dim.own c.join-room.result c.loop-dim.rooms c.loop-dim.invariant.own c.join-room.ensures) was.0
    (λ whole. was.1 (omega (arith, whole))) (λ whole. now.1 (omega (arith, whole))) c.loop-dim.counts (inv.counted counted))

pub returns-then-is_part-2-clause-sound : goal.returns-then-is_part-2-clause-sound
returns-then-is_part-2-clause-sound c = λ can.
    let inv = c.loop-dim.invariant in
    let inside = parent_inside c.args.n c.loop-dim.dim c.loop-dim.node (omega arith) inv.node in
    let within : c.loop-dim.node / 2 < length c.loop-dim.rooms = omega (arith, inside, c.requires.rooms, inv.len) in
    let was = c.is_part.ensures.0 c.if-is_part.true in
    let now = c.is_part-then-is_part.ensures.0 c.if-is_part-2.true in
    c.mend_parts.ensures.sound
    (Parts-begin c.args.n c.loop-dim.dim c.loop-dim.node c.join-room.result c.loop-dim.rooms (omega arith) inv.node within (inv.bounded can.bounded) (joined_above c.loop-dim.dim c.loop-dim.node c.loop-dim.own c.join-room.result c.loop-dim.rooms c.loop-dim.invariant.own c.join-room.ensures) c.args.rooms.now (inv.climb can)
    (λ whole. was.1 (omega (arith, whole))) (λ whole. now.1 (omega (arith, whole))))

pub returns-then-is_part-2-clause-taken : goal.returns-then-is_part-2-clause-taken
returns-then-is_part-2-clause-taken c = λ can u.
    let inv = c.loop-dim.invariant in
    let inside = parent_inside c.args.n c.loop-dim.dim c.loop-dim.node (omega arith) inv.node in
    let within : c.loop-dim.node / 2 < length c.loop-dim.rooms = omega (arith, inside, c.requires.rooms, inv.len) in
    let was = c.is_part.ensures.0 c.if-is_part.true in
    let now = c.is_part-then-is_part.ensures.0 c.if-is_part-2.true in
    let step = Climb-step c.args.n c.loop-dim.dim c.loop-dim.node c.join-room.result c.args.rooms.now c.loop-dim.rooms (inv.climb can) (omega arith) (joined_above c.loop-dim.dim c.loop-dim.node c.loop-dim.own c.join-room.result c.loop-dim.rooms c.loop-dim.invariant.own c.join-room.ensures) in
    let rest = c.mend_parts.ensures.taken
    (Parts-begin c.args.n c.loop-dim.dim c.loop-dim.node c.join-room.result c.loop-dim.rooms (omega arith) inv.node within (inv.bounded can.bounded) (joined_above c.loop-dim.dim c.loop-dim.node c.loop-dim.own c.join-room.result c.loop-dim.rooms c.loop-dim.invariant.own c.join-room.ensures) c.args.rooms.now (inv.climb can)
    (λ whole. was.1 (omega (arith, whole))) (λ whole. now.1 (omega (arith, whole)))) u in
    (λ is. (step.taken u).0 (rest.0 is), λ is. rest.1 ((step.taken u).1 is))

pub loop-dim-preserved : goal.loop-dim-preserved
loop-dim-preserved c =
    let inv = c.loop-dim.invariant in
    let written = c.write_inner.ensures.written in
    let inside = parent_inside c.args.n c.loop-dim.dim c.loop-dim.node (omega arith) inv.node in
    let within : c.loop-dim.node / 2 < length c.loop-dim.rooms = omega (arith, inside, c.requires.rooms, inv.len) in
    let next : suc c.loop-dim.dim ≡ c.loop-dim.dim + 1 = omega arith in
    record {
      len = ap length written ∙ length-set c.loop-dim.rooms (c.loop-dim.node / 2) c.join-room.result ∙ inv.len;
      node = subst (λ e. IsNode c.args.n e (c.loop-dim.node / 2)) next (IsNode-parent c.args.n c.loop-dim.dim c.loop-dim.node (omega arith) inv.node);
      no_node = ap (λ rooms. room_of rooms 0) written ∙ get_or-set_other c.loop-dim.rooms (c.loop-dim.node / 2) 0 c.join-room.result 0 (λ same. omega (arith, same, inside.0)) ∙ inv.no_node;
      own = sym (ap (λ rooms. room_of rooms (c.loop-dim.node / 2)) written ∙ get_or-set_same c.loop-dim.rooms (c.loop-dim.node / 2) c.join-room.result 0 within);
      bounded = λ bounded. subst (AreBounded c.args.n) (sym written)
          (bounded_above c.args.n c.loop-dim.dim c.loop-dim.node c.join-room.result c.loop-dim.rooms (omega arith) inv.node within (inv.bounded bounded) (joined_above c.loop-dim.dim c.loop-dim.node c.loop-dim.own c.join-room.result c.loop-dim.rooms c.loop-dim.invariant.own c.join-room.ensures));
      counted = λ was. c.write_inner.ensures.counted (inv.counted was);
      climb = λ can. subst (λ rooms. Climb c.args.n c.args.rooms.now rooms (c.loop-dim.dim + 1) (c.loop-dim.node / 2)) (sym written)
          (Climb-step c.args.n c.loop-dim.dim c.loop-dim.node c.join-room.result c.args.rooms.now c.loop-dim.rooms (inv.climb can) (omega arith) (joined_above c.loop-dim.dim c.loop-dim.node c.loop-dim.own c.join-room.result c.loop-dim.rooms c.loop-dim.invariant.own c.join-room.ensures));
    }

pub returns-clause-counted : goal.returns-clause-counted
returns-clause-counted c = λ can counted. c.loop-dim.invariant.counted counted

pub returns-clause-sound : goal.returns-clause-sound
returns-clause-sound c = λ can.
    let all : c.loop-dim.dim ≡ c.args.n = omega (arith, c.requires.node.0) in
    Climb-end c.args.n c.loop-dim.node c.args.rooms.now c.loop-dim.rooms (subst (λ d. Climb c.args.n c.args.rooms.now c.loop-dim.rooms d c.loop-dim.node) all (c.loop-dim.invariant.climb can))

pub returns-clause-taken : goal.returns-clause-taken
returns-clause-taken c = λ can. let climb = c.loop-dim.invariant.climb can in climb.taken
