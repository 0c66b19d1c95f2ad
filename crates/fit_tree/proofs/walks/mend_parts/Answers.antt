-- Each step makes the parent's room right, and no node on the way is or was wholly free.
use Rattle.std.proofs.Common.{◌≡◌, ◌<◌, ◌+◌, ◌/◌, suc, length, refl, sym, ◌∙◌, subst, arith}
use Rattle.std.proofs.lemmas.List.{get_or-set_other, get_or-set_same, length-set}
use Rattle.fit_tree.specs.Rooms.{IsNode}
use Rattle.fit_tree.proofs.NodeLemmas.{IsNode-in_cube, IsNode-parent}
use Rattle.fit_tree.proofs.PartLemmas.{Parts-counted_step, Parts-step}
use Rattle.fit_tree.proofs.WalkLemmas.{Climb, Climb-begin, Climb-end, Climb-step, Climb-stop, joined_above, parent_inside, sibling_room}
use Rattle.fit_tree.proofs.walks.mend_parts.Goals as goal

pub bounds-rooms-start : goal.bounds-rooms-start
bounds-rooms-start c = omega (arith, (IsNode-in_cube c.args.n c.args.k c.args.start c.requires.node).1, c.requires.rooms)

pub loop-init : goal.loop-init
loop-init c = record {
  len = refl;
  node = c.requires.node;
  no_node = refl;
  own = refl;
  climb = λ parts. Climb-begin c.args.n c.args.k c.args.start c.args.rooms.now c.requires.node (parts.can).sound (parts.can).open_above;
  parts = λ parts. parts;
  counted = λ parts counts counted. counted;
}

pub bounds-rooms-node : goal.bounds-rooms-node
bounds-rooms-node c = omega (arith, sibling_room c.args.n c.loop.counter c.loop.node (omega arith) c.loop.invariant.node, c.requires.rooms, c.loop.invariant.len)

pub bounds-rooms-node-in-loop : goal.bounds-rooms-node-in-loop
bounds-rooms-node-in-loop c = omega (arith, parent_inside c.args.n c.loop.counter c.loop.node (omega arith) c.loop.invariant.node, c.requires.rooms, c.loop.invariant.len)

pub bounds-rooms-node-in-loop-2 : goal.bounds-rooms-node-in-loop-2
bounds-rooms-node-in-loop-2 c = omega (arith, parent_inside c.args.n c.loop.counter c.loop.node (omega arith) c.loop.invariant.node, c.requires.rooms, c.loop.invariant.len)

pub returns-then-rooms-node-clause-counted : goal.returns-then-rooms-node-clause-counted
returns-then-rooms-node-clause-counted c = λ parts counts counted. c.loop.invariant.counted parts counts counted

pub returns-then-rooms-node-clause-sound : goal.returns-then-rooms-node-clause-sound
returns-then-rooms-node-clause-sound c = λ parts.
    let now = c.loop.invariant.parts parts in
    Climb-stop c.args.n c.loop.counter c.loop.node c.join_part-room.result c.args.rooms.now c.loop.rooms (c.loop.invariant.climb parts) (omega arith)
    (joined_above c.loop.counter c.loop.node c.loop.own c.join_part-room.result c.loop.rooms c.loop.invariant.own (c.join_part-room.ensures c.loop.counter (λ none. now.used (sym c.loop.invariant.own ∙ none)) (λ whole. now.own (sym c.loop.invariant.own ∙ whole)))) (omega arith)

pub returns-then-rooms-node-clause-taken : goal.returns-then-rooms-node-clause-taken
returns-then-rooms-node-clause-taken c = λ parts. let climb = c.loop.invariant.climb parts in climb.taken

pub loop-preserved : goal.loop-preserved
loop-preserved c =
    let inv = c.loop.invariant in
    let inside = parent_inside c.args.n c.loop.counter c.loop.node (omega arith) inv.node in
    let next : suc c.loop.counter ≡ c.loop.counter + 1 = omega arith in
    let within : c.loop.node / 2 < length c.loop.rooms = omega (arith, inside, c.requires.rooms, inv.len) in
    record {
      len = length-set c.loop.rooms (c.loop.node / 2) c.join_part-room.result ∙ inv.len;
      node = subst (λ e. IsNode c.args.n e (c.loop.node / 2)) next (IsNode-parent c.args.n c.loop.counter c.loop.node (omega arith) inv.node);
      no_node = get_or-set_other c.loop.rooms (c.loop.node / 2) 0 c.join_part-room.result 0 (λ same. omega (arith, same, inside.0)) ∙ inv.no_node;
      own = sym (get_or-set_same c.loop.rooms (c.loop.node / 2) c.join_part-room.result 0 within);
      climb = λ parts.
          let now = inv.parts parts in
          Climb-step c.args.n c.loop.counter c.loop.node c.join_part-room.result c.args.rooms.now c.loop.rooms (inv.climb parts) (omega arith)
          (joined_above c.loop.counter c.loop.node c.loop.own c.join_part-room.result c.loop.rooms c.loop.invariant.own (c.join_part-room.ensures c.loop.counter (λ none. now.used (sym c.loop.invariant.own ∙ none)) (λ whole. now.own (sym c.loop.invariant.own ∙ whole))));
      parts = λ parts.
          let now = inv.parts parts in
          Parts-step c.args.n c.loop.counter c.loop.node c.join_part-room.result c.loop.rooms (omega arith) inv.node within (now.can).bounded
          (joined_above c.loop.counter c.loop.node c.loop.own c.join_part-room.result c.loop.rooms c.loop.invariant.own (c.join_part-room.ensures c.loop.counter (λ none. now.used (sym c.loop.invariant.own ∙ none)) (λ whole. now.own (sym c.loop.invariant.own ∙ whole)))) now;
      counted = λ parts counts counted.
          let now = inv.parts parts in
          Parts-counted_step c.args.n c.loop.counter c.loop.node c.join_part-room.result c.loop.rooms (omega arith) inv.node within (now.can).bounded
          (joined_above c.loop.counter c.loop.node c.loop.own c.join_part-room.result c.loop.rooms c.loop.invariant.own (c.join_part-room.ensures c.loop.counter (λ none. now.used (sym c.loop.invariant.own ∙ none)) (λ whole. now.own (sym c.loop.invariant.own ∙ whole)))) now counts (inv.counted parts counts counted);
    }

pub returns-clause-counted : goal.returns-clause-counted
returns-clause-counted c = λ parts counts counted. c.loop.invariant.counted parts counts counted

pub returns-clause-sound : goal.returns-clause-sound
returns-clause-sound c = λ parts.
    let all : c.loop.counter ≡ c.args.n = omega (arith, c.requires.node.0) in
    Climb-end c.args.n c.loop.node c.args.rooms.now c.loop.rooms (subst (λ d. Climb c.args.n c.args.rooms.now c.loop.rooms d c.loop.node) all (c.loop.invariant.climb parts))

pub returns-clause-taken : goal.returns-clause-taken
returns-clause-taken c = λ parts. let climb = c.loop.invariant.climb parts in climb.taken
