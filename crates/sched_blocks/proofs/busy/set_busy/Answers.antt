-- Each step makes the parent's entry right.
use Rattle.std.proofs.Common.{◌≡◌, ◌<◌, ◌+◌, ◌/◌, suc, length, sym, ◌∙◌, subst, arith}
use Rattle.std.proofs.lemmas.List.{get_or-set_same, length-set}
use Rattle.cube_shape.proofs.PathLemmas.{OnPath-self}
use Rattle.fit_tree.specs.Rooms.{IsNode}
use Rattle.fit_tree.proofs.NodeLemmas.{IsNode-in_cube, IsNode-parent}
use Rattle.fit_tree.proofs.WalkLemmas.{parent_inside, sibling_room}
use Rattle.sched_law.specs.State.{set}
use Rattle.sched_blocks.proofs.ClimbLemmas.{Climb-end, Climb-step, nodes_few, parent_above}
use Rattle.sched_blocks.proofs.BusyLemmas.{busy_by, busy_of, set_begins, sum_fits, sum_is}
use Rattle.sched_blocks.proofs.busy.set_busy.Goals as goal

pub bounds-busy-node : goal.bounds-busy-node
bounds-busy-node c = omega (arith, (IsNode-in_cube c.args.n c.args.dim c.args.node c.requires.node).1, c.requires.busy)

pub loop-init : goal.loop-init
loop-init c =
    let inside = IsNode-in_cube c.args.n c.args.dim c.args.node c.requires.node in
    let within : c.args.node < length c.args.busy.now = omega (arith, inside.1, c.requires.busy) in
    record {
      len = length-set c.args.busy.now c.args.node c.args.count;
      at_place = c.requires.node;
      on = OnPath-self c.args.node inside.0;
      kept = sym (get_or-set_same c.args.busy.now c.args.node c.args.count 0 within);
      ruled = λ used is_used are alone is. set_begins c.args.n used c.args.busy.now are c.args.dim c.args.node c.args.count is_used c.requires.node alone within is;
    }

pub offset_bounds-busy-place : goal.offset_bounds-busy-place
offset_bounds-busy-place c =
    omega (arith, sibling_room c.args.n c.loop.counter c.loop.place (omega arith) c.loop.invariant.at_place, nodes_few c.args.n c.requires.machine)

pub bounds-busy-place : goal.bounds-busy-place
bounds-busy-place c = omega (arith, sibling_room c.args.n c.loop.counter c.loop.place (omega arith) c.loop.invariant.at_place, c.requires.busy, c.loop.invariant.len)

pub bounds-busy-place-in-loop : goal.bounds-busy-place-in-loop
bounds-busy-place-in-loop c = omega (arith, parent_inside c.args.n c.loop.counter c.loop.place (omega arith) c.loop.invariant.at_place, c.requires.busy, c.loop.invariant.len)

pub loop-preserved : goal.loop-preserved
loop-preserved c =
    let n = c.args.n in
    let inv = c.loop.invariant in
    let inside = parent_inside n c.loop.counter c.loop.place (omega arith) inv.at_place in
    let next : suc c.loop.counter ≡ c.loop.counter + 1 = omega arith in
    let within : c.loop.place / 2 < length c.loop.busy = omega (arith, inside, c.requires.busy, inv.len) in
    record {
      len = length-set c.loop.busy (c.loop.place / 2) c.sum-sum.result ∙ inv.len;
      at_place = subst (λ e. IsNode n e (c.loop.place / 2)) next (IsNode-parent n c.loop.counter c.loop.place (omega arith) inv.at_place);
      on = (parent_above n c.loop.counter c.loop.place c.args.node (omega arith) inv.at_place inv.on).0;
      kept = sym (get_or-set_same c.loop.busy (c.loop.place / 2) c.sum-sum.result 0 within);
      ruled = λ used is_used are alone is.
          let ruled = inv.ruled used is_used are alone is in
          let fits = sum_fits n (set used c.args.node is_used) c.loop.counter c.loop.place c.loop.busy c.loop.own c.requires.machine (omega arith) inv.at_place ruled inv.kept in
          let right = sum_is n used c.loop.counter c.loop.place c.args.node is_used c.loop.busy c.loop.own c.sum-sum.result (omega arith) inv.at_place inv.on alone inv.kept (c.sum-sum.ensures fits) in
          Climb-step n c.loop.counter c.loop.place c.sum-sum.result (busy_by (set used c.args.node is_used)) c.loop.busy (omega arith) inv.at_place ruled right within;
    }

pub returns-clause-busy : goal.returns-clause-busy
returns-clause-busy c = λ used is_used are alone is.
    let all : c.loop.counter ≡ c.args.n = omega (arith, c.requires.node.0) in
    let inv = c.loop.invariant in
    busy_of c.args.n (set used c.args.node is_used) c.loop.busy
    (Climb-end c.args.n c.loop.place (busy_by (set used c.args.node is_used)) c.loop.busy (subst (λ d. IsNode c.args.n d c.loop.place) all inv.at_place) (inv.ruled used is_used are alone is))
