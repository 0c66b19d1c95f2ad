-- Each step makes the parent's entry right.
use Rattle.std.proofs.Common.{◌≡◌, ◌<◌, ◌+◌, ◌/◌, suc, length, sym, ◌∙◌, subst, arith}
use Rattle.std.proofs.lemmas.List.{get_or-set_same, length-set}
use Rattle.cube_shape.proofs.PathLemmas.{OnPath-self}
use Rattle.fit_tree.specs.Rooms.{IsNode}
use Rattle.fit_tree.proofs.NodeLemmas.{IsNode-in_cube, IsNode-parent}
use Rattle.fit_tree.proofs.WalkLemmas.{parent_inside, sibling_room}
use Rattle.sched_law.specs.State.{set}
use Rattle.sched_blocks.proofs.ClimbLemmas.{Climb-end, Climb-step, Climb-stop, nodes_few, parent_above}
use Rattle.sched_blocks.proofs.EndLemmas.{ends_of, later_is, latest_by, set_begins}
use Rattle.sched_blocks.proofs.ends.set_end.Goals as goal

pub bounds-ends-node : goal.bounds-ends-node
bounds-ends-node c = omega (arith, (IsNode-in_cube c.args.n c.args.dim c.args.node c.requires.node).1, c.requires.ends)

pub loop-init : goal.loop-init
loop-init c =
    let inside = IsNode-in_cube c.args.n c.args.dim c.args.node c.requires.node in
    let within : c.args.node < length c.args.ends.now = omega (arith, inside.1, c.requires.ends) in
    record {
      len = length-set c.args.ends.now c.args.node c.args.end;
      at_place = c.requires.node;
      on = OnPath-self c.args.node inside.0;
      kept = sym (get_or-set_same c.args.ends.now c.args.node c.args.end 0 within);
      ruled = λ own are alone. set_begins c.args.n own c.args.ends.now are c.args.dim c.args.node c.args.end c.requires.node alone within;
    }

pub offset_bounds-ends-place : goal.offset_bounds-ends-place
offset_bounds-ends-place c =
    omega (arith, sibling_room c.args.n c.loop.counter c.loop.place (omega arith) c.loop.invariant.at_place, nodes_few c.args.n c.requires.machine)

pub bounds-ends-place : goal.bounds-ends-place
bounds-ends-place c = omega (arith, sibling_room c.args.n c.loop.counter c.loop.place (omega arith) c.loop.invariant.at_place, c.requires.ends, c.loop.invariant.len)

pub bounds-ends-place-in-loop : goal.bounds-ends-place-in-loop
bounds-ends-place-in-loop c = omega (arith, parent_inside c.args.n c.loop.counter c.loop.place (omega arith) c.loop.invariant.at_place, c.requires.ends, c.loop.invariant.len)

pub returns-then-ends-place-clause-ends : goal.returns-then-ends-place-clause-ends
returns-then-ends-place-clause-ends c = λ own are alone.
    let inv = c.loop.invariant in
    let is = later_is c.args.n own c.loop.counter c.loop.place c.args.node c.args.end c.loop.ends c.loop.own c.later-latest.result (omega arith) inv.at_place inv.on alone inv.kept c.later-latest.ensures in
    ends_of c.args.n (set own c.args.node c.args.end) c.loop.ends
    (Climb-stop c.args.n c.loop.counter c.loop.place c.later-latest.result (latest_by (set own c.args.node c.args.end)) c.loop.ends (omega arith) inv.at_place (inv.ruled own are alone) is c.if-ends-place.true)

pub loop-preserved : goal.loop-preserved
loop-preserved c =
    let n = c.args.n in
    let inv = c.loop.invariant in
    let inside = parent_inside n c.loop.counter c.loop.place (omega arith) inv.at_place in
    let next : suc c.loop.counter ≡ c.loop.counter + 1 = omega arith in
    let within : c.loop.place / 2 < length c.loop.ends = omega (arith, inside, c.requires.ends, inv.len) in
    record {
      len = length-set c.loop.ends (c.loop.place / 2) c.later-latest.result ∙ inv.len;
      at_place = subst (λ e. IsNode n e (c.loop.place / 2)) next (IsNode-parent n c.loop.counter c.loop.place (omega arith) inv.at_place);
      on = (parent_above n c.loop.counter c.loop.place c.args.node (omega arith) inv.at_place inv.on).0;
      kept = sym (get_or-set_same c.loop.ends (c.loop.place / 2) c.later-latest.result 0 within);
      ruled = λ own are alone.
          let is = later_is n own c.loop.counter c.loop.place c.args.node c.args.end c.loop.ends c.loop.own c.later-latest.result (omega arith) inv.at_place inv.on alone inv.kept c.later-latest.ensures in
          Climb-step n c.loop.counter c.loop.place c.later-latest.result (latest_by (set own c.args.node c.args.end)) c.loop.ends (omega arith) inv.at_place (inv.ruled own are alone) is within;
    }

pub returns-clause-ends : goal.returns-clause-ends
returns-clause-ends c = λ own are alone.
    let all : c.loop.counter ≡ c.args.n = omega (arith, c.requires.node.0) in
    let inv = c.loop.invariant in
    ends_of c.args.n (set own c.args.node c.args.end) c.loop.ends
    (Climb-end c.args.n c.loop.place (latest_by (set own c.args.node c.args.end)) c.loop.ends (subst (λ d. IsNode c.args.n d c.loop.place) all inv.at_place) (inv.ruled own are alone))
