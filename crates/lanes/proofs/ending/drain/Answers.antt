use Rattle.std.proofs.Common.{arith}
use Rattle.std.specs.VecDeque.{deque_capacity}
use Rattle.std.specs.Mem.Slots.{slots_items}
use Rattle.lanes.proofs.RestLemmas.{room_for}
use Rattle.lanes.proofs.ending.drain.Goals as goal

pub drain_lane-requires-clause-room : goal.drain_lane-requires-clause-room
drain_lane-requires-clause-room c =
    let inv = c.loop-lane.invariant in
    room_for c.args.plan (slots_items c.args.closed.now.words) c.loop-lane.lane (deque_capacity c.loop-lane.rest) c.loop-lane.rest.items c.requires.range inv.0 c.loop-lane-test.true (omega (arith, c.requires.room.1, inv.1))
