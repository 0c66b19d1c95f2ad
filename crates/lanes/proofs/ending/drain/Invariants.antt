use Rattle.std.proofs.Common.{◌≡◌}
use Rattle.std.specs.VecDeque.{deque_capacity}
use Rattle.std.specs.Mem.Slots.{slots_items}
use Rattle.lanes.specs.Run.{in_lanes}
use Rattle.lanes.specs.Inner.Rest.{left_in}
use Rattle.lanes.proofs.ending.drain.Given as goal

abbrev pub invariant-loop-lane : goal.invariant-loop-lane
invariant-loop-lane l = (l.rest.items ≡ in_lanes (left_in l.plan (slots_items l.closed.words)) l.lane) × (deque_capacity l.rest ≡ deque_capacity l.initial.rest)
