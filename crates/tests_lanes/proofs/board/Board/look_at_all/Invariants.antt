use Rattle.std.proofs.Common.{◌≡◌}
use Rattle.wake_pool.specs.Schedule.{resting}
use Rattle.wake_calls.specs.Thread.{moved}
use Rattle.tests_lanes.specs.Inner.Steps.{goes}
use Rattle.tests_lanes.proofs.board.Board.look_at_all.Given as goal

abbrev pub invariant-loop-lane : goal.invariant-loop-lane
invariant-loop-lane l =
    (l.seat.table_id ≡ l.fn.seat.table_id)
    × (l.seat.me ≡ moved goes (resting l.self.sizes.lanes l.lane) l.fn.seat.me)
