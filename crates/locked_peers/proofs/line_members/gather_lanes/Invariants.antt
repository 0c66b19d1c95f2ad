use Rattle.std.proofs.Common.{◌≡◌, ◌++◌, None, [], map, length}
use Rattle.std.specs.List.{All}
use Rattle.locked_peers.specs.InnerLine.View.{view}
use Rattle.locked_peers.specs.InnerLine.Step.{IsIdle}
use Rattle.locked_peers.specs.InnerLine.Handle.{table_of, line_id, is_lane, lane_record}
use Rattle.locked_peers.proofs.line_members.gather_lanes.Given as goal

abbrev pub invariant-loop-lane : goal.invariant-loop-lane
invariant-loop-lane l =
    (l.seat.table_id ≡ table_of l.lock) × IsIdle l.seat.me × (l.seat.me ≡ (view l.fn.seat.me.0.about l.seat.me.0.lanes l.fn.seat.me.0.passes l.fn.seat.me.0.closers None, []))
    × (l.seat.me.0.lanes ++ map lane_record l.lanes.items ≡ l.fn.seat.me.0.lanes ++ map lane_record l.fn.lanes.items) × All (is_lane (line_id l.lock)) l.lanes.items

abbrev pub decreases-loop-lane : goal.decreases-loop-lane
decreases-loop-lane l = length l.lanes.items
