use Rattle.std.proofs.Common.{◌≡◌, ◌-◌, ◌≤◌, None, [], map}
use Rattle.std.specs.List.{All}
use Rattle.std.specs.Vec.{vec_len, vec_capacity}
use Rattle.job_queue.specs.Record.{fresh_lanes}
use Rattle.locked_peers.specs.InnerLine.View.{view, first_view, lanes_from}
use Rattle.locked_peers.specs.InnerLine.Handle.{table_of, sizes_of, line_id, is_lane, lane_record}
use Rattle.locked_peers.proofs.line_members.deal_lanes.Given as goal

abbrev pub invariant-loop-number : goal.invariant-loop-number
invariant-loop-number l = let first = first_view (sizes_of l.lock) in
    (l.seat.table_id ≡ table_of l.lock) × (l.seat.me ≡ (view first.about (lanes_from l.number (l.count - l.number)) first.passes first.closers None, []))
    × All (is_lane (line_id l.lock)) l.lanes.items × (map lane_record l.lanes.items ≡ fresh_lanes l.number) × (vec_len l.lanes ≡ l.number) × (l.count ≤ vec_capacity l.lanes)
