use Rattle.std.proofs.Common.{◌≡◌, ◌-◌, ◌≤◌, map}
use Rattle.std.specs.List.{All}
use Rattle.std.specs.Vec.{vec_len, vec_capacity}
use Rattle.line_gate.specs.Record.{lanes_from}
use Rattle.job_queue.specs.Record.{fresh_lanes}
use Rattle.line_ruled.specs.Inner.Handle.{line_of, is_lane, lane_record}
use Rattle.line_ruled.proofs.members.deal_lanes.Given as goal

abbrev pub invariant-loop : goal.invariant-loop
invariant-loop l =
    (l.members.gate ≡ l.gate.table) × (l.members.lanes ≡ lanes_from l.counter (l.count - l.counter)) × (l.members.passes ≡ l.fn.members.passes)
    × (l.end.ring ≡ l.ring.id) × (l.end.dealt_lanes ≡ l.counter) × (l.end.dealt_passes ≡ l.fn.end.dealt_passes) × (l.end.back_lanes ≡ l.fn.end.back_lanes) × (l.end.back_passes ≡ l.fn.end.back_passes)
    × All (is_lane (line_of l.gate l.ring)) l.lanes.items × (map lane_record l.lanes.items ≡ fresh_lanes l.counter) × (vec_len l.lanes ≡ l.counter) × (l.count ≤ vec_capacity l.lanes)
