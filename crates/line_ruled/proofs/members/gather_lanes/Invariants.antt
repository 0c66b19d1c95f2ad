use Rattle.std.proofs.Common.{◌≡◌, ◌++◌, length}
use Rattle.std.specs.List.{All}
use Rattle.line_ruled.specs.Inner.Handle.{line_of, is_lane, gate_lanes, ring_lanes, counts_after}
use Rattle.line_ruled.proofs.members.gather_lanes.Given as goal

abbrev pub invariant-loop-lane : goal.invariant-loop-lane
invariant-loop-lane l =
    (l.gate_end.gate ≡ l.gate.table) × (l.gate_end.lanes ++ gate_lanes l.lanes.items ≡ l.fn.gate_end.lanes ++ gate_lanes l.fn.lanes.items) × (l.gate_end.passes ≡ l.fn.gate_end.passes) × (l.gate_end.number ≡ l.fn.gate_end.number)
    × (l.ring_end.ring ≡ l.ring.id) × (l.ring_end.back_lanes ++ ring_lanes l.lanes.items ≡ l.fn.ring_end.back_lanes ++ ring_lanes l.fn.lanes.items) × (l.ring_end.back_passes ≡ l.fn.ring_end.back_passes)
    × (l.ring_end.dealt_lanes ≡ l.fn.ring_end.dealt_lanes) × (l.ring_end.dealt_passes ≡ l.fn.ring_end.dealt_passes)
    × (counts_after l.accepted.items l.lanes.items ≡ counts_after l.fn.accepted.items l.fn.lanes.items) × (length l.accepted.items ≡ l.gate.counts.lanes)
    × All (is_lane (line_of l.gate l.ring)) l.lanes.items

abbrev pub decreases-loop-lane : goal.decreases-loop-lane
decreases-loop-lane l = length l.lanes.items
