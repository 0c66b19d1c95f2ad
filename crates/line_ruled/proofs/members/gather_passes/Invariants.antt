use Rattle.std.proofs.Common.{◌≡◌, ◌++◌, length}
use Rattle.std.specs.List.{All}
use Rattle.line_ruled.specs.Inner.Handle.{line_of, is_pass, gate_passes, ring_passes}
use Rattle.line_ruled.proofs.members.gather_passes.Given as goal

abbrev pub invariant-loop-pass : goal.invariant-loop-pass
invariant-loop-pass l =
    (l.gate_end.gate ≡ l.gate.table) × (l.gate_end.passes ++ gate_passes l.passes.items ≡ l.fn.gate_end.passes ++ gate_passes l.fn.passes.items) × (l.gate_end.lanes ≡ l.fn.gate_end.lanes) × (l.gate_end.number ≡ l.fn.gate_end.number)
    × (l.ring_end.ring ≡ l.ring.id) × (l.ring_end.back_passes ++ ring_passes l.passes.items ≡ l.fn.ring_end.back_passes ++ ring_passes l.fn.passes.items) × (l.ring_end.back_lanes ≡ l.fn.ring_end.back_lanes)
    × (l.ring_end.dealt_lanes ≡ l.fn.ring_end.dealt_lanes) × (l.ring_end.dealt_passes ≡ l.fn.ring_end.dealt_passes)
    × All (is_pass (line_of l.gate l.ring)) l.passes.items

abbrev pub decreases-loop-pass : goal.decreases-loop-pass
decreases-loop-pass l = length l.passes.items
