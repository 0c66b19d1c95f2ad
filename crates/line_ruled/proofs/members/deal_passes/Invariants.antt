use Rattle.std.proofs.Common.{◌≡◌, ◌-◌, ◌≤◌, map}
use Rattle.std.specs.List.{All}
use Rattle.std.specs.Vec.{vec_len, vec_capacity}
use Rattle.line_gate.specs.Record.{passes_from}
use Rattle.job_queue.specs.Record.{fresh_passes}
use Rattle.line_ruled.specs.Inner.Handle.{line_of, is_pass, pass_record}
use Rattle.line_ruled.proofs.members.deal_passes.Given as goal

abbrev pub invariant-loop : goal.invariant-loop
invariant-loop l =
    (l.members.gate ≡ l.gate.table) × (l.members.passes ≡ passes_from l.counter (l.count - l.counter)) × (l.members.lanes ≡ l.fn.members.lanes)
    × (l.end.ring ≡ l.ring.id) × (l.end.dealt_passes ≡ l.counter) × (l.end.dealt_lanes ≡ l.fn.end.dealt_lanes) × (l.end.back_lanes ≡ l.fn.end.back_lanes) × (l.end.back_passes ≡ l.fn.end.back_passes)
    × All (is_pass (line_of l.gate l.ring)) l.passes.items × (map pass_record l.passes.items ≡ fresh_passes l.counter) × (vec_len l.passes ≡ l.counter) × (l.count ≤ vec_capacity l.passes)
