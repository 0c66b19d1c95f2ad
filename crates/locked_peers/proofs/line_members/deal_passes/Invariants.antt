use Rattle.std.proofs.Common.{◌≡◌, ◌-◌, ◌≤◌, None, [], map}
use Rattle.std.specs.List.{All}
use Rattle.std.specs.Vec.{vec_len, vec_capacity}
use Rattle.job_queue.specs.Record.{fresh_passes}
use Rattle.locked_peers.specs.InnerLine.View.{view, first_view, passes_from}
use Rattle.locked_peers.specs.InnerLine.Handle.{table_of, sizes_of, line_id, is_pass, pass_record}
use Rattle.locked_peers.proofs.line_members.deal_passes.Given as goal

abbrev pub invariant-loop : goal.invariant-loop
invariant-loop l = let first = first_view (sizes_of l.lock) in
    (l.seat.table_id ≡ table_of l.lock) × (l.seat.me ≡ (view first.about [] (passes_from l.counter (l.count - l.counter)) first.closers None, []))
    × All (is_pass (line_id l.lock)) l.passes.items × (map pass_record l.passes.items ≡ fresh_passes l.counter) × (vec_len l.passes ≡ l.counter) × (l.count ≤ vec_capacity l.passes)
