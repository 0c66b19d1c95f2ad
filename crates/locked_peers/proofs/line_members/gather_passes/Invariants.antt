use Rattle.std.proofs.Common.{◌≡◌, ◌++◌, None, [], map, length}
use Rattle.std.specs.List.{All}
use Rattle.locked_peers.specs.InnerLine.View.{view}
use Rattle.locked_peers.specs.InnerLine.Step.{IsIdle}
use Rattle.locked_peers.specs.InnerLine.Handle.{table_of, line_id, is_pass, pass_record}
use Rattle.locked_peers.proofs.line_members.gather_passes.Given as goal

abbrev pub invariant-loop-pass : goal.invariant-loop-pass
invariant-loop-pass l =
    (l.seat.table_id ≡ table_of l.lock) × IsIdle l.seat.me × (l.seat.me ≡ (view l.fn.seat.me.0.about l.fn.seat.me.0.lanes l.seat.me.0.passes l.fn.seat.me.0.closers None, []))
    × (l.seat.me.0.passes ++ map pass_record l.passes.items ≡ l.fn.seat.me.0.passes ++ map pass_record l.fn.passes.items) × All (is_pass (line_id l.lock)) l.passes.items

abbrev pub decreases-loop-pass : goal.decreases-loop-pass
decreases-loop-pass l = length l.passes.items
