use Rattle.std.proofs.Common.{◌≡◌}
use Rattle.lanes.proofs.lanes.Lanes.call_all.Given as goal

abbrev pub invariant-loop-worker : goal.invariant-loop-worker
invariant-loop-worker l = l.note ≡ l.initial.note
