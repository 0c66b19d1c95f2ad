use Rattle.std.proofs.Common.{◌≡◌}
use Rattle.library_bench.proofs.jobs.submit.Given as goal

abbrev pub invariant-loop : goal.invariant-loop
invariant-loop g l = l.lane.id ≡ l.lanes
