use Rattle.std.proofs.Common.{◌≡◌, ◌<◌}
use Rattle.library_bench.proofs.jobs.drain.Given as goal

abbrev pub invariant-loop : goal.invariant-loop
invariant-loop g l = (l.consumer.worker.id ≡ l.lanes) × (l.consumer.from < l.count)
