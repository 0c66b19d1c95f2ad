use Rattle.std.proofs.Common.{◌≡◌}
use Rattle.library_bench.proofs.jobs.feed.Given as goal

abbrev pub invariant-loop-seq : goal.invariant-loop-seq
invariant-loop-seq g l = l.producer.lane.id ≡ l.lanes
