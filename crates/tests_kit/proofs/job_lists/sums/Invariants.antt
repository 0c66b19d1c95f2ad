use Rattle.std.specs.List.{All}
use Rattle.job_queue.specs.Line.{IsFor}
use Rattle.tests_kit.proofs.job_lists.sums.Given as goal

abbrev pub invariant-loop-seq : goal.invariant-loop-seq
invariant-loop-seq l = All (IsFor l.machine l.lane) l.jobs.items
