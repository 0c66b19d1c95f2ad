use Rattle.std.specs.List.{All}
use Rattle.job_queue.specs.Line.{IsFor}
use Rattle.cube_bench.proofs.jobs.jobs_of.Given as goal

abbrev pub invariant-loop : goal.invariant-loop
invariant-loop l = All (IsFor l.machine l.lane) l.jobs.items
