use Rattle.std.specs.List.{All}
use Rattle.job_queue.specs.Line.{IsFor}
use Rattle.tests_kit.proofs.job_lists.listed.Given as goal

abbrev pub invariant-loop-kind : goal.invariant-loop-kind
invariant-loop-kind l = All (IsFor l.machine l.lane) l.jobs.items
