-- There is a queue after each step.
use Rattle.std.proofs.Common.{ℕ, List}
use Rattle.sched_jobs.specs.Queues.{IsQueue}
use Rattle.sched_jobs.proofs.queues.tests.remove_oldest.Given as goal

abbrev pub invariant-loop : goal.invariant-loop
invariant-loop l = (slots : List ℕ) × IsQueue l.nodes l.queue slots
