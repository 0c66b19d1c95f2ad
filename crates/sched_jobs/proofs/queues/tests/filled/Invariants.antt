-- The slots so far are in the queue.
use Rattle.sched_jobs.proofs.FillLemmas.{IsFilled}
use Rattle.sched_jobs.proofs.queues.tests.filled.Given as goal

abbrev pub invariant-loop-slot : goal.invariant-loop-slot
invariant-loop-slot l = IsFilled l.nodes l.queue l.slot
