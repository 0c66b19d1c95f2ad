-- The tree is in the nodes of the slots.
use Rattle.sched_jobs.proofs.QueueLemmas.{queue_rests}
use Rattle.sched_jobs.proofs.queues.queues_rest_on_their_slots.Goals as goal

pub returns : goal.returns
returns c = λ old new queue slots is longer limit same. queue_rests old new queue slots is longer (λ less. limit) same
