-- No slot is none.
use Rattle.std.proofs.Common.{refl}
use Rattle.sched_jobs.proofs.QueueLemmas.{empty_queue}
use Rattle.sched_jobs.proofs.queues.Queue.new.Goals as goal

pub returns : goal.returns
returns c = λ nodes. empty_queue nodes _ refl
