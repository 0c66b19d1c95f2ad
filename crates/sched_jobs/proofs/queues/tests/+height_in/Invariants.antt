-- The number of items falls.
use Rattle.sched_jobs.specs.InnerQueue.Changes.{size_at}
use Rattle.sched_jobs.proofs.queues.tests.+height_in.Given as goal

abbrev pub decreases-height_in : goal.decreases-height_in
decreases-height_in l = size_at l.nodes.now l.link
