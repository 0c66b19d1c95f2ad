-- The number of items falls.
use Rattle.sched_jobs.specs.InnerQueue.Changes.{size_at}
use Rattle.sched_jobs.proofs.trees.+push_in.Given as goal

abbrev pub decreases-push_in : goal.decreases-push_in
decreases-push_in l = size_at l.nodes.now l.link
