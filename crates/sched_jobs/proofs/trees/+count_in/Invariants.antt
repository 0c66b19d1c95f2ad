-- The number of items falls.
use Rattle.sched_jobs.specs.InnerQueue.Changes.{size_at}
use Rattle.sched_jobs.proofs.trees.+count_in.Given as goal

abbrev pub decreases-count_in : goal.decreases-count_in
decreases-count_in l = size_at l.nodes.now l.link
