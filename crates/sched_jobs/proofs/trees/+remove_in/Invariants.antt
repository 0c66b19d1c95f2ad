-- The number of items falls.
use Rattle.sched_jobs.specs.InnerQueue.Changes.{size_at}
use Rattle.sched_jobs.proofs.trees.+remove_in.Given as goal

abbrev pub decreases-remove_in : goal.decreases-remove_in
decreases-remove_in l = size_at l.nodes.now l.link
