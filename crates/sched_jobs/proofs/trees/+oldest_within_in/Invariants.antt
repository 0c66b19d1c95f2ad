-- The number of items falls.
use Rattle.sched_jobs.specs.InnerQueue.Changes.{size_at}
use Rattle.sched_jobs.proofs.trees.+oldest_within_in.Given as goal

abbrev pub decreases-oldest_within_in : goal.decreases-oldest_within_in
decreases-oldest_within_in l = size_at l.nodes.now l.link
