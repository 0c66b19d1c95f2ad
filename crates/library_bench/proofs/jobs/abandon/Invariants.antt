use Rattle.library_bench.proofs.jobs.abandon.Given as goal

abbrev pub decreases-loop-producer : goal.decreases-loop-producer
decreases-loop-producer l = goal.left-loop-producer l

abbrev pub decreases-loop-consumer : goal.decreases-loop-consumer
decreases-loop-consumer l = goal.left-loop-consumer l
