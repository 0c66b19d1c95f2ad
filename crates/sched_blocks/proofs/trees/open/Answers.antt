use Rattle.sched_blocks.proofs.BusyLemmas.{idle_is}
use Rattle.sched_blocks.proofs.trees.open.Goals as goal

pub returns-clause-busy : goal.returns-clause-busy
returns-clause-busy c = λ n. idle_is n c.clear.new.busy c.clear.ensures.none
