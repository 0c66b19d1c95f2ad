use Rattle.sched_law.proofs.LawLemmas.{decided_drains}
use Rattle.sched_law.proofs.law.reserved_blocks_drain.Goals as goal

pub returns : goal.returns
returns c = λ w v j run reserved decides is inside. decided_drains w v j run reserved decides is inside
