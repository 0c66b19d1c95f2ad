use Rattle.sched_law.proofs.EndLemmas.{one_less, settled_after, settled_later}
use Rattle.sched_law.proofs.law.decisions_end.Goals as goal

pub returns-clause-start : goal.returns-clause-start
returns-clause-start c = λ w v j safe decides. one_less w v j safe decides

pub returns-clause-settled : goal.returns-clause-settled
returns-clause-settled c = λ w v decides. settled_after w v decides

pub returns-clause-later : goal.returns-clause-later
returns-clause-later c = λ w t settled later. settled_later w t later settled
