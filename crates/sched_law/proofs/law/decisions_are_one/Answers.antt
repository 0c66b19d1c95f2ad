use Rattle.sched_law.proofs.OneLemmas.{decide_one}
use Rattle.sched_law.proofs.law.decisions_are_one.Goals as goal

pub returns : goal.returns
returns c = λ w u v a b one other. decide_one w u v a b one other
