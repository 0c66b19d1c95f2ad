use Rattle.sched_law.proofs.LawLemmas.{few}
use Rattle.sched_law.proofs.law.few_pass_the_head.Goals as goal

pub returns : goal.returns
returns c = λ w v h j head after safe decides none is other waits. few w v h j head after safe decides none is other waits
