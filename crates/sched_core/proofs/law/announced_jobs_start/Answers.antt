use Rattle.sched_core.proofs.PickLemmas.{announced_starts}
use Rattle.sched_core.proofs.law.announced_jobs_start.Goals as goal

pub returns : goal.returns
returns c = λ t w v u after core answer started is decides. announced_starts t w v u after core answer started is decides
