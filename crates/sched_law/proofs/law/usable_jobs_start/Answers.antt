use Rattle.sched_law.proofs.LawLemmas.{usable_start}
use Rattle.sched_law.proofs.law.usable_jobs_start.Goals as goal

pub returns : goal.returns
returns c = λ w j wait safe settled idle servable. usable_start w settled safe idle j wait servable
