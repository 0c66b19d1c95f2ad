-- The job of the slot waits on.
use Rattle.sched_core.proofs.JobLemmas.{keeps_all, waiting_present}
use Rattle.sched_core.proofs.CoreLemmas.{pass_core}
use Rattle.sched_core.proofs.scheduler.Core.count.Goals as goal

pub returns-clause-keeps : goal.returns-clause-keeps
returns-clause-keeps c =
    keeps_all c.args.self.now.jobs c.pass.new.self c.args.head c.pass.ensures.others c.pass.ensures.arrival (waiting_present _ _ (c.pass.ensures.place c.requires.job.0 c.requires.job.1))

pub returns-clause-shows : goal.returns-clause-shows
returns-clause-shows c = λ w wait k waits.
    pass_core w c.args.self.now k c.pass.new.self c.args.head c.pass.ensures.capacity c.pass.ensures.others wait _ c.args.k waits (c.pass.ensures.place wait waits) c.pass.ensures.arrival
    (c.pass.ensures.shows w wait k.jobs waits)
