-- The reservation of the slot ends.
use Rattle.std.proofs.Common.{Option, sym, subst}
use Rattle.sched_law.specs.State.{cancel}
use Rattle.sched_core.specs.declared.assigned.Assigned.{Assigned}
use Rattle.sched_core.specs.Shows.{ShowsCore, job_arrival}
use Rattle.sched_core.proofs.CoreLemmas.{cancel_core}
use Rattle.sched_core.proofs.scheduler.Core.cancel.Goals as goal

pub returns-clause-shows : goal.returns-clause-shows
returns-clause-shows c = λ w k.
    subst (λ (o : Option Assigned). ShowsCore (cancel (job_arrival c.args.self.now c.args.slot) w) (record c.args.self.now { jobs = c.cancel.new.self; reserved = o })) (sym c.forget.ensures)
    (cancel_core w c.args.self.now k c.cancel.new.self c.args.slot c.cancel.ensures.capacity c.cancel.ensures.others c.requires.job.0 c.requires.job.1 (c.cancel.ensures.shows w k.jobs))
