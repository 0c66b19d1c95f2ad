use Rattle.std.proofs.Common.{subst}
use Rattle.sched_law.specs.State.{cancel}
use Rattle.sched_core.specs.declared.scheduler.Core.{Core}
use Rattle.sched_core.specs.Shows.{ShowsCore, job_arrival}
use Rattle.sched_core.proofs.kept.Scheduler.cancel.Goals as goal

pub invariant_of-self : goal.invariant_of-self
invariant_of-self c =
    (cancel (job_arrival c.self.inside.core c.args.slot) c.self.invariant.0, c.cancel.ensures.shows c.self.invariant.0 c.self.invariant.1)

pub returns-clause-shows : goal.returns-clause-shows
returns-clause-shows c = λ w k.
    subst (λ (x : Core). ShowsCore w x → ShowsCore (cancel (job_arrival x c.args.slot) w) c.cancel.new.self) c.self.view_is (c.cancel.ensures.shows w) k
