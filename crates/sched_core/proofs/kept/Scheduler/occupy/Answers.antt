use Rattle.std.proofs.Common.{sym, subst}
use Rattle.sched_law.specs.State.{IsVacant, occupy}
use Rattle.sched_core.specs.Shows.{ShowsCore}
use Rattle.sched_core.proofs.HeldLemmas.{kept_by}
use Rattle.sched_core.proofs.kept.Scheduler.occupy.Goals as goal

pub invariant_of-self : goal.invariant_of-self
invariant_of-self c =
    let w = c.self.invariant.0 in
    let k = c.self.invariant.1 in
    kept_by c.occupy.result w (occupy c.args.region w) c.self.inside.core c.occupy.new.self (IsVacant w c.args.region) (c.occupy.ensures.vacant w k) (c.occupy.ensures.shows w k) c.occupy.ensures.unchanged k

pub returns-clause-vacant : goal.returns-clause-vacant
returns-clause-vacant c = λ w k. c.occupy.ensures.vacant w (subst (ShowsCore w) (sym c.self.view_is) k)

pub returns-clause-shows : goal.returns-clause-shows
returns-clause-shows c = λ w k. c.occupy.ensures.shows w (subst (ShowsCore w) (sym c.self.view_is) k)
