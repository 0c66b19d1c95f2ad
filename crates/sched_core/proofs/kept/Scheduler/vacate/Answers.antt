use Rattle.std.proofs.Common.{◌≡◌, Some}
use Rattle.sched_law.specs.State.{vacate}
use Rattle.sched_core.proofs.HeldLemmas.{kept_by}
use Rattle.sched_core.proofs.kept.Scheduler.vacate.Goals as goal

pub invariant_of-self : goal.invariant_of-self
invariant_of-self c =
    let w = c.self.invariant.0 in
    let k = c.self.invariant.1 in
    kept_by c.vacate.result w (vacate c.args.region w) c.self.inside.core c.vacate.new.self (w.occupied c.args.region.base ≡ Some c.args.region) (c.vacate.ensures.out w k) (c.vacate.ensures.shows w k) c.vacate.ensures.unchanged k
