use Rattle.sched_law.specs.State.{submit}
use Rattle.sched_core.proofs.HeldLemmas.{kept_if}
use Rattle.sched_core.proofs.kept.Scheduler.submit.Goals as goal

pub invariant_of-self : goal.invariant_of-self
invariant_of-self c =
    let w = c.self.invariant.0 in
    let k = c.self.invariant.1 in
    kept_if c.submit.result w (submit c.args.job w) c.self.inside.core c.submit.new.self c.submit.ensures.unchanged (c.submit.ensures.shows w k) k
