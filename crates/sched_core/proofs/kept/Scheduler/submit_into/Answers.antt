use Rattle.std.specs.Prelude.{IsTrue}
use Rattle.sched_law.specs.State.{submit}
use Rattle.sched_core.proofs.HeldLemmas.{kept_by}
use Rattle.sched_core.proofs.kept.Scheduler.submit_into.Goals as goal

pub invariant_of-self : goal.invariant_of-self
invariant_of-self c =
    let w = c.self.invariant.0 in
    let k = c.self.invariant.1 in
    kept_by c.submit_into.result w (submit c.args.job w) c.self.inside.core c.submit_into.new.self (IsTrue c.submit_into.result) ((λ t. t), (λ t. t)) (c.submit_into.ensures.shows w k)
    c.submit_into.ensures.unchanged k
