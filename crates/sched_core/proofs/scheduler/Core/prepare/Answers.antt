-- A block is reserved, or the head waits for that.
use Rattle.std.proofs.Common.{refl, sym, ◌∙◌}
use Rattle.sched_law.specs.State.{reserve}
use Rattle.sched_core.specs.Shows.{job_arrival}
use Rattle.sched_core.proofs.PickLemmas.{prepare_defers, prepare_keeps, prepare_reserves, prepare_waits, reserve_core}
use Rattle.sched_core.proofs.scheduler.Core.prepare.Goals as goal

pub returns-in_default-clause-prepares : goal.returns-in_default-clause-prepares
returns-in_default-clause-prepares c = λ w slot k none. (w, prepare_keeps w c.args.self.now k c.args.head slot c.in_default.not-None, k)

pub returns-then-has_to_wait-clause-prepares : goal.returns-then-has_to_wait-clause-prepares
returns-then-has_to_wait-clause-prepares c = λ w slot k none.
    let waits = (c.has_to_wait.ensures w k).0 c.if-has_to_wait.true in
    (w, prepare_waits w c.args.self.now k c.args.head slot c.in-None.is c.in-Waiting.wait (sym c.place.ensures ∙ c.in-Waiting.is) waits.0 waits.1 none, k)

pub returns-then-not-may_reserve-clause-prepares : goal.returns-then-not-may_reserve-clause-prepares
returns-then-not-may_reserve-clause-prepares c = λ w slot k none.
    let no = c.if-not-may_reserve.ensures.no refl w k in (
      w,
      prepare_defers w c.args.self.now k c.args.head slot c.in-None.is c.in-Waiting.wait (sym c.place.ensures ∙ c.in-Waiting.is) c.choose-block.result (c.choose-block.ensures.chosen w k.machine) no.0 no.1,
      k,
    )

pub returns-clause-prepares : goal.returns-clause-prepares
returns-clause-prepares c = λ w slot k none.
    let yes_is = c.if-not-may_reserve.ensures.yes refl w k in
    let at = sym c.place.ensures ∙ c.in-Waiting.is in (
      reserve (job_arrival c.args.self.now c.args.head) c.choose-block.result w,
      prepare_reserves w c.args.self.now k c.args.head slot c.in-None.is c.in-Waiting.wait at c.choose-block.result (c.choose-block.ensures.chosen w k.machine) yes_is.0 yes_is.1 yes_is.2,
      reserve_core w c.args.self.now k c.args.head slot c.in-None.is c.in-Waiting.wait at c.choose-block.result (c.choose-block.ensures.chosen w k.machine) yes_is.0 yes_is.1 yes_is.2,
    )
