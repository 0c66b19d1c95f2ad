-- The reservation is that of the slot.
use Rattle.std.proofs.Common.{inl, refl}
use Rattle.sched_core.proofs.ChoiceLemmas.{kept_is}
use Rattle.sched_core.proofs.scheduler.Core.promise.Goals as goal

pub returns : goal.returns
returns c = λ w k taken.
    inl (c.in-Some.kept.block, c.latest.result, kept_is w c.args.self.now k c.in-Some.kept c.args.slot c.in-Some.is c.if-kept-slot.false, c.latest.ensures w k.machine, refl)
