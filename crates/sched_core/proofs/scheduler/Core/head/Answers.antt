-- The head by the reservation, or the first job with a usable block.
use Rattle.sched_core.proofs.ChoiceLemmas.{head_unusable, heads, no_heads}
use Rattle.sched_core.proofs.scheduler.Core.head.Goals as goal

pub returns-in_default-largest_usable-clause-none : goal.returns-in_default-largest_usable-clause-none
returns-in_default-largest_usable-clause-none c = λ w k. head_unusable w c.args.self.now k c.in_default.is (c.in_default-largest_usable.ensures.none w k.machine)

pub returns-clause-head : goal.returns-clause-head
returns-clause-head c = λ w k.
    heads w c.args.self.now k c.in_default.is c.in-Some-largest_usable.largest (c.in-Some-largest_usable.ensures.largest w k.machine) c.first.result (c.first.ensures.first w k.jobs)

pub returns-clause-none : goal.returns-clause-none
returns-clause-none c = λ w k.
    no_heads w c.args.self.now k c.in_default.is c.in-Some-largest_usable.largest (c.in-Some-largest_usable.ensures.largest w k.machine) c.first.result (c.first.ensures.none w k.jobs)
