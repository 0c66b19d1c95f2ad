-- The block apart from the avoided one comes first.
use Rattle.std.proofs.Common.{inl}
use Rattle.sched_core.proofs.ChoiceLemmas.{around_or}
use Rattle.sched_core.proofs.scheduler.Core.first_around.Goals as goal

pub returns-in-Some-clause-first : goal.returns-in-Some-clause-first
returns-in-Some-clause-first c = λ w k. let first = c.in-Some.ensures.first w k.machine in (first.0, first.1, inl first.2)

pub returns-clause-first : goal.returns-clause-first
returns-clause-first c = λ w k. around_or w c.args.k c.args.avoid (c.in_default.ensures.none w k.machine) c.first.result (c.first.ensures.first w k.machine)
