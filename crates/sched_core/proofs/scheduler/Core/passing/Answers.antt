-- With no vacant block, with no reservation, or with one.
use Rattle.std.proofs.Common.{Option, refl, sym, subst}
use Rattle.std.specs.Prelude.{IfNone}
use Rattle.sched_law.specs.declared.job.Reservation.{Reservation}
use Rattle.sched_jobs.specs.Shows.{arrival_of}
use Rattle.sched_core.specs.Inner.{HasNonePassing}
use Rattle.sched_core.proofs.ChoiceLemmas.{kept_is, kept_none, none_vacant}
use Rattle.sched_core.proofs.scheduler.Core.passing.Goals as goal

pub returns-in_default-clause-none : goal.returns-in_default-clause-none
returns-in_default-clause-none c = λ w k. none_vacant w c.args.self.now k w.reserved (c.in_default.ensures.none w k.machine)

pub passing_any-requires-clause-most : goal.passing_any-requires-clause-most
passing_any-requires-clause-most c = λ w k. c.in-Some.ensures.largest w k.machine

pub returns-in_default-reserved-clause-none : goal.returns-in_default-reserved-clause-none
returns-in_default-reserved-clause-none c = λ w k.
    subst (λ (o : Option Reservation). IfNone c.passing_any.result (HasNonePassing o w)) (sym (kept_none w c.args.self.now k c.in_default-reserved.is)) (c.passing_any.ensures.none w k)

pub passing_around-requires-clause-most : goal.passing_around-requires-clause-most
passing_around-requires-clause-most c = λ w k. c.in-Some.ensures.largest w k.machine

pub returns-clause-none : goal.returns-clause-none
returns-clause-none c = λ w k.
    let kept : Reservation = record { job = arrival_of c.args.self.now.jobs c.in-Some-reserved.kept.slot; block = c.in-Some-reserved.kept.block } in
    subst (λ (o : Option Reservation). IfNone c.passing_around.result (HasNonePassing o w)) (sym (kept_is w c.args.self.now k c.in-Some-reserved.kept c.in-Some-reserved.kept.slot c.in-Some-reserved.is refl)) (c.passing_around.ensures.none w kept k refl)
