-- The first job with a vacant block.
use Rattle.std.proofs.Common.{Some, None, sym, ◌∙◌}
use Rattle.sched_core.proofs.ChoiceLemmas.{any_found, any_wanted, first_passing, none_passing}
use Rattle.sched_core.proofs.CoreLemmas.{waiting_fits}
use Rattle.sched_core.proofs.scheduler.Core.passing_any.Goals as goal

pub returns-in_default-clause-none : goal.returns-in_default-clause-none
returns-in_default-clause-none c = λ w k.
    none_passing w c.args.self.now k None (Some c.args.most) None 0 (any_wanted w c.args.self.now k c.args.most (c.requires.most w k)) (c.in_default.ensures.none w k.jobs)

pub place-requires : goal.place-requires
place-requires c = (c.in-Some.ensures.first c.requires.shows.0 c.requires.shows.1.jobs).inside

pub returns-in_default-place : goal.returns-in_default-place
returns-in_default-place c =
    let is = c.in-Some.ensures.first c.requires.shows.0 c.requires.shows.1.jobs in
    absurd (c.in_default-place.not-Waiting is.wait (c.place.ensures ∙ is.at))

pub first-requires : goal.first-requires
first-requires c = waiting_fits c.requires.shows.0 c.args.self.now c.requires.shows.1 c.in-Some.slot c.in-Waiting.wait (sym c.place.ensures ∙ c.in-Waiting.is)

pub returns-in_default-first-clause-none : goal.returns-in_default-first-clause-none
returns-in_default-first-clause-none c = λ w k.
    absurd (any_found w c.args.self.now k c.args.most (c.requires.most w k) c.in-Some.slot c.in-Waiting.wait (c.in-Some.ensures.first w k.jobs) (sym c.place.ensures ∙ c.in-Waiting.is) (c.in_default-first.ensures.none w k.machine))

pub returns-clause-first : goal.returns-clause-first
returns-clause-first c = λ w k.
    let first = c.in-Some-first.ensures.first w k.machine in
    first_passing w c.args.self.now k None (Some c.args.most) None 0 (any_wanted w c.args.self.now k c.args.most (c.requires.most w k))
    (record { slot = c.in-Some.slot; block = c.in-Some-first.block }) c.in-Waiting.wait first.0 (c.in-Some.ensures.first w k.jobs) (sym c.place.ensures ∙ c.in-Waiting.is) first.1 first.2
