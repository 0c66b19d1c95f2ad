-- The first job with a block around the avoided one.
use Rattle.std.proofs.Common.{Some, sym, ◌∙◌, subst}
use Rattle.cube_shape.specs.declared.region.Region.{Region}
use Rattle.sched_law.specs.Policy.{IsVacantBeside}
use Rattle.sched_core.specs.Inner.{HasNonePassing, IsPassing}
use Rattle.sched_core.proofs.ChoiceLemmas.{IsLargest, around_found, around_free, around_wanted, first_passing, none_passing}
use Rattle.sched_core.proofs.CoreLemmas.{waiting_fits}
use Rattle.sched_core.proofs.scheduler.Core.passing_around.Goals as goal

pub returns-in_default-clause-none : goal.returns-in_default-clause-none
returns-in_default-clause-none c = λ w kept k same.
    let any = c.largest_beside-any.result in
    let limit = c.limit_beside-limit.result in
    let besides : IsLargest w.dim (IsVacantBeside w c.args.avoid) any = (c.largest_beside-any.ensures.largest w k.machine, c.largest_beside-any.ensures.none w k.machine) in
    subst (λ (r : Region). HasNonePassing (Some (record { job = kept.job; block = r })) w) (sym same)
    (none_passing w c.args.self.now k (Some (record { job = kept.job; block = c.args.avoid })) any (Some c.args.most) limit
    (around_wanted w c.args.self.now k kept.job c.args.avoid any c.args.most limit besides (c.requires.most w k) (c.limit_beside-limit.ensures.brief w k))
    (c.in_default.ensures.none w k.jobs))

pub place-requires : goal.place-requires
place-requires c = (c.in-Some.ensures.first c.requires.shows.0 c.requires.shows.1.jobs).inside

pub returns-in_default-place : goal.returns-in_default-place
returns-in_default-place c =
    let is = c.in-Some.ensures.first c.requires.shows.0 c.requires.shows.1.jobs in
    absurd (c.in_default-place.not-Waiting is.wait (c.place.ensures ∙ is.at))

pub first_around-requires-clause-dim : goal.first_around-requires-clause-dim
first_around-requires-clause-dim c = waiting_fits c.requires.shows.0 c.args.self.now c.requires.shows.1 c.in-Some.slot c.in-Waiting.wait (sym c.place.ensures ∙ c.in-Waiting.is)

pub returns-in_default-first_around-clause-none : goal.returns-in_default-first_around-clause-none
returns-in_default-first_around-clause-none c = λ w kept k same.
    let any = c.largest_beside-any.result in
    let besides : IsLargest w.dim (IsVacantBeside w c.args.avoid) any = (c.largest_beside-any.ensures.largest w k.machine, c.largest_beside-any.ensures.none w k.machine) in
    absurd (around_found w c.args.self.now k kept.job c.args.avoid any c.args.most c.limit_beside-limit.result besides (c.requires.most w k) (c.limit_beside-limit.ensures.brief w k)
    c.in-Some.slot c.in-Waiting.wait (c.in-Some.ensures.first w k.jobs) (sym c.place.ensures ∙ c.in-Waiting.is) (c.in_default-first_around.ensures.none w k))

pub returns-clause-first : goal.returns-clause-first
returns-clause-first c = λ w kept k same.
    let any = c.largest_beside-any.result in
    let limit = c.limit_beside-limit.result in
    let besides : IsLargest w.dim (IsVacantBeside w c.args.avoid) any = (c.largest_beside-any.ensures.largest w k.machine, c.largest_beside-any.ensures.none w k.machine) in
    let first = c.in-Some-first_around.ensures.first w k in
    let at = sym c.place.ensures ∙ c.in-Waiting.is in
    subst (λ (r : Region). IsPassing (Some (record { job = kept.job; block = r })) w c.args.self.now.jobs (record { slot = c.in-Some.slot; block = c.in-Some-first_around.block })) (sym same)
    (first_passing w c.args.self.now k (Some (record { job = kept.job; block = c.args.avoid })) any (Some c.args.most) limit
    (around_wanted w c.args.self.now k kept.job c.args.avoid any c.args.most limit besides (c.requires.most w k) (c.limit_beside-limit.ensures.brief w k))
    (record { slot = c.in-Some.slot; block = c.in-Some-first_around.block }) c.in-Waiting.wait first.0 (c.in-Some.ensures.first w k.jobs) at first.1
    (around_free w c.args.self.now k kept.job c.args.avoid any c.args.most limit besides (c.requires.most w k) (c.limit_beside-limit.ensures.brief w k)
    c.in-Some.slot c.in-Waiting.wait (c.in-Some.ensures.first w k.jobs) at first.0 first.2))
