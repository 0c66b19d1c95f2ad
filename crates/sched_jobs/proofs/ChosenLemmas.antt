-- The first of the waiting jobs in the state.
use Rattle.std.proofs.Common.{◌≡◌, ℕ, ◌+◌, ◌<◌, ◌≤◌, inl, inr, Option, Some, None, IfSome, IfNone, sym, ◌∙◌, ap, subst, arith}
use Rattle.cube_shape.specs.declared.limits.TheConstants.{MAX_BITMAP_DIM}
use Rattle.sched_jobs.specs.Nodes.{key_of}
use Rattle.sched_law.specs.declared.job.Place.TheVariants.{Waiting}
use Rattle.sched_law.specs.declared.job.SchedJob.{SchedJob}
use Rattle.sched_law.specs.declared.job.SchedWait.{SchedWait}
use Rattle.sched_law.specs.State.{Sched}
use Rattle.sched_jobs.specs.declared.jobs.Jobs.{Jobs}
use Rattle.sched_jobs.specs.declared.search.Wanted.{Wanted}
use Rattle.sched_jobs.specs.Slots.{IsPresent, line_at, line_of, place_in, rank_of}
use Rattle.sched_jobs.specs.Select.{IsWanted}
use Rattle.sched_jobs.specs.Shows.{HasNoneWaiting, IsFirstWaiting, ShowsJobs}
use Rattle.sched_jobs.specs.Inner.Search.{IsChosen, IsFitIn, IsWantedAt}
use Rattle.sched_jobs.proofs.SlotLemmas.{in_line, inside_table}
use Rattle.sched_jobs.proofs.AlikeLemmas.{one_class, one_dim}

module _ (w : Sched) (jobs : Jobs) (shows : ShowsJobs w jobs) (any most : Option ℕ) (limit : ℕ) (wanted : Wanted)
    (yes : (job : SchedJob) → job.dim ≤ MAX_BITMAP_DIM → IsWanted any most limit job → IsWantedAt wanted job.dim (rank_of job.estimate))
    (no : (job : SchedJob) → IsWantedAt wanted job.dim (rank_of job.estimate) → IsWanted any most limit job) where
  -- a waiting job has a slot
  pub slot_of_waiting : (i : ℕ) (other : SchedWait) → w.place i ≡ Waiting other
      → (u : ℕ) × (place_in jobs.slots.items u ≡ Waiting other) × (key_of jobs.lines.nodes.items u ≡ i)
  slot_of_waiting i other waits =
      let found = shows.1.slot i (subst IsPresent (sym waits) tt) in
      (found.0, sym (shows.1.holds found.0 found.1) ∙ ap w.place found.2 ∙ waits, found.2)

  -- a waiting job that is wanted is in its line
  pub fits : (u : ℕ) (other : SchedWait) → place_in jobs.slots.items u ≡ Waiting other → IsWanted any most limit other.job
      → IsFitIn jobs.lines.nodes.items (λ u. line_of (place_in jobs.slots.items u)) wanted other.job.class u
  fits u other at is =
      let low : other.job.dim ≤ MAX_BITMAP_DIM = shows.2.dim u other at in
      (other.job.dim, omega (arith, low), (ap line_of at, subst (IsWantedAt wanted other.job.dim) (sym (shows.2.rank u other at)) (yes other.job low is)))

  pub chosen_none : IsChosen jobs.lines.nodes.items (λ u. line_of (place_in jobs.slots.items u)) wanted None → HasNoneWaiting any most limit w
  chosen_none none i other waits is =
      let found = slot_of_waiting i other waits in
      none other.job.class found.0 (shows.2.class found.0 other found.1) (fits found.0 other found.1 is)

  pub chosen_some : (slot : ℕ) → IsChosen jobs.lines.nodes.items (λ u. line_of (place_in jobs.slots.items u)) wanted (Some slot) → IsFirstWaiting any most limit w jobs slot
  chosen_some slot chosen =
      let fit = chosen.2.0 in
      let found = in_line (place_in jobs.slots.items slot) (line_at chosen.0 fit.0) fit.2.0 in
      let low : found.0.job.dim ≤ MAX_BITMAP_DIM = shows.2.dim slot found.0 found.1 in
      let few : fit.0 < MAX_BITMAP_DIM + 1 = fit.1 in
      let of_class : found.0.job.class ≡ chosen.0 = one_class found.0.job.class found.0.job.dim chosen.0 fit.0 low (omega (arith, few)) found.2 in
      let of_dim : found.0.job.dim ≡ fit.0 = one_dim found.0.job.class found.0.job.dim chosen.0 fit.0 low (omega (arith, few)) found.2 in
      let present : IsPresent (place_in jobs.slots.items slot) = subst IsPresent (sym found.1) tt in
      record {
        inside = inside_table jobs.slots.items slot present;
        wait = found.0;
        at = found.1;
        waits = shows.1.holds slot present ∙ found.1;
        wanted = no found.0.job (subst (λ (d : ℕ). IsWantedAt wanted d (rank_of found.0.job.estimate)) (sym of_dim)
            (subst (IsWantedAt wanted fit.0) (shows.2.rank slot found.0 found.1) fit.2.1));
        first = λ i other waits is before.
            let there = slot_of_waiting i other waits in
            let fit_there = fits there.0 other there.1 is in
            elim before [
              | inl less ↦ chosen.3 other.job.class there.0 (omega (arith, less, of_class)) fit_there
              | inr same ↦
                  let least : key_of jobs.lines.nodes.items slot ≤ key_of jobs.lines.nodes.items there.0 =
                  chosen.2.1 there.0 (subst (λ (k : ℕ). IsFitIn jobs.lines.nodes.items (λ u. line_of (place_in jobs.slots.items u)) wanted k there.0) (same.0 ∙ of_class) fit_there) in
                  let number = there.2 in
                  let earlier : i < key_of jobs.lines.nodes.items slot = same.1 in
                  omega (arith, least, number, earlier)
            ];
      }

  pub answer_some : (answer : Option ℕ) → IsChosen jobs.lines.nodes.items (λ u. line_of (place_in jobs.slots.items u)) wanted answer → IfSome answer (IsFirstWaiting any most limit w jobs)
  answer_some None chosen = tt
  answer_some (Some slot) chosen = chosen_some slot chosen

  pub answer_none : (answer : Option ℕ) → IsChosen jobs.lines.nodes.items (λ u. line_of (place_in jobs.slots.items u)) wanted answer → IfNone answer (HasNoneWaiting any most limit w)
  answer_none None chosen = chosen_none chosen
  answer_none (Some slot) chosen = tt
