-- Which jobs come before a waiting one.
use Rattle.std.proofs.Common.{◌≡◌, ◌≢◌, ℕ, ◌+◌, ◌<◌, ◌⊎◌, inl, inr, Some, None, sym, ◌∙◌, ap, subst, arith}
use Rattle.alloc_bits.specs.Count.{IsCount}
use Rattle.sched_law.specs.declared.job.SchedWait.{SchedWait}
use Rattle.sched_law.specs.declared.job.Place.TheVariants.{Waiting}
use Rattle.sched_law.specs.State.{Sched, Waits}
use Rattle.sched_law.specs.Policy.{Precedes}
use Rattle.sched_law.proofs.SetLemmas.{wait_is}
use Rattle.sched_jobs.specs.Counts.{WaitsBefore}
use Rattle.sched_jobs.specs.Shows.{arrival_of, place_of}
use Rattle.sched_jobs.proofs.NumberLemmas.{count_alike, count_both, count_none, count_one}
use Rattle.sched_core.specs.declared.assigned.Assigned.{Assigned}
use Rattle.sched_core.specs.declared.scheduler.Core.{Core}
use Rattle.sched_core.specs.Shows.{ShowsCore, ShowsKept}
use Rattle.sched_core.specs.Answers.{ComesBefore, ComesBeforeBy}
use Rattle.sched_core.proofs.JobLemmas.{next_shown, slot_before, slot_once, slot_waits, waiting_present}

module _ (w : Sched) (core : Core) (k : ShowsCore w core) (slot : ℕ) (wait : SchedWait) (waits : place_of core.jobs slot ≡ Waiting wait) (count : ℕ)
    (is : IsCount (WaitsBefore w (arrival_of core.jobs slot) wait.job) w.next count) where
  -- no block is reserved
  pub before_none : core.reserved ≡ None → IsCount (ComesBefore w (arrival_of core.jobs slot) wait.job) w.next count
  before_none none =
      let nothing : w.reserved ≡ None = subst (ShowsKept w.reserved core.jobs) none k.kept in
      count_alike (WaitsBefore w (arrival_of core.jobs slot) wait.job) (ComesBefore w (arrival_of core.jobs slot) wait.job) w.next count
      (λ i has. subst (λ o. ComesBeforeBy o w (arrival_of core.jobs slot) wait.job i) (sym nothing) has)
      (λ i has. subst (λ o. ComesBeforeBy o w (arrival_of core.jobs slot) wait.job i) nothing has) is

  module _ (it : Assigned) (reserved : core.reserved ≡ Some it) where
    shown : ShowsKept w.reserved core.jobs (Some it)
    shown = subst (ShowsKept w.reserved core.jobs) reserved k.kept

    kept_waits : Waits w (arrival_of core.jobs it.slot) shown.1.0
    kept_waits = slot_waits w core.jobs k.jobs it.slot shown.1.0 shown.1.1

    -- what comes before, by the reservation of the state
    to_state : (i : ℕ) → (arrival_of core.jobs it.slot ≢ arrival_of core.jobs slot) × ((i ≡ arrival_of core.jobs it.slot) ⊎ WaitsBefore w (arrival_of core.jobs slot) wait.job i)
        → ComesBefore w (arrival_of core.jobs slot) wait.job i
    to_state i has = subst (λ o. ComesBeforeBy o w (arrival_of core.jobs slot) wait.job i) (sym shown.2) has

    of_state : (i : ℕ) → ComesBefore w (arrival_of core.jobs slot) wait.job i
        → (arrival_of core.jobs it.slot ≢ arrival_of core.jobs slot) × ((i ≡ arrival_of core.jobs it.slot) ⊎ WaitsBefore w (arrival_of core.jobs slot) wait.job i)
    of_state i has = subst (λ o. ComesBeforeBy o w (arrival_of core.jobs slot) wait.job i) shown.2 has

    -- the block is reserved for this job
    pub before_own : it.slot ≡ slot → IsCount (ComesBefore w (arrival_of core.jobs slot) wait.job) w.next 0
    before_own here =
        count_none (ComesBefore w (arrival_of core.jobs slot) wait.job) w.next (λ i has. (of_state i has).0 (ap (arrival_of core.jobs) here))

    module _ (other : it.slot ≢ slot) where
      apart : arrival_of core.jobs it.slot ≢ arrival_of core.jobs slot
      apart same = other (slot_once w core.jobs k.jobs it.slot slot (waiting_present (place_of core.jobs it.slot) shown.1.0 shown.1.1) (waiting_present (place_of core.jobs slot) wait waits) same)

      -- it is reserved for a job that comes before in order, too
      pub before_first : ((one : SchedWait) → place_of core.jobs it.slot ≡ Waiting one → Precedes (arrival_of core.jobs it.slot) one.job (arrival_of core.jobs slot) wait.job)
          → IsCount (ComesBefore w (arrival_of core.jobs slot) wait.job) w.next count
      before_first first =
          count_alike (WaitsBefore w (arrival_of core.jobs slot) wait.job) (ComesBefore w (arrival_of core.jobs slot) wait.job) w.next count
          (λ i has. to_state i (apart, inr has))
          (λ i has. elim (of_state i has).1 [
            | inl one ↦ subst (λ (x : ℕ). WaitsBefore w (arrival_of core.jobs slot) wait.job x) (sym one) (shown.1.0, kept_waits, first shown.1.0 shown.1.1)
            | inr before ↦ before
          ]) is

      -- it is reserved for a job that comes later in order
      pub before_later : ((one : SchedWait) → place_of core.jobs it.slot ≡ Waiting one → Precedes (arrival_of core.jobs it.slot) one.job (arrival_of core.jobs slot) wait.job → ⊥)
          → IsCount (ComesBefore w (arrival_of core.jobs slot) wait.job) w.next (count + 1)
      before_later later =
          let less : arrival_of core.jobs it.slot < core.jobs.next = slot_before w core.jobs k.jobs it.slot (waiting_present (place_of core.jobs it.slot) shown.1.0 shown.1.1) in
          count_alike (λ i. (i ≡ arrival_of core.jobs it.slot) ⊎ WaitsBefore w (arrival_of core.jobs slot) wait.job i) (ComesBefore w (arrival_of core.jobs slot) wait.job) w.next (count + 1)
          (λ i has. to_state i (apart, has)) (λ i has. (of_state i has).1)
          (count_both (λ i. i ≡ arrival_of core.jobs it.slot) (WaitsBefore w (arrival_of core.jobs slot) wait.job) w.next 1 count (count + 1) not_both (omega arith)
          (count_one (arrival_of core.jobs it.slot) w.next (omega (arith, less, next_shown w core.jobs k.jobs))) is)
        where
          not_both : (i : ℕ) → i ≡ arrival_of core.jobs it.slot → WaitsBefore w (arrival_of core.jobs slot) wait.job i → ⊥
          not_both i one has =
              let one_wait : has.0 ≡ shown.1.0 = wait_is (sym has.1 ∙ ap w.place one ∙ kept_waits) in
              later shown.1.0 shown.1.1
              (subst (λ (x : SchedWait). Precedes (arrival_of core.jobs it.slot) x.job (arrival_of core.jobs slot) wait.job) one_wait
              (subst (λ (x : ℕ). Precedes x has.0.job (arrival_of core.jobs slot) wait.job) one has.2))
