-- What a table that shows a state says of its slots.
use Rattle.std.proofs.Common.{◌≡◌, ℕ, ◌<◌, ◌≤◌, inl, inr, sym, ◌∙◌, ap, subst, arith}
use Rattle.std.proofs.lemmas.Bool.{cases_eq}
use Rattle.sched_jobs.specs.declared.nodes.TheConstants.{MAX_SLOTS}
use Rattle.sched_law.specs.declared.job.SchedJob.{SchedJob}
use Rattle.sched_law.specs.declared.job.SchedWait.{SchedWait}
use Rattle.sched_law.specs.declared.job.SchedRun.{SchedRun}
use Rattle.sched_law.specs.declared.job.Place.{Place}
use Rattle.sched_law.specs.declared.job.Place.TheVariants.{Waiting, Running}
use Rattle.sched_law.specs.State.{Sched, Runs, Waits, submit}
use Rattle.sched_law.proofs.SetLemmas.{set_else}
use Rattle.sched_jobs.specs.declared.jobs.Jobs.{Jobs}
use Rattle.sched_jobs.specs.Slots.{IsPresent}
use Rattle.sched_jobs.specs.Shows.{HasJob, HasOthers, ShowsJobs, arrival_of, capacity_of, place_of}

pub waiting_present : (p : Place) (wait : SchedWait) → p ≡ Waiting wait → IsPresent p
waiting_present p wait is = subst IsPresent (sym is) tt

pub running_present : (p : Place) (run : SchedRun) → p ≡ Running run → IsPresent p
running_present p run is = subst IsPresent (sym is) tt

module _ (w : Sched) (jobs : Jobs) (k : ShowsJobs w jobs) where
  pub table_limit : capacity_of jobs ≤ MAX_SLOTS
  table_limit = k.1.limit

  pub next_shown : w.next ≡ jobs.next
  next_shown = k.0

  pub slot_place : (u : ℕ) → HasJob jobs u → w.place (arrival_of jobs u) ≡ place_of jobs u
  slot_place u has = k.1.holds u has

  pub slot_before : (u : ℕ) → HasJob jobs u → arrival_of jobs u < jobs.next
  slot_before u has = k.1.before u has

  pub slot_once : (u v : ℕ) → HasJob jobs u → HasJob jobs v → arrival_of jobs u ≡ arrival_of jobs v → u ≡ v
  slot_once u v has_u has_v same = k.1.once u v has_u has_v same

  pub place_slot : (a : ℕ) → IsPresent (w.place a) → (u : ℕ) × HasJob jobs u × (arrival_of jobs u ≡ a)
  place_slot a has = k.1.slot a has

  pub slot_waits : (u : ℕ) (wait : SchedWait) → place_of jobs u ≡ Waiting wait → Waits w (arrival_of jobs u) wait
  slot_waits u wait is = slot_place u (waiting_present (place_of jobs u) wait is) ∙ is

  pub slot_runs : (u : ℕ) (run : SchedRun) → place_of jobs u ≡ Running run → Runs w (arrival_of jobs u) run
  slot_runs u run is = slot_place u (running_present (place_of jobs u) run is) ∙ is

-- a new job is in a slot that was free
module _ (w : Sched) (job : SchedJob) (old new : Jobs) (slot : ℕ) (k : ShowsJobs w old) (after : ShowsJobs (submit job w) new)
    (arrived : arrival_of new slot ≡ old.next) (others : HasOthers old new slot) where
  pub submitted_free : HasJob old slot → ⊥
  submitted_free has = elim (cases_eq found.0 slot) [
    | inl here ↦ omega (arith, ap (arrival_of new) here, found.2, arrived, before)
    | inr other ↦
        let stays = others found.0 other in
        other (slot_once w old k found.0 slot (subst IsPresent stays.0 found.1) has (sym stays.1 ∙ found.2))
  ]
    where
      a : ℕ
      a = arrival_of old slot

      before : a < old.next
      before = slot_before w old k slot has

      same : (submit job w).place a ≡ place_of old slot
      same =
          set_else w.place w.next (Waiting (record { job = job; passed = 0 })) a (λ here. omega (arith, here, before, next_shown w old k))
          ∙ slot_place w old k slot has

      found : (u : ℕ) × HasJob new u × (arrival_of new u ≡ a)
      found = place_slot (submit job w) new after a (subst IsPresent (sym same) has)

-- a call about one slot keeps the jobs in their slots, if that slot still has its job
pub keeps_all : (old new : Jobs) (slot : ℕ) → HasOthers old new slot → arrival_of new slot ≡ arrival_of old slot → HasJob new slot
    → (u : ℕ) → HasJob old u → HasJob new u × (arrival_of new u ≡ arrival_of old u)
keeps_all old new slot others arrived has u was = elim (cases_eq u slot) [
  | inl here ↦ (subst (HasJob new) (sym here) has, ap (arrival_of new) here ∙ arrived ∙ ap (arrival_of old) (sym here))
  | inr other ↦ let on = others u other in (subst IsPresent (sym on.0) was, on.1)
]
