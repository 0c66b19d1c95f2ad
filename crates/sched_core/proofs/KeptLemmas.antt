-- The reservation after a call.
use Rattle.std.proofs.Common.{◌≡◌, ◌≢◌, ℕ, ◌<◌, inl, inr, Bool, true, false, cond, eqb, Option, Some, None, refl, sym, ◌∙◌, ap, subst}
use Rattle.std.proofs.lemmas.Bool.{cases_eq, ne_eqb, eq-eqb, eqb-false}
use Rattle.cube_shape.specs.declared.region.Region.{Region}
use Rattle.sched_law.specs.declared.job.SchedWait.{SchedWait}
use Rattle.sched_law.specs.declared.job.Place.TheVariants.{Waiting}
use Rattle.sched_law.specs.declared.job.Reservation.{Reservation}
use Rattle.sched_law.specs.State.{beside, overlaps, without}
use Rattle.sched_jobs.specs.declared.jobs.Jobs.{Jobs}
use Rattle.sched_jobs.specs.Shows.{HasJob, HasOthers, arrival_of, capacity_of, place_of}
use Rattle.sched_core.specs.declared.assigned.Assigned.{Assigned}
use Rattle.sched_core.specs.Shows.{ShowsKept}
use Rattle.sched_core.specs.Inner.{kept_beside, kept_without}
use Rattle.sched_core.proofs.JobLemmas.{waiting_present}

-- A waiting job of a slot waits on there, under its number.
abbrev pub StaysWaiting : Jobs → Jobs → ℕ → Type 0
StaysWaiting old new u =
    (wait : SchedWait) → place_of old u ≡ Waiting wait
    → ((now : SchedWait) × (place_of new u ≡ Waiting now)) × (arrival_of new u ≡ arrival_of old u)

pub kept_stays : (o : Option Reservation) (old new : Jobs) (kept : Option Assigned) → capacity_of new ≡ capacity_of old
    → ((it : Assigned) → kept ≡ Some it → StaysWaiting old new it.slot) → ShowsKept o old kept → ShowsKept o new kept
kept_stays o old new None slots stays is = is
kept_stays o old new (Some it) slots stays (inside, waits, is) =
    let on = stays it refl waits.0 waits.1 in
    (subst (λ n. it.slot < n) (sym slots) inside, on.0, is ∙ ap (λ (a : ℕ). Some (record { job = a; block = it.block })) (sym on.1))

-- what is not in the slot of the call stays
pub others_stay : (old new : Jobs) (slot u : ℕ) → HasOthers old new slot → u ≢ slot → StaysWaiting old new u
others_stay old new slot u others other wait is = let on = others u other in ((wait, on.0 ∙ is), on.1)

-- the reservation of the slot of the call ends
module _ (o : Option Reservation) (old new : Jobs) (slot : ℕ) (slots : capacity_of new ≡ capacity_of old) (others : HasOthers old new slot)
    (once : (u : ℕ) → HasJob old u → arrival_of old u ≡ arrival_of old slot → u ≡ slot) where
  pub kept_ends : (kept : Option Assigned) → ShowsKept o old kept → ShowsKept (without (arrival_of old slot) o) new (kept_without slot kept)
  kept_ends None is = ap (without (arrival_of old slot)) is
  kept_ends (Some it) (inside, waits, is) = turn (eqb it.slot slot) refl
    where
      turn : (c : Bool) → eqb it.slot slot ≡ c → ShowsKept (without (arrival_of old slot) o) new (cond c None (Some it))
      turn true at =
          let here : it.slot ≡ slot = elim (cases_eq it.slot slot) [
            | inl here ↦ here
            | inr other ↦ cc (at, ne_eqb it.slot slot other)
          ] in
          ap (without (arrival_of old slot)) is
          ∙ ap (λ (c : Bool). cond c None (Some (record { job = arrival_of old it.slot; block = it.block }))) (eq-eqb (arrival_of old it.slot) (arrival_of old slot) (ap (arrival_of old) here))
      turn false at =
          let other : it.slot ≢ slot = λ here. eqb-false it.slot slot at here in
          let stays = others it.slot other in
          let apart : arrival_of old it.slot ≢ arrival_of old slot = λ same. other (once it.slot (waiting_present (place_of old it.slot) waits.0 waits.1) same) in (
            subst (λ n. it.slot < n) (sym slots) inside,
            (waits.0, stays.0 ∙ waits.1),
            ap (without (arrival_of old slot)) is
                ∙ ap (λ (c : Bool). cond c None (Some (record { job = arrival_of old it.slot; block = it.block }))) (ne_eqb (arrival_of old it.slot) (arrival_of old slot) apart)
                ∙ ap (λ (a : ℕ). Some (record { job = a; block = it.block })) (sym stays.1),
          )

-- the reservation of a part of the block ends
pub kept_clears : (r : Region) (o : Option Reservation) (jobs : Jobs) (kept : Option Assigned) → ShowsKept o jobs kept → ShowsKept (beside r o) jobs (kept_beside r kept)
kept_clears r o jobs None is = ap (beside r) is
kept_clears r o jobs (Some it) (inside, waits, is) = turn (overlaps r it.block) refl
  where
    turn : (c : Bool) → overlaps r it.block ≡ c → ShowsKept (beside r o) jobs (cond c None (Some it))
    turn true at =
        ap (beside r) is ∙ ap (λ (c : Bool). cond c None (Some (record { job = arrival_of jobs it.slot; block = it.block }))) at
    turn false at = (
      inside,
      waits,
      ap (beside r) is ∙ ap (λ (c : Bool). cond c None (Some (record { job = arrival_of jobs it.slot; block = it.block }))) at,
    )
