-- A function that is changed at one place, places of jobs, and a reservation that is dropped.
use Rattle.std.proofs.Common.{◌≡◌, ◌≢◌, ℕ, ◌⊎◌, inl, inr, Bool, true, false, cond, eqb, Option, Some, None, refl, sym, ◌∙◌, ap}
use Rattle.std.proofs.lemmas.Bool.{cases_eq, ne_eqb, eq-eqb, eqb-false}
use Rattle.cube_shape.specs.declared.region.Region.{Region}
use Rattle.sched_law.specs.declared.job.SchedWait.{SchedWait}
use Rattle.sched_law.specs.declared.job.SchedRun.{SchedRun}
use Rattle.sched_law.specs.declared.job.Place.{Place}
use Rattle.sched_law.specs.declared.job.Place.TheVariants.{Absent, Waiting, Running}
use Rattle.sched_law.specs.declared.job.Reservation.{Reservation}
use Rattle.sched_law.specs.State.{set, block_of, without, beside, overlaps}

pub set_here : {A : Type 0} (f : ℕ → A) (u : ℕ) (x : A) → set f u x u ≡ x
set_here f u x = ap (λ b. cond b x (f u)) (eq-eqb u u refl)

pub set_else : {A : Type 0} (f : ℕ → A) (u : ℕ) (x : A) (t : ℕ) → t ≢ u → set f u x t ≡ f t
set_else f u x t other = ap (λ b. cond b x (f t)) (ne_eqb t u other)

-- the value at a place is the new one or the old one
pub look : {A : Type 0} (f : ℕ → A) (u : ℕ) (x : A) (t : ℕ) (y : A) → set f u x t ≡ y → ((t ≡ u) × (x ≡ y)) ⊎ ((t ≢ u) × (f t ≡ y))
look f u x t y is = elim (cases_eq t u) [
  | inl at ↦ inl (at, sym (set_here f u x) ∙ ap (set f u x) (sym at) ∙ is)
  | inr other ↦ inr (other, sym (set_else f u x t other) ∙ is)
]

pub same : {A : Type 0} {a b : A} → ◌≡◌ {A = Option A} (Some a) (Some b) → a ≡ b
same e = cc

pub none_is_some : {A : Type 0} {a : A} → ◌≡◌ {A = Option A} None (Some a) → ⊥
none_is_some e = cc

-- ---- places

pub wait_is : {a b : SchedWait} → Waiting a ≡ Waiting b → a ≡ b
wait_is e = cc

pub run_is : {a b : SchedRun} → Running a ≡ Running b → a ≡ b
run_is e = cc

pub absent_waits : {wait : SchedWait} → Absent ≡ Waiting wait → ⊥
absent_waits e = cc

pub absent_runs : {run : SchedRun} → Absent ≡ Running run → ⊥
absent_runs e = cc

pub runs_waits : {run : SchedRun} {wait : SchedWait} → Running run ≡ Waiting wait → ⊥
runs_waits e = cc

-- a block that a job holds is that of its run
pub held_run : (place : ℕ → Place) (j : ℕ) (r : Region) → block_of (place j) ≡ Some r → (run : SchedRun) × (place j ≡ Running run) × (run.block ≡ r)
held_run place j r is = at (place j) refl is
  where
    at : (p : Place) → place j ≡ p → block_of p ≡ Some r → (run : SchedRun) × (place j ≡ Running run) × (run.block ≡ r)
    at Absent e none = absurd (none_is_some none)
    at (Waiting wait) e none = absurd (none_is_some none)
    at (Running run) e some = (run, e, same some)

-- ---- reservations

pub without_some : (j : ℕ) (o : Option Reservation) (r : Reservation) → without j o ≡ Some r → (o ≡ Some r) × (r.job ≢ j)
without_some j None r e = absurd (none_is_some e)
without_some j (Some x) r e = turn (eqb x.job j) refl e
  where
    turn : (c : Bool) → eqb x.job j ≡ c → ◌≡◌ {A = Option Reservation} (cond c None (Some x)) (Some r)
        → (◌≡◌ {A = Option Reservation} (Some x) (Some r)) × (r.job ≢ j)
    turn true at e = absurd (none_is_some e)
    turn false other e = (e, λ at. eqb-false x.job j other (ap (λ (y : Reservation). y.job) (same e) ∙ at))

pub without_none : (j : ℕ) (o : Option Reservation) (r : Reservation) → o ≡ Some r → without j o ≡ None → r.job ≡ j
without_none j o r is none = elim (cases_eq r.job j) [
  | inl at ↦ at
  | inr other ↦
      absurd (none_is_some (sym none ∙ ap (without j) is ∙ ap (λ c. cond c None (Some r)) (ne_eqb r.job j other)))
]

pub beside_some : (a : Region) (o : Option Reservation) (r : Reservation) → beside a o ≡ Some r → (o ≡ Some r) × (overlaps a r.block ≡ false)
beside_some a None r e = absurd (none_is_some e)
beside_some a (Some x) r e = turn (overlaps a x.block) refl e
  where
    turn : (c : Bool) → overlaps a x.block ≡ c → ◌≡◌ {A = Option Reservation} (cond c None (Some x)) (Some r)
        → (◌≡◌ {A = Option Reservation} (Some x) (Some r)) × (overlaps a r.block ≡ false)
    turn true at e = absurd (none_is_some e)
    turn false clear e = (e, ap (λ (y : Reservation). overlaps a y.block) (sym (same e)) ∙ clear)
