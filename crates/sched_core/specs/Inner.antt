-- The parts of a decision.
use Rattle.std.specs.Prelude.{◌≡◌, ◌≢◌, ◌↔◌, ℕ, ◌<◌, ◌≤◌, ◌⊎◌, ◌==◌, if◌then◌else◌, Option, Some, None}
use Rattle.cube_shape.specs.declared.region.Region.{Region}
use Rattle.cube_shape.specs.Region.{block}
use Rattle.sched_law.specs.declared.job.Place.TheVariants.{Waiting}
use Rattle.sched_law.specs.declared.job.SchedJob.{SchedJob}
use Rattle.sched_law.specs.declared.job.SchedWait.{SchedWait}
use Rattle.sched_law.specs.declared.job.Reservation.{Reservation}
use Rattle.sched_law.specs.State.{Sched, IsVacant, Waits, overlaps}
use Rattle.sched_law.specs.Policy.{Decides, HasNone, IsBrief, IsFirst, IsHead, IsPassBlockBy, Precedes, Prepares}
use Rattle.sched_jobs.specs.declared.jobs.Jobs.{Jobs}
use Rattle.sched_jobs.specs.Shows.{arrival_of, capacity_of, place_of}
use Rattle.sched_core.specs.declared.assigned.Assigned.{Assigned}
use Rattle.sched_core.specs.declared.assigned.Decision.{Decision}

-- The reservation, if it is not that of this slot.
abbrev pub kept_without : ℕ → Option Assigned → Option Assigned
kept_without slot None = None
kept_without slot (Some kept) = if kept.slot == slot then None else Some kept

-- The reservation, if its block has no part of this one.
abbrev pub kept_beside : Region → Option Assigned → Option Assigned
kept_beside r None = None
kept_beside r (Some kept) = if overlaps r kept.block then None else Some kept

-- A slot has the head.
pub record IsHeadSlot (w : Sched) (jobs : Jobs) (slot : ℕ) : Type 0 where
  pub inside : slot < capacity_of jobs
  pub head : SchedWait
  pub at : place_of jobs slot ≡ Waiting head
  pub is_head : IsHead w (arrival_of jobs slot) head

-- The largest dimension of a vacant block.
abbrev pub IsLargestVacant : Sched → ℕ → Type 0
IsLargestVacant w most = (d : ℕ) → d ≤ w.dim → HasNone w.dim d (IsVacant w) ↔ (most < d)

-- The brief jobs are those with a known estimate of at most the limit.
abbrev pub IsBriefLimit : Sched → Region → ℕ → Type 0
IsBriefLimit w avoid limit =
    (job : SchedJob) → IsBrief w job avoid ↔ ((0 < job.estimate) × (job.estimate ≤ limit))

-- A slot has a waiting job with a block beside the reservation; no job with one comes before it.
pub record IsPassing (o : Option Reservation) (w : Sched) (jobs : Jobs) (it : Assigned) : Type 0 where
  pub inside : it.slot < capacity_of jobs
  pub wait : SchedWait
  pub at : place_of jobs it.slot ≡ Waiting wait
  pub waits : Waits w (arrival_of jobs it.slot) wait
  pub m : ℕ
  pub free : IsPassBlockBy o w wait.job m
  pub place : it.block ≡ block wait.job.dim m
  pub first : (i : ℕ) (other : SchedWait) → Waits w i other → (n : ℕ) → IsPassBlockBy o w other.job n
      → Precedes i other.job (arrival_of jobs it.slot) wait.job → ⊥

-- No waiting job has a block beside the reservation.
abbrev pub HasNonePassing : Option Reservation → Sched → Type 0
HasNonePassing o w =
    (i : ℕ) (other : SchedWait) → Waits w i other → (n : ℕ) → IsPassBlockBy o w other.job n → ⊥

-- The head of `w` gets its first vacant block.
pub record StartsHead (w v : Sched) (jobs : Jobs) (it : Decision) : Type 0 where
  pub same : v ≡ w
  pub alone : it.head ≡ it.slot
  pub slot : IsHeadSlot w jobs it.slot
  pub m : ℕ
  pub first : IsFirst w.dim slot.head.job.dim (IsVacant w) m
  pub place : it.block ≡ block slot.head.job.dim m

-- The head of `w` is blocked, `v` is prepared for it, and another job gets a block.
pub record PassesHead (w v : Sched) (jobs : Jobs) (it : Decision) : Type 0 where
  pub other : it.head ≢ it.slot
  pub slot : IsHeadSlot w jobs it.head
  pub blocked : HasNone w.dim slot.head.job.dim (IsVacant w)
  pub prepares : Prepares w (arrival_of jobs it.head) slot.head v
  pub passing : IsPassing v.reserved v jobs (record { slot = it.slot; block = it.block })

-- What is decided in `w`, before the start.
abbrev pub IsPick : Sched → Sched → Jobs → Option Decision → Type 0
IsPick w v jobs None = Decides w None v
IsPick w v jobs (Some it) = StartsHead w v jobs it ⊎ PassesHead w v jobs it
