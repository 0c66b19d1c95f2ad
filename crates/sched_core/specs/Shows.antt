-- When a scheduler shows a state.
use Rattle.std.specs.Prelude.{◌≡◌, ℕ, ◌+◌, ◌<◌, ◌≤◌, Option, Some, None}
use Rattle.cube_shape.specs.declared.limits.TheConstants.{MAX_BITMAP_DIM}
use Rattle.sched_law.specs.declared.job.Place.{Place}
use Rattle.sched_law.specs.declared.job.Place.TheVariants.{Waiting}
use Rattle.sched_law.specs.declared.job.SchedWait.{SchedWait}
use Rattle.sched_law.specs.declared.job.Reservation.{Reservation}
use Rattle.sched_law.specs.State.{Sched}
use Rattle.sched_blocks.specs.Shows.{Shows, block_words}
use Rattle.sched_jobs.specs.declared.jobs.Jobs.{Jobs}
use Rattle.sched_jobs.specs.Shows.{HasGenerations, HasJob, HasOtherJobs, HasOthers, IsRetired, ShowsJobs, arrival_of, capacity_of, generation_of, job_words, place_of, ticket_of}
use Rattle.sched_jobs.specs.Counts.{HasNoneUsed, IsNextUsed}
use Rattle.sched_core.specs.declared.assigned.Assigned.{Assigned}
use Rattle.sched_core.specs.declared.scheduler.Core.{Core}

-- The dimension of the machine.
abbrev pub dim_of : Core → ℕ
dim_of core = core.blocks.dim

-- The time of the last decision.
abbrev pub time_of : Core → ℕ
time_of core = core.time

-- How many jobs a scheduler may have that are not over.
abbrev pub slots_of : Core → ℕ
slots_of core = capacity_of core.jobs

-- How many jobs were submitted: the number of the next one.
abbrev pub submitted_of : Core → ℕ
submitted_of core = core.jobs.next

-- Where the job of a slot is.
abbrev pub job_place : Core → ℕ → Place
job_place core slot = place_of core.jobs slot

-- The number of a slot's job.
abbrev pub job_arrival : Core → ℕ → ℕ
job_arrival core slot = arrival_of core.jobs slot

-- How many jobs a slot has had.
abbrev pub job_generation : Core → ℕ → ℕ
job_generation core slot = generation_of core.jobs slot

-- The ticket of a slot's job: its generation and the slot give it.
abbrev pub job_ticket : Core → ℕ → ℕ
job_ticket core slot = ticket_of core.jobs slot

-- A slot has a job that is not over.
abbrev pub IsTaken : Core → ℕ → Type 0
IsTaken core slot = HasJob core.jobs slot

-- A slot has had as many jobs as it may have, and these are over.
abbrev pub IsSpent : Core → ℕ → Type 0
IsSpent core slot = IsRetired core.jobs slot

-- Each slot has had as many jobs as before.
abbrev pub KeepsGenerations : Core → Core → Type 0
KeepsGenerations old new = HasGenerations old.jobs new.jobs

-- The other slots have the same jobs at the same places.
abbrev pub KeepsOthers : Core → Core → ℕ → Type 0
KeepsOthers old new slot = HasOthers old.jobs new.jobs slot

-- The other slots have the same jobs at the same places. What a free slot has as number may change.
abbrev pub KeepsOtherJobs : Core → Core → ℕ → Type 0
KeepsOtherJobs old new slot = HasOtherJobs old.jobs new.jobs slot

-- Of the slots from one on, this is the first with a job that is not over.
abbrev pub IsNextTaken : Core → ℕ → ℕ → Type 0
IsNextTaken core from slot = IsNextUsed core.jobs from slot

-- No slot from one on has a job that is not over.
abbrev pub HasNoneTaken : Core → ℕ → Type 0
HasNoneTaken core from = HasNoneUsed core.jobs from

-- All slots have the same jobs at the same places.
abbrev pub HasSameJobs : Core → Core → Type 0
HasSameJobs old new = new.jobs ≡ old.jobs

-- Each job that was not over is still so, in its slot.
abbrev pub KeepsSlots : Core → Core → Type 0
KeepsSlots old new =
    (slot : ℕ) → IsTaken old slot
    → IsTaken new slot × (job_arrival new slot ≡ job_arrival old slot)

-- The reservation of a state, by slots: its job waits in the slot.
abbrev pub ShowsKept : Option Reservation → Jobs → Option Assigned → Type 0
ShowsKept reserved jobs None = reserved ≡ None
ShowsKept reserved jobs (Some kept) =
    (kept.slot < capacity_of jobs) × ((wait : SchedWait) × (place_of jobs kept.slot ≡ Waiting wait))
    × (reserved ≡ Some (record { job = arrival_of jobs kept.slot; block = kept.block }))

-- The scheduler has the blocks, the jobs, the time, the patience and the reservation of the state,
-- which is safe.
pub record ShowsCore (w : Sched) (core : Core) : Type 0 where
  pub limit : core.blocks.dim ≤ MAX_BITMAP_DIM
  pub machine : Shows w core.blocks
  pub jobs : ShowsJobs w core.jobs
  pub time : w.now ≡ core.time
  pub patience : w.patience ≡ core.patience
  pub kept : ShowsKept w.reserved core.jobs core.reserved

-- How many words of 8 bytes a scheduler takes: of a machine of this dimension, for this many jobs.
abbrev pub core_words : ℕ → ℕ → ℕ
core_words dim capacity = block_words dim + job_words capacity
