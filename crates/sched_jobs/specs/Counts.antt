-- Which jobs are counted, and which slots are in use.
use Rattle.std.specs.Prelude.{ℕ, ◌<◌, ◌≤◌, List, length}
use Rattle.sched_law.specs.declared.job.TheConstants.{NEVER}
use Rattle.sched_law.specs.declared.job.SchedJob.{SchedJob}
use Rattle.sched_law.specs.declared.job.SchedWait.{SchedWait}
use Rattle.sched_law.specs.declared.job.SchedRun.{SchedRun}
use Rattle.sched_law.specs.State.{Sched, Runs, Waits}
use Rattle.sched_law.specs.Policy.{Precedes}
use Rattle.sched_jobs.specs.declared.slots.Slot.{Slot}
use Rattle.sched_jobs.specs.declared.jobs.Jobs.{Jobs}
use Rattle.sched_jobs.specs.Slots.{IsPresent, place_in}

-- Job `i` waits.
abbrev pub DoesWait : Sched → ℕ → Type 0
DoesWait w i = (other : SchedWait) × Waits w i other

-- Job `i` waits, and is of a class, or of a lower one.
abbrev pub WaitsUpTo : Sched → ℕ → ℕ → Type 0
WaitsUpTo w class i = (other : SchedWait) × Waits w i other × (other.job.class ≤ class)

-- Job `i` runs.
abbrev pub DoesRun : Sched → ℕ → Type 0
DoesRun w i = (run : SchedRun) × Runs w i run

-- A running job has a known end.
abbrev pub HasKnownEnd : Sched → Type 0
HasKnownEnd w = (j : ℕ) × (run : SchedRun) × Runs w j run × (run.end < NEVER)

-- Job `i` waits, and comes before job `j`.
abbrev pub WaitsBefore : Sched → ℕ → SchedJob → ℕ → Type 0
WaitsBefore w j job i = (other : SchedWait) × Waits w i other × Precedes i other.job j job

-- Of the slots from one on, this is the first with a job that is not over.
pub record IsNextIn (slots : List Slot) (from slot : ℕ) : Type 0 where
  pub after : from ≤ slot
  pub inside : slot < length slots
  pub job : IsPresent (place_in slots slot)
  pub first : (u : ℕ) → from ≤ u → u < slot → IsPresent (place_in slots u) → ⊥

-- No slot from one on has a job that is not over.
abbrev pub HasNoneIn : List Slot → ℕ → Type 0
HasNoneIn slots from = (u : ℕ) → from ≤ u → IsPresent (place_in slots u) → ⊥

-- Of the slots of a table from one on, this is the first with a job that is not over.
abbrev pub IsNextUsed : Jobs → ℕ → ℕ → Type 0
IsNextUsed jobs from slot = IsNextIn jobs.slots.items from slot

-- No slot of a table from one on has a job that is not over.
abbrev pub HasNoneUsed : Jobs → ℕ → Type 0
HasNoneUsed jobs from = HasNoneIn jobs.slots.items from
