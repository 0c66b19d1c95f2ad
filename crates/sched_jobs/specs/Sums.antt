-- How much runs.
use Rattle.std.specs.Prelude.{◌≡◌, ℕ, zero, suc, ◌+◌, ◌^◌, ◌≤◌, nat_lt, if◌then◌else◌, List, length}
use Rattle.sched_law.specs.declared.job.TheConstants.{NEVER}
use Rattle.sched_law.specs.declared.job.Place.{Place}
use Rattle.sched_law.specs.declared.job.Place.TheVariants.{Running}
use Rattle.sched_law.specs.State.{Sched}
use Rattle.sched_jobs.specs.declared.slots.Slot.{Slot}
use Rattle.sched_jobs.specs.Slots.{place_in}

-- Whether a job runs, as a number.
abbrev pub one_runs : Place → ℕ
one_runs (Running run) = 1
one_runs _ = 0

-- How many processors a job uses: only a running one does.
abbrev pub used_by : Place → ℕ
used_by (Running run) = run.job.processors
used_by _ = 0

-- Whether an end is known, as a number.
abbrev pub one_known : ℕ → ℕ
one_known end = if nat_lt end NEVER then 1 else 0

-- Whether a job runs and its end is known, as a number.
abbrev pub one_timed : Place → ℕ
one_timed (Running run) = one_known run.end
one_timed _ = 0

-- The sum of the weights of the first `n` places.
abbrev pub sum_below : (Place → ℕ) → (ℕ → Place) → ℕ → ℕ
sum_below weight place zero = 0
sum_below weight place (suc n) = weight (place n) + sum_below weight place n

-- How many processors the running jobs use together.
abbrev pub asked : Sched → ℕ
asked w = sum_below used_by w.place w.next

-- A total is the sum over all jobs, and also that over all slots.
pub record IsSum (weight : Place → ℕ) (place : ℕ → Place) (next : ℕ) (slots : List Slot) (total : ℕ) : Type 0 where
  pub of_jobs : total ≡ sum_below weight place next
  pub of_slots : total ≡ sum_below weight (place_in slots) (length slots)

-- The table counts the running jobs, the processors that they use, and those with a known end.
pub record ShowsRunning (place : ℕ → Place) (next : ℕ) (slots : List Slot) (running asked timed : ℕ) : Type 0 where
  pub counted : IsSum one_runs place next slots running
  pub summed : IsSum used_by place next slots asked
  pub ends : IsSum one_timed place next slots timed
  pub few : (u : ℕ) → used_by (place_in slots u) ≤ 2 ^ 32
