-- What happened to each job.
use Rattle.std.specs.Prelude.{◌≡◌, ℕ, ◌⊎◌, List, cond, ◌==◌}
use Rattle.ghost_history.specs.Sums.{total}
use Rattle.sched_law.specs.declared.job.SchedWait.{SchedWait}
use Rattle.sched_law.specs.declared.job.SchedRun.{SchedRun}
use Rattle.sched_law.specs.declared.job.Place.TheVariants.{Absent}
use Rattle.sched_law.specs.State.{Runs, Waits}
use Rattle.sched_law.specs.Team.{Deed, Team}
use Rattle.sched_law.specs.Team.Deed.{cancels, starts}
use Rattle.sched_law.specs.Team.Does.{has}

-- 1 if the deed removes the waiting job, else 0.
abbrev pub is_cancel : ℕ → Deed → ℕ
is_cancel j (cancels i) = cond (i == j) 1 0
is_cancel j _ = 0

-- 1 if the deed gives the job to a worker, else 0.
abbrev pub is_start : ℕ → Deed → ℕ
is_start j (starts now u i v) = cond (i == j) 1 0
is_start j _ = 0

-- How often the job was cancelled.
abbrev pub cancels_of : List Deed → ℕ → ℕ
cancels_of history j = total (is_cancel j) history

-- How often the job was started.
abbrev pub starts_of : List Deed → ℕ → ℕ
starts_of history j = total (is_start j) history

-- The job was neither started nor cancelled, and waits.
abbrev pub IsLeft : Team → List Deed → ℕ → Type 0
IsLeft t history j =
    (cancels_of history j ≡ 0) × (starts_of history j ≡ 0)
    × ((wait : SchedWait) × Waits t.sched j wait)

-- The job was started once and never cancelled. A worker has it, or it is over.
abbrev pub WasRun : Team → List Deed → ℕ → Type 0
WasRun t history j =
    (cancels_of history j ≡ 0) × (starts_of history j ≡ 1)
    × (((u : ℕ) × ((run : SchedRun) × ((t.does u ≡ has j) × Runs t.sched j run)))
    ⊎ (t.sched.place j ≡ Absent))

-- The job was cancelled once and never started. It is over.
abbrev pub WasCancelled : Team → List Deed → ℕ → Type 0
WasCancelled t history j =
    (cancels_of history j ≡ 1) × (starts_of history j ≡ 0) × (t.sched.place j ≡ Absent)

-- Each job that runs has exactly one worker, and each job that a worker has runs.
pub record IsManned (t : Team) : Type 0 where
  pub runs : (u j : ℕ) → t.does u ≡ has j → (run : SchedRun) × Runs t.sched j run
  pub apart : (u v j : ℕ) → t.does u ≡ has j → t.does v ≡ has j → u ≡ v
  pub all : (j : ℕ) (run : SchedRun) → Runs t.sched j run → (u : ℕ) × (t.does u ≡ has j)
