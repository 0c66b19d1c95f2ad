-- Which waiting jobs a search looks for.
use Rattle.std.specs.Prelude.{ℕ, ◌<◌, ◌≤◌, ◌⊎◌, Option, Some, None}
use Rattle.sched_law.specs.declared.job.SchedJob.{SchedJob}

-- There is a dimension, and the job needs at most this one.
abbrev pub IsWithin : Option ℕ → SchedJob → Type 0
IsWithin None job = ⊥
IsWithin (Some dim) job = job.dim ≤ dim

-- The job needs at most dimension `any`; or it needs at most `most`, and its estimate is known and
-- at most `limit`.
abbrev pub IsWanted : Option ℕ → Option ℕ → ℕ → SchedJob → Type 0
IsWanted any most limit job =
    IsWithin any job ⊎ (IsWithin most job × (0 < job.estimate) × (job.estimate ≤ limit))
