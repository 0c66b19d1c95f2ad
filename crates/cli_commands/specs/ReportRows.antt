-- What a report says of the jobs of a finished dispatcher, and of its machine.
use Rattle.std.specs.Prelude.{ℕ, ◌+◌, ◌-◌, ◌*◌, ◌^◌, ◌==◌, Bool, true, cond, List, [], ◌∷◌, ◌++◌, length, map}
use Rattle.std.specs.List.{range_with_len}
use Rattle.ghost_history.specs.Sums.{total}
use Rattle.job_types.specs.Dim.{dim_of}
use Rattle.job_queue.specs.declared.record.QueuedJob.{QueuedJob}
use Rattle.jobs_csv.specs.declared.report_rows.ReportRow.{ReportRow}
use Rattle.jobs_csv.specs.declared.report_rows.ReportRow.TheVariants as row

-- The dimension of the block that a job asks for.
abbrev pub dim_asked : QueuedJob → ℕ
dim_asked q = dim_of (length q.job.items)

-- How many jobs pass the test.
abbrev pub jobs_that : (QueuedJob → Bool) → List QueuedJob → ℕ
jobs_that test jobs = total (λ q. cond (test q) 1 0) jobs

-- How many processors the jobs that pass the test ask for. A processor counts once for each job.
abbrev pub processors_that : (QueuedJob → Bool) → List QueuedJob → ℕ
processors_that test jobs = total (λ q. cond (test q) (2 ^ dim_asked q) 0) jobs

-- How many of these processors have no item of their job.
abbrev pub idle_that : (QueuedJob → Bool) → List QueuedJob → ℕ
idle_that test jobs = total (λ q. cond (test q) (2 ^ dim_asked q - length q.job.items) 0) jobs

-- The row of the jobs of a lane.
abbrev pub lane_row : List QueuedJob → ℕ → ReportRow
lane_row jobs lane =
    row.Lane lane (jobs_that (λ q. q.id.lane == lane) jobs)
    (processors_that (λ q. q.id.lane == lane) jobs) (idle_that (λ q. q.id.lane == lane) jobs)

-- The row of the jobs of a dimension.
abbrev pub dim_row : List QueuedJob → ℕ → ReportRow
dim_row jobs dim =
    row.Dim dim (jobs_that (λ q. dim_asked q == dim) jobs)
    (processors_that (λ q. dim_asked q == dim) jobs) (idle_that (λ q. dim_asked q == dim) jobs)

-- The row of all jobs.
abbrev pub total_row : List QueuedJob → ReportRow
total_row jobs =
    row.Total (jobs_that (λ q. true) jobs) (processors_that (λ q. true) jobs)
    (idle_that (λ q. true) jobs)

-- The row of the free blocks of a dimension, and of their processors, on a machine of dimension `n`
-- in which each block is free.
abbrev pub free_row : ℕ → ℕ → ReportRow
free_row n dim = row.Free dim (2 ^ (n - dim)) (2 ^ (n - dim) * 2 ^ dim)

-- The rows of a report: one for each lane, for each dimension, for the free blocks of each
-- dimension, and for all jobs.
abbrev pub rows_of : ℕ → ℕ → List QueuedJob → List ReportRow
rows_of n lanes jobs =
    map (lane_row jobs) (range_with_len 0 lanes) ++ map (dim_row jobs) (range_with_len 0 (n + 1))
    ++ map (free_row n) (range_with_len 0 (n + 1)) ++ total_row jobs ∷ []
