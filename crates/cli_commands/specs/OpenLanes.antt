-- The lanes that are open for the jobs of a file.
use Rattle.std.specs.Prelude.{◌≡◌, ℕ, ◌<◌, ◌≤◌, List, [], All, length, slice_index_or}
use Rattle.job_types.specs.Job.{JobData}
use Rattle.jobs_csv.specs.Lanes.{in_lane}

-- The number of open lanes: 0 to the largest one of a job, or lane 0 alone if there is no job.
pub record IsLaneCount (jobs : List JobData) (count : ℕ) : Type 0 where
  pub some : 1 ≤ count
  pub all : All (λ job. job.lane < count) jobs
  pub least : (fewer : ℕ) → 1 ≤ fewer → All (λ job. job.lane < fewer) jobs → count ≤ fewer

-- The lists are those of the open lanes, in the order of their numbers. Each has the lane's own
-- jobs of the file, in file order.
pub record AreOpenLanes (lists : List (List JobData)) (jobs : List JobData) : Type 0 where
  pub count : IsLaneCount jobs (length lists)
  pub each : (lane : ℕ) → lane < length lists → slice_index_or lists lane [] ≡ in_lane lane jobs
