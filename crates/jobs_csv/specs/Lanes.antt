-- Jobs grouped by lane, and the parse of a job file in that form.
use Rattle.std.specs.Prelude.{◌≡◌, ℕ, ◌<◌, ◌==◌, List, All, length, slice_index_or, Vec, Result}
use Rattle.std.specs.List.{filter}
use Rattle.std.specs.Global.{Global}
use Rattle.std.specs.declared.collections.VecDeque.{VecDeque}
use Rattle.job_types.specs.Job.{JobData}
use Rattle.cube_shape.specs.declared.limits.TheConstants.{MAX_LANES}
use Rattle.jobs_csv.specs.declared.fault.Fault.{Fault}
use Rattle.jobs_csv.specs.Outcome.{ReturnsRows}

-- The jobs of a lane, in the order of the list.
abbrev pub in_lane : ℕ → List JobData → List JobData
in_lane lane jobs = filter (λ job. job.lane == lane) jobs

-- There is a queue for each lane, with the jobs of that lane in the order of the list.
pub record AreLanes (lanes : List (VecDeque JobData Global)) (jobs : List JobData) : Type 0 where
  pub count : length lanes ≡ MAX_LANES
  pub below : All (λ job. job.lane < MAX_LANES) jobs
  pub each : (lane : ℕ) (none : VecDeque JobData Global) → lane < MAX_LANES
      → (slice_index_or lanes lane none).items ≡ in_lane lane jobs

-- What a call returns for a file of jobs: the lanes of the parsed jobs, or a fault. A refusal is
-- the parse's.
abbrev pub ReturnsLanes : Result (List JobData) Fault
    → Result (Vec (VecDeque JobData Global) Global) Fault → Type 0
ReturnsLanes parse result = ReturnsRows (λ lanes jobs. AreLanes lanes.items jobs) parse result
