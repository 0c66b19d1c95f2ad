-- What a job and its reply hold.
use Rattle.std.specs.Prelude.{ℕ, List, length}
use Rattle.job_types.specs.declared.work.Work.{Work}
use Rattle.job_types.specs.Job.{JobData}
use Rattle.job_types.specs.Inner.Items.{IsWhole, id_lane_in, numbers_in, result_in}
use Rattle.job_types.specs.Inner.Job.{IsJob}
use Rattle.job_types.specs.Inner.Kept.{HasRoomFor}

-- The job.
abbrev pub job_in : Work → JobData
job_in work =
    record { machine = work.machine; lane = work.lane; kind = work.kind; items = numbers_in work.items }

-- The numbers that are kept of its run.
abbrev pub kept_in : Work → List ℕ
kept_in work = result_in work.items work.number

-- The lane under which it ran.
abbrev pub ran_as : Work → ℕ
ran_as work = id_lane_in work.items

-- It is a job, with room for its result.
pub record IsMade (work : Work) : Type 0 where
  pub job : IsJob work.machine work.lane work.kind (numbers_in work.items)
  pub whole : IsWhole work.items
  pub room : HasRoomFor work.kind (length (numbers_in work.items)) (kept_in work)
