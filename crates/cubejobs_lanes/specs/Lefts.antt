-- How the jobs that are left are given out.
use Rattle.std.specs.Prelude.{◌≡◌, ◌⊎◌, ℕ, [], ◌∷◌, length}
use Rattle.lanes.specs.declared.record.LaneJob.{LaneJob}
use Rattle.cubejobs_lanes.specs.declared.answers.JobAnswer.{JobAnswer}
use Rattle.cubejobs_lanes.specs.declared.codes.TheConstants.{EMPTY}
use Rattle.cubejobs_lanes.specs.declared.left.Left.{Left}
use Rattle.cubejobs_lanes.specs.Answers.{job_answer, no_job}

-- The answer is the first job, and the others are left.
pub record GivesFirst (answer : JobAnswer) (old new : Left) : Type 0 where
  pub lane : ℕ
  pub job : LaneJob
  pub was : old.jobs.items ≡ (lane, job) ∷ new.jobs.items
  pub is : answer ≡ job_answer lane job (length new.jobs.items)

-- The same, or there was none.
abbrev pub GivesJob : JobAnswer → Left → Left → Type 0
GivesJob answer old new = GivesFirst answer old new
    ⊎ ((old.jobs.items ≡ []) × (new.jobs.items ≡ []) × (answer ≡ no_job EMPTY))
