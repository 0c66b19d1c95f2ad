-- Which jobs can be had, and what was asked for.
use Rattle.std.specs.Prelude.{◌≡◌, ℕ, ◌^◌, ◌<◌, ◌≤◌}
use Rattle.sched_jobs.specs.declared.lines.TheConstants.{CLASSES}
use Rattle.sched_law.specs.declared.job.SchedJob.{SchedJob}
use Rattle.sched_core.specs.declared.request.JobRequest.{JobRequest}

-- A machine of this dimension can have a job as it is asked for.
pub record IsAskable (n : ℕ) (request : JobRequest) : Type 0 where
  pub some : 0 < request.processors
  pub fits : request.processors ≤ 2 ^ n
  pub class : request.job_class < CLASSES

-- The job is the one that is asked for.
pub record IsAsked (request : JobRequest) (job : SchedJob) : Type 0 where
  pub payload : job.payload ≡ request.payload
  pub processors : job.processors ≡ request.processors
  pub class : job.class ≡ request.job_class
  pub estimate : job.estimate ≡ request.estimate
