-- The ids of jobs: a lane, and a number that counts the jobs of the lane from 0.
use Rattle.std.specs.Prelude.{ℕ, ◌==◌, List, [], ◌∷◌, ◌++◌, count_by}
use Rattle.job_types.specs.Job.{JobData}
use Rattle.job_queue.specs.declared.record.QueuedJob.{QueuedJob}
use Rattle.job_queue.specs.Record.{job_id, queued}

-- How many of the jobs are of a lane.
abbrev pub lane_count : ℕ → List JobData → ℕ
lane_count lane jobs = count_by (λ job. job.lane == lane) jobs

-- A job with its id, if these jobs came before it: its lane, and how many of them are of that lane.
abbrev pub with_id_after : List JobData → JobData → QueuedJob
with_id_after before job = queued (job_id job.lane (lane_count job.lane before)) job

-- The jobs with their ids, if the first list came before them.
unfoldable pub with_ids_after : List JobData → List JobData → List QueuedJob
with_ids_after before [] = []
with_ids_after before (job ∷ jobs) =
    with_id_after before job ∷ with_ids_after (before ++ job ∷ []) jobs

-- The jobs of a file with their ids.
abbrev pub with_ids : List JobData → List QueuedJob
with_ids jobs = with_ids_after [] jobs
