-- The jobs of all lanes with their ids, and replies that answer them.
use Rattle.std.specs.Prelude.{ℕ, ◌+◌, List, [], ◌∷◌, ◌++◌, map, flat_map, IsPermutation}
use Rattle.std.specs.List.{All}
use Rattle.job_types.specs.Job.{JobData}
use Rattle.job_types.specs.Reply.{ReplyData}
use Rattle.job_queue.specs.declared.record.QueuedJob.{QueuedJob}
use Rattle.job_queue.specs.Record.{job_id, queued}
use Rattle.dispatcher.specs.Reply.{answered, IsRight}

-- The jobs of a lane with their ids. The first one has the number `seq`.
abbrev pub with_ids_from : ℕ → ℕ → List JobData → List QueuedJob
with_ids_from lane seq [] = []
with_ids_from lane seq (job ∷ jobs) =
    queued (job_id lane seq) job ∷ with_ids_from lane (seq + 1) jobs

-- The jobs of these lanes with their ids, lane by lane. The first lane has the number `lane`.
abbrev pub lanes_with_ids : ℕ → List (List JobData) → List QueuedJob
lanes_with_ids lane [] = []
lanes_with_ids lane (jobs ∷ lanes) = with_ids_from lane 0 jobs ++ lanes_with_ids (lane + 1) lanes

-- The jobs of all lanes with their ids, lane by lane.
abbrev pub jobs_with_ids : List (List JobData) → List QueuedJob
jobs_with_ids lanes = lanes_with_ids 0 lanes

-- The replies of each worker, one list after the other, and then the rest.
abbrev pub all_replies : List (List ReplyData) → List ReplyData → List ReplyData
all_replies by_worker rest = flat_map (λ replies. replies) by_worker ++ rest

-- Each job of these lanes has one right reply, under its id, and there is no other reply.
pub record AnswersAll (n : ℕ) (jobs : List (List JobData)) (by_worker : List (List ReplyData))
    (rest : List ReplyData) : Type 0 where
  pub answers : IsPermutation (jobs_with_ids jobs) (map answered (all_replies by_worker rest))
  pub right : All (IsRight n) (all_replies by_worker rest)
