-- The replies to a file of jobs: one for each job, under the job's id.
use Rattle.std.specs.Prelude.{ℕ, List, length, map, IsPermutation}
use Rattle.std.specs.List.{All}
use Rattle.job_types.specs.Job.{JobData}
use Rattle.job_types.specs.Reply.{ReplyData}
use Rattle.dispatcher.specs.Answers.{all_replies}
use Rattle.dispatcher.specs.Order.{AreSorted}
use Rattle.dispatcher.specs.Reply.{answered, IsRight}
use Rattle.dispatcher.specs.declared.finishing.Finished.{Finished}
use Rattle.cli_commands.specs.JobIds.{with_ids}
use Rattle.cli_commands.specs.OpenLanes.{IsLaneCount}

-- All replies of a finished dispatcher.
abbrev pub replies_in : {M : Type 0} → Finished M → List ReplyData
replies_in finished =
    all_replies (map (λ replies. replies.items) finished.by_worker.items) finished.rest.items

-- A finished dispatcher had the open lanes of these jobs. It has one right reply to each job under
-- its id, and no other.
pub record AnswersJobs {M : Type 0} (n : ℕ) (jobs : List JobData)
    (finished : Finished M) : Type 0 where
  pub open_lanes : IsLaneCount jobs (length finished.accepted.items)
  pub same : IsPermutation (with_ids jobs) (map answered (replies_in finished))
  pub right : All (IsRight n) (replies_in finished)

-- The replies to the jobs of a file: a right one to each under its id, sorted by lane, and in a
-- lane by number.
pub record AreReplies (n : ℕ) (jobs : List JobData) (replies : List ReplyData) : Type 0 where
  pub same : IsPermutation (with_ids jobs) (map answered replies)
  pub right : All (IsRight n) replies
  pub sorted : AreSorted replies
