-- A run of the jobs of a file, in the values that its caller has.
use Rattle.std.specs.Prelude.{◌≡◌, ℕ, ◌≤◌, true, List, Any, Option, Some, None, IfSome, Result, Ok, Err, length}
use Rattle.cube_shape.specs.declared.limits.TheConstants.{MAX_ENTRIES, MAX_LANES}
use Rattle.job_types.specs.Job.{JobData}
use Rattle.job_queue.specs.declared.job_line.JobLine.{Ghosts as LineWords}
use Rattle.floors.specs.Floor.{IsWhollyFree}
use Rattle.floors.specs.declared.floor.Floor.{Ghosts as FloorWords}
use Rattle.dispatcher.specs.declared.opening.ShopSizes.{ShopSizes}
use Rattle.dispatcher_threads.specs.Done.{IsDone}
use Rattle.dispatcher_threads.specs.Members.{RanIn}
use Rattle.dispatcher_threads.specs.Run.{IsRun}
use Rattle.dispatcher_threads.specs.declared.running.RunEnd.{RunEnd}
use Rattle.jobs_csv.specs.Fault.{is_refusal}
use Rattle.jobs_csv.specs.declared.fault.Fault.{Fault}
use Rattle.cli_commands.specs.OpenLanes.{AreOpenLanes}
use Rattle.cli_commands.specs.Replies.{AnswersJobs}
use Rattle.cli_commands.specs.declared.shop.AnswerError.{AnswerError}

-- The values are those of a run (`IsRun`) of the open lanes of these jobs.
pub record IsFileRun {M : Type 0} (words_of : M → List ℕ) (n : ℕ) (jobs : List JobData)
    (end : RunEnd M) : Type 0 where
  pub lanes : List (List JobData)
  pub open_lanes : AreOpenLanes lanes jobs
  pub run : IsRun words_of n lanes end

module _ {L Lane Pass Closer Note End F Station Held Machine : Type 0}
    (line : LineWords L Lane Pass Closer Note End) (floor : FloorWords F Station Held Machine) where
  -- A dispatcher of these sizes has run, and is done (`IsDone`). It ran in members of its own queue
  -- and allocator (`RanIn`), with as many workers as asked. Its machine is closed and wholly free.
  pub record IsShopRun (sizes : ShopSizes) (end : RunEnd Machine) : Type 0 where
    pub done : IsDone end
    pub lanes : length end.finished.accepted.items ≤ MAX_LANES
    pub ran_in : RanIn line floor sizes (length end.finished.accepted.items) end
    pub workers : length end.finished.by_worker.items ≡ sizes.dispatchers
    pub dim : floor.machine_dim end.finished.machine ≡ sizes.dim
    pub closed : floor.is_closed sizes.dispatchers end.finished.machine
    pub free : IsWhollyFree sizes.dim (floor.machine_words end.finished.machine)

-- What is returned for a file of jobs, by its parse: a run that has answered all of them, or an
-- error. A refusal is the parse's. If there was a run, it was one of the file's jobs.
abbrev pub ReturnsRun : {M : Type 0}
    → (M → List ℕ)
    → ℕ
    → Result (List JobData) Fault
    → Result (RunEnd M) (AnswerError M)
    → Type 0
ReturnsRun words_of n parse (Ok end) =
    (jobs : List JobData) × (parse ≡ Ok jobs) × IsFileRun words_of n jobs end
    × AnswersJobs n jobs end.finished
ReturnsRun words_of n parse (Err error) =
    (is_refusal error.fault.what ≡ true → parse ≡ Err error.fault)
    × IfSome error.end (λ end. (jobs : List JobData) × (parse ≡ Ok jobs)
    × IsFileRun words_of n jobs end)

-- There was a run, and a lane of it has made `MAX_ENTRIES` entries.
abbrev pub HasSpentLane : {M : Type 0} → Option (RunEnd M) → Type 0
HasSpentLane None = ⊥
HasSpentLane (Some end) = Any (λ l. MAX_ENTRIES ≤ l.entries) end.lanes.items
