-- What holds of a batch that was answered, of one that was refused, and of one that was not
-- finished.
use Rattle.std.specs.Prelude.{◌≡◌, ◌≢◌, ℕ, List, Vec, Some, None, Result, IfOk, IfErr, ⊤, map, length}
use Rattle.std.specs.declared.alloc.Global.{Global}
use Rattle.std.specs.declared.collections.VecDeque.{VecDeque}
use Rattle.job_types.specs.Job.{JobData}
use Rattle.job_queue.specs.declared.job_line.JobLine.{Ghosts as LineWords}
use Rattle.floors.specs.declared.floor.Floor.{Ghosts as FloorWords}
use Rattle.dispatcher.specs.declared.opening.ShopRefused.{ShopRefused}
use Rattle.dispatcher.specs.declared.opening.ShopRefused.TheVariants.{OutOfMemory}
use Rattle.dispatcher.specs.declared.opening.ShopSizes.{ShopSizes}
use Rattle.dispatcher.specs.Answers.{AnswersAll}
use Rattle.dispatcher.specs.Opening.{refusal_of}
use Rattle.dispatcher_threads.specs.declared.running.RunEnd.{RunEnd}
use Rattle.dispatcher_threads.specs.declared.answering.StopReason.{StopReason}
use Rattle.dispatcher_threads.specs.declared.answering.RunError.{RunError}
use Rattle.dispatcher_threads.specs.Run.{by_worker_of, IsRun}
use Rattle.dispatcher_threads.specs.Members.{RanIn}
use Rattle.dispatcher_threads.specs.Done.{IsDone, reason_of}
use Rattle.dispatcher_threads.specs.RunError.{MatchRunError}

-- The lists of jobs that a batch gets, one for each lane.
abbrev pub JobLists : Type 0
JobLists = List (VecDeque JobData Global)

module _ (asked : ShopSizes) (jobs : JobLists) where
  -- No job of the batch ran. The reason is the first size that is not within its limits, or
  -- `OutOfMemory` if all sizes are. The jobs came back.
  pub record IsRefusedBatch (why : ShopRefused)
      (back : Vec (VecDeque JobData Global) Global) : Type 0 where
    pub first : why ≢ OutOfMemory →
        refusal_of asked.dim (length jobs) asked.dispatchers asked.capacity ≡ Some why
    pub memory_last : why ≡ OutOfMemory →
        refusal_of asked.dim (length jobs) asked.dispatchers asked.capacity ≡ None
    pub gives_back : back.items ≡ jobs

module _ {M : Type 0} (words_of : M → List ℕ) (asked : ShopSizes) (jobs : JobLists) where
  -- The batch ran with as many workers as were asked for, but not to its end. The reason is the
  -- `reason_of` its run. All sizes are within their limits.
  pub record IsUnfinishedBatch (why : StopReason) (end : RunEnd M) : Type 0 where
    pub run : IsRun words_of asked.dim (map (λ js. js.items) jobs) end
    pub workers : length end.finished.by_worker.items ≡ asked.dispatchers
    pub sizes : refusal_of asked.dim (length jobs) asked.dispatchers asked.capacity ≡ None
    pub not_done : ¬ IsDone end
    pub reason : why ≡ reason_of end

module _ {M : Type 0} (words_of : M → List ℕ) (dim_of : M → ℕ) (is_closed : ℕ → M → Type 0)
    (asked : ShopSizes) (jobs : JobLists) where
  -- The batch was answered: each job has one right reply. Each lane has accepted its whole list,
  -- and each worker ran, as many as were asked for. The machine has the dimension that was asked
  -- for, and is closed. All sizes are within their limits.
  pub record IsAnsweredBatch (end : RunEnd M) : Type 0 where
    pub run : IsRun words_of asked.dim (map (λ js. js.items) jobs) end
    pub workers : length end.finished.by_worker.items ≡ asked.dispatchers
    pub sizes : refusal_of asked.dim (length jobs) asked.dispatchers asked.capacity ≡ None
    pub done : IsDone end
    pub answers : AnswersAll asked.dim (map (λ js. js.items) jobs)
        (by_worker_of end) end.finished.rest.items
    pub accepted : end.finished.accepted.items ≡ map (λ js. length js.items) jobs
    pub dim : dim_of end.finished.machine ≡ asked.dim
    pub closed : is_closed asked.dispatchers end.finished.machine

module _ {L Lane Pass Closer Note End F Station Held Machine : Type 0}
    (line : LineWords L Lane Pass Closer Note End) (floor : FloorWords F Station Held Machine) where
  -- What `answer_all` returns: the batch was answered, refused, or not finished. If it ran, `RanIn`
  -- says in which dispatcher.
  pub record IsBatchOutcome (asked : ShopSizes) (jobs : JobLists)
      (result : Result (RunEnd Machine) (RunError Machine)) : Type 0 where
    pub answered : IfOk result
        (IsAnsweredBatch floor.machine_words floor.machine_dim floor.is_closed asked jobs)
    pub ran_in : IfOk result (RanIn line floor asked (length jobs))
    pub refused : IfErr result (λ stopped.
        MatchRunError stopped (IsRefusedBatch asked jobs) (λ why end. ⊤))
    pub unfinished : IfErr result (λ stopped.
        MatchRunError stopped (λ why back. ⊤) (IsUnfinishedBatch floor.machine_words asked jobs))
    pub unfinished_ran_in : IfErr result (λ stopped.
        MatchRunError stopped (λ why back. ⊤) (λ why end. RanIn line floor asked (length jobs) end))
