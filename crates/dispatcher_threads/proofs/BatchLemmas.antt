-- What holds of a run, in the words of the batch that it was.
use Rattle.std.proofs.Common.{◌≡◌, ◌≢◌, Vec, Result, Some, None, Ok, Err, IfOk, IfErr, map, length, subst, ◌∙◌}
use Rattle.std.specs.declared.alloc.Global.{Global}
use Rattle.std.specs.declared.collections.VecDeque.{VecDeque}
use Rattle.job_types.specs.Job.{JobData}
use Rattle.job_queue.specs.declared.job_line.JobLine.{Ghosts as LineWords}
use Rattle.floors.specs.declared.floor.Floor.{Ghosts as FloorWords}
use Rattle.dispatcher.specs.declared.opening.ShopRefused.{ShopRefused}
use Rattle.dispatcher.specs.declared.opening.ShopRefused.TheVariants.{OutOfMemory}
use Rattle.dispatcher.specs.declared.opening.ShopSizes.{ShopSizes}
use Rattle.dispatcher.specs.Opening.{refusal_of}
use Rattle.dispatcher.proofs.OpenLemmas.{map_twice}
use Rattle.dispatcher_threads.specs.declared.running.RunEnd.{RunEnd}
use Rattle.dispatcher_threads.specs.declared.answering.RunError.{RunError}
use Rattle.dispatcher_threads.specs.declared.answering.RunError.TheVariants.{Refused, Unfinished}
use Rattle.dispatcher_threads.specs.Batch.{JobLists, IsBatchOutcome}
use Rattle.dispatcher_threads.specs.Done.{reason_of, IsDone}
use Rattle.dispatcher_threads.specs.Members.{RanIn}
use Rattle.dispatcher_threads.specs.Run.{IsRun}
use Rattle.dispatcher_threads.specs.RunError.{MatchRunError}
use Rattle.dispatcher_threads.proofs.DoneLemmas.{counts_all, answers_jobs}

abbrev pub Jobs : Type 0
Jobs = Vec (VecDeque JobData Global) Global

-- The result of a run.
abbrev pub Ran : Type 0 → Type 0
Ran M = Result (RunEnd M) (ShopRefused × Jobs)

of_ended : {M : Type 0} (P : RunEnd M → Type 0) (ran : Ran M) (end : RunEnd M)
    → ran ≡ Ok end → IfOk ran P → P end
of_ended {M} P ran end is so = subst (λ (r : Ran M). IfOk r P) is so

of_refusal : {M : Type 0} (P : ShopRefused × Jobs → Type 0) (ran : Ran M) (why : ShopRefused)
    (back : Jobs)
    → ran ≡ Err (why, back)
    → IfErr ran P
    → P (why, back)
of_refusal {M} P ran why back is so = subst (λ (r : Ran M). IfErr r P) is so

-- The batch was answered, or it was not.
abbrev pub IsBatch : {M : Type 0} → Ran M → RunEnd M → Type 0
IsBatch ran end = (ran ≡ Ok end) × IsDone end

abbrev pub IsRunError : {M : Type 0} → Ran M → RunError M → Type 0
IsRunError ran stopped = MatchRunError stopped (λ why back. ran ≡ Err (why, back))
    (λ why end. (ran ≡ Ok end) × (why ≡ reason_of end) × (¬ IsDone end))

module _ {L Lane Pass Closer Note End F Station Held Machine : Type 0}
    (line : LineWords L Lane Pass Closer Note End) (floor : FloorWords F Station Held Machine)
    (asked : ShopSizes) (jobs : JobLists) where
  -- The sizes are refused for this reason, or for none.
  abbrev pub Refuses : ShopRefused → Type 0
  Refuses why = refusal_of asked.dim (length jobs) asked.dispatchers asked.capacity ≡ Some why

  abbrev pub RefusesNothing : Type 0
  RefusesNothing = refusal_of asked.dim (length jobs) asked.dispatchers asked.capacity ≡ None

  -- What holds of a run holds of its batch.
  pub outcome_of : (ran : Ran Machine) (result : Result (RunEnd Machine) (RunError Machine))
      → IfOk ran (IsRun floor.machine_words asked.dim (map (λ js. js.items) jobs))
      → IfOk ran (RanIn line floor asked (length jobs))
      → IfOk ran (λ end. length end.finished.by_worker.items ≡ asked.dispatchers)
      → IfOk ran (λ end. floor.machine_dim end.finished.machine ≡ asked.dim)
      → IfOk ran (λ end. floor.is_closed asked.dispatchers end.finished.machine)
      → IfOk ran (λ end. RefusesNothing)
      → IfErr ran (λ r. r.0 ≢ OutOfMemory → Refuses r.0)
      → IfErr ran (λ r. r.0 ≡ OutOfMemory → RefusesNothing)
      → IfErr ran (λ r. r.1.items ≡ jobs)
      → IfOk result (IsBatch ran) → IfErr result (IsRunError ran)
      → IsBatchOutcome line floor asked jobs result
  outcome_of ran (Ok end) run ran_in workers dim closed sizes first memory_last back batch stopped =
      let is = batch.0 in
      let of_run : IsRun floor.machine_words asked.dim (map (λ js. js.items) jobs) end = of_ended (IsRun floor.machine_words asked.dim (map (λ js. js.items) jobs)) ran end is run in
      record {
        answered = record {
          run = of_run;
          workers = of_ended (λ e. length e.finished.by_worker.items ≡ asked.dispatchers) ran end is workers;
          sizes = of_ended (λ e. RefusesNothing) ran end is sizes;
          done = batch.1;
          answers = answers_jobs floor.machine_words asked.dim (map (λ js. js.items) jobs) end of_run batch.1.lanes;
          accepted = counts_all floor.machine_words asked.dim (map (λ js. js.items) jobs) end of_run batch.1.lanes ∙ map_twice (λ js. js.items) length jobs;
          dim = of_ended (λ e. floor.machine_dim e.finished.machine ≡ asked.dim) ran end is dim;
          closed = of_ended (λ e. floor.is_closed asked.dispatchers e.finished.machine) ran end is closed;
        };
        ran_in = of_ended (RanIn line floor asked (length jobs)) ran end is ran_in;
        refused = tt;
        unfinished = tt;
        unfinished_ran_in = tt;
      }
  outcome_of ran (Err (Refused why back)) run ran_in workers dim closed sizes first memory_last gives_back batch stopped = record {
    answered = tt;
    ran_in = tt;
    refused = record {
      first = of_refusal (λ r. r.0 ≢ OutOfMemory → Refuses r.0) ran why back stopped first;
      memory_last = of_refusal (λ r. r.0 ≡ OutOfMemory → RefusesNothing) ran why back stopped memory_last;
      gives_back = of_refusal (λ r. r.1.items ≡ jobs) ran why back stopped gives_back;
    };
    unfinished = tt;
    unfinished_ran_in = tt;
  }
  outcome_of ran (Err (Unfinished why end)) run ran_in workers dim closed sizes first memory_last back batch stopped =
      let is = stopped.0 in
      record {
        answered = tt;
        ran_in = tt;
        refused = tt;
        unfinished = record {
          run = of_ended (IsRun floor.machine_words asked.dim (map (λ js. js.items) jobs)) ran end is run;
          workers = of_ended (λ e. length e.finished.by_worker.items ≡ asked.dispatchers) ran end is workers;
          sizes = of_ended (λ e. RefusesNothing) ran end is sizes;
          not_done = stopped.2;
          reason = stopped.1;
        };
        unfinished_ran_in = of_ended (RanIn line floor asked (length jobs)) ran end is ran_in;
      }
