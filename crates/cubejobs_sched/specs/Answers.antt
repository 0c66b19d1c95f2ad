-- What each answer of a scheduler says to callers in C.
use Rattle.std.specs.Prelude.{ℕ, Bool, true, false, Option, Some, None, Result, Ok, Err}
use Rattle.sched_board.specs.declared.calls.BlockError.{BlockError}
use Rattle.sched_board.specs.declared.calls.BlockError.TheVariants.{OutOfRange as NoBlock, WrongState as OtherState}
use Rattle.sched_board.specs.declared.calls.CancelError.{CancelError}
use Rattle.sched_board.specs.declared.calls.CancelError.TheVariants.{NoJob, Runs}
use Rattle.sched_board.specs.declared.calls.Effect.{Effect}
use Rattle.sched_board.specs.declared.calls.RestJob.{RestJob}
use Rattle.sched_board.specs.declared.calls.SubmitError.{SubmitError}
use Rattle.sched_board.specs.declared.calls.SubmitError.TheVariants.{OutOfRange, Closed, Full}
use Rattle.sched_board.specs.declared.serving.Served.{Served}
use Rattle.sched_board.specs.declared.start.ThreadStart.{ThreadStart}
use Rattle.sched_core.specs.declared.assigned.Forecast.{Forecast}
use Rattle.sched_core.specs.declared.assigned.Forecast.TheVariants.{Nothing, Queued, Promised, Started}
use Rattle.sched_threads.specs.declared.counts.SchedCounts.{SchedCounts}
use Rattle.sched_threads.specs.declared.desk.WrongState.{WrongState}
use Rattle.cubejobs_sched.specs.declared.answer.SchedAnswer.{SchedAnswer}
use Rattle.cubejobs_sched.specs.declared.answer.CountsAnswer.{CountsAnswer}
use Rattle.cubejobs_sched.specs.declared.answer.SchedForecast.{SchedForecast}
use Rattle.cubejobs_sched.specs.declared.codes.TheConstants.{CLOSED, DONE, FULL, NO_JOB, OUT_OF_RANGE, WRONG_STATE}

-- ---- parts of answers

-- 1 if it holds, else 0.
abbrev pub flag_of : Bool → ℕ
flag_of true = 1
flag_of false = 0

-- Only a code: all else is 0.
abbrev pub refusal : ℕ → SchedAnswer
refusal code = record { code = code; count = 0; first = 0; second = 0; third = 0; fourth = 0; more = 0; over = 0; ticket = 0; payload = 0; base = 0; processors = 0; worker = 0 }

-- What followed for workers, and a ticket and a payload.
abbrev pub effect_answer : Effect → ℕ → ℕ → SchedAnswer
effect_answer effect ticket payload = record {
  code = DONE;
  count = effect.woken.count;
  first = effect.woken.first;
  second = effect.woken.second;
  third = effect.woken.third;
  fourth = effect.woken.fourth;
  more = flag_of effect.more;
  over = flag_of effect.over;
  ticket = ticket;
  payload = payload;
  base = 0;
  processors = 0;
  worker = 0;
}

-- The job that starts. Without one, all is 0.
abbrev pub start_in : Option ThreadStart → ThreadStart
start_in (Some start) = start
start_in None = record { ticket = 0; payload = 0; base = 0; processors = 0 }

-- A code, what followed for other workers, and the job that the worker got.
abbrev pub served_answer : ℕ → Served → SchedAnswer
served_answer code served = record {
  code = code;
  count = served.woken.count;
  first = served.woken.first;
  second = served.woken.second;
  third = served.woken.third;
  fourth = served.woken.fourth;
  more = flag_of served.more;
  over = flag_of served.over;
  ticket = (start_in served.start).ticket;
  payload = (start_in served.start).payload;
  base = (start_in served.start).base;
  processors = (start_in served.start).processors;
  worker = 0;
}

-- ---- codes

-- Why a job is not submitted.
abbrev pub submit_code : SubmitError → ℕ
submit_code OutOfRange = OUT_OF_RANGE
submit_code Closed = CLOSED
submit_code Full = FULL

-- Why a job is not cancelled.
abbrev pub cancel_code : CancelError → ℕ
cancel_code NoJob = NO_JOB
cancel_code Runs = WRONG_STATE

-- Why a block stays as it is.
abbrev pub block_code : BlockError → ℕ
block_code NoBlock = OUT_OF_RANGE
block_code OtherState = WRONG_STATE

-- Whether a worker got a job.
abbrev pub give_code : Option ThreadStart → ℕ
give_code (Some start) = DONE
give_code None = NO_JOB

-- Whether a worker got a job, and if not, whether all is over.
abbrev pub next_code : Option ThreadStart → Bool → ℕ
next_code (Some start) over = DONE
next_code None true = CLOSED
next_code None false = NO_JOB

-- ---- answers about jobs and blocks

-- The ticket of a job that was submitted.
abbrev pub submit_answer : Result (ℕ × Effect) SubmitError → SchedAnswer
submit_answer (Ok it) = effect_answer it.1 it.0 0
submit_answer (Err why) = refusal (submit_code why)

-- The payload of a job that was cancelled.
abbrev pub cancel_answer : ℕ → Result (ℕ × Effect) CancelError → SchedAnswer
cancel_answer ticket (Ok it) = effect_answer it.1 ticket it.0
cancel_answer ticket (Err why) = refusal (cancel_code why)

-- What followed for workers when a block went out of service, or came back.
abbrev pub block_answer : Result Effect BlockError → SchedAnswer
block_answer (Ok effect) = effect_answer effect 0 0
block_answer (Err why) = refusal (block_code why)

-- ---- answers to workers

-- The worker that the thread is.
abbrev pub sit_answer : Option ℕ → SchedAnswer
sit_answer (Some u) = record (refusal DONE) { worker = u }
sit_answer None = refusal FULL

-- The next job of a worker, or that it waits for one.
abbrev pub next_answer : Result Served WrongState → SchedAnswer
next_answer (Ok served) = served_answer (next_code served.start served.over) served
next_answer (Err why) = refusal WRONG_STATE

-- The job that a worker got before it gave up, or that it got none.
abbrev pub give_up_answer : Result Served WrongState → SchedAnswer
give_up_answer (Ok served) = served_answer (give_code served.start) served
give_up_answer (Err why) = refusal WRONG_STATE

-- That of a worker whose job ends.
abbrev pub end_answer : Result Served WrongState → SchedAnswer
end_answer (Ok served) = served_answer DONE served
end_answer (Err why) = refusal WRONG_STATE

-- ---- answers when a scheduler closes

-- What followed for workers, or that no job may come already.
abbrev pub close_answer : Option Effect → SchedAnswer
close_answer (Some effect) = effect_answer effect 0 0
close_answer None = refusal CLOSED

-- The job that is given back, and the slot that it had.
abbrev pub rest_answer : Result (Option RestJob) WrongState → SchedAnswer
rest_answer (Ok (Some rest)) = record (refusal DONE) { ticket = rest.ticket; payload = rest.payload; worker = rest.slot }
rest_answer (Ok None) = refusal NO_JOB
rest_answer (Err why) = refusal WRONG_STATE

-- What followed for workers.
abbrev pub settle_answer : Effect → SchedAnswer
settle_answer effect = effect_answer effect 0 0

-- ---- answers to callers that look

-- Only a code: all else is 0.
abbrev pub forecast_refusal : ℕ → SchedForecast
forecast_refusal code = record { code = code; state = 0; base = 0; time = 0; dim = 0; unused = 0 }

-- State 0: there is no forecast; 1: it waits in order; 2: a block is reserved for it; 3: it runs.
abbrev pub forecast_answer : Option Forecast → SchedForecast
forecast_answer None = forecast_refusal NO_JOB
forecast_answer (Some Nothing) = forecast_refusal DONE
forecast_answer (Some Queued) = record (forecast_refusal DONE) { state = 1 }
forecast_answer (Some (Promised block time)) = record { code = DONE; state = 2; base = block.base; time = time; dim = block.dim; unused = 0 }
forecast_answer (Some (Started block time)) = record { code = DONE; state = 3; base = block.base; time = time; dim = block.dim; unused = 0 }

-- Only a code: all else is 0.
abbrev pub counts_refusal : ℕ → CountsAnswer
counts_refusal code = record { code = code; held = 0; occupied = 0; unused = 0; waiting = 0; running = 0; asked = 0 }

-- How much the scheduler does.
abbrev pub counts_answer : SchedCounts → CountsAnswer
counts_answer counts = record { code = DONE; held = counts.held; occupied = counts.occupied; unused = 0; waiting = counts.waiting; running = counts.running; asked = counts.asked }
