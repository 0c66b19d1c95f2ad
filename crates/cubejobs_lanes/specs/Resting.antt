-- What a handle of a worker has, whether the worker lies down or not.
use Rattle.std.specs.Prelude.{◌≡◌, ℕ, ◌<◌, false, Option, Some, None, IfSome, List}
use Rattle.std.specs.Arc.{arc_value}
use Rattle.wake_calls.specs.declared.deed.WakeDeed.{WakeDeed}
use Rattle.lanes.specs.Deeds.{and_given, given_in, has_call}
use Rattle.lanes.specs.declared.finder.At.{At}
use Rattle.lanes.specs.declared.finder.At.TheVariants.{Idle, Parked}
use Rattle.lanes.specs.declared.finder.Found.{Found}
use Rattle.lanes.specs.declared.finder.Found.TheVariants.{Job, Ended, Park, Again}
use Rattle.lanes.specs.declared.record.WorkerRecord.{WorkerRecord}
use Rattle.cubejobs_lanes.specs.declared.codes.TheConstants.{ASLEEP, DONE, NOT_OPEN, OTHER_KIND}
use Rattle.cubejobs_lanes.specs.declared.common.Common.{Common}
use Rattle.cubejobs_lanes.specs.declared.find_answer.FindAnswer.{FindAnswer}
use Rattle.cubejobs_lanes.specs.declared.sleeper_side.KeptJob.{KeptJob}
use Rattle.cubejobs_lanes.specs.declared.sleeper_side.SleeperSide.{SleeperSide}
use Rattle.cubejobs_lanes.specs.declared.state.State.{State}
use Rattle.cubejobs_lanes.specs.declared.state.State.TheVariants.{Sleeper, Worker}
use Rattle.cubejobs_lanes.specs.Finds.{find_answer, woken_number}
use Rattle.cubejobs_lanes.specs.Sleeps.{found_by, FindsNow, Stops}

-- A worker: its lanes, the job that it keeps for the next call, what it is known to have done, and
-- where it is. The deeds are what it did for other workers and with its calls, the latest first.
pub record Resting : Type 0 where
  pub common : Common
  pub kept : Option KeptJob
  pub known : WorkerRecord
  pub at : At
  pub deeds : List WakeDeed

-- A worker that may lie down.
abbrev pub resting_of : SleeperSide → Resting
resting_of side = record {
  common = arc_value side.common;
  kept = side.kept;
  known = side.finder.known;
  at = side.finder.at;
  deeds = side.finder.deeds;
}

-- The worker of a handle, if it is one.
abbrev pub resting_in : Option State → Option Resting
resting_in (Some (Worker side)) = Some (record { common = arc_value side.common; kept = None; known = side.worker.known; at = Idle; deeds = side.worker.deeds })
resting_in (Some (Sleeper side)) = Some (resting_of side)
resting_in other = None

-- Why a call of a worker is refused that may lie down, or `DONE`.
abbrev pub resting_refusal : Option State → ℕ
resting_refusal None = NOT_OPEN
resting_refusal (Some (Worker side)) = DONE
resting_refusal (Some (Sleeper side)) = DONE
resting_refusal (Some other) = OTHER_KIND

-- Why a call of a worker that needs to be awake is refused once the worker has found this.
abbrev pub refusal_after : Found → ℕ
refusal_after (Job lane job left) = DONE
refusal_after Ended = DONE
refusal_after Park = ASLEEP
refusal_after Again = ASLEEP

-- The number of lanes of a worker.
abbrev pub lanes_at : Resting → ℕ
lanes_at worker = worker.common.lanes.plan.sizes.lanes

-- The number of workers of its lanes.
abbrev pub workers_at : Resting → ℕ
workers_at worker = worker.common.lanes.plan.sizes.workers

-- The worker looked for a job in its lanes from this one on, or went on where its last call had
-- stopped. This is the answer. The worker that it names is one of these lanes: that one was given
-- its token, and no other. A call for which the worker got up is out of its mailbox.
pub record HasFound (from : ℕ) (answer : FindAnswer) (old new : Resting) : Type 0 where
  pub found : Found
  pub woken : Option ℕ
  pub answer_is : answer ≡ find_answer found (woken_number woken)
  pub same : new.common ≡ old.common
  pub finds : FindsNow old.kept (lanes_at old) from old.known (found_by new.kept found) new.known
  pub stops : Stops new.kept found new.at
  pub of_lanes : IfSome woken (λ number. number < workers_at old)
  pub given : given_in new.deeds ≡ and_given woken (given_in old.deeds)
  pub calls : has_call old.deeds ≡ false → has_call new.deeds ≡ false

-- The worker parks until it has its token.
abbrev pub Parks : Resting → Type 0
Parks worker = worker.at ≡ Parked
