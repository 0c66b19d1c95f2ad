-- What a call changes in the content of a handle.
use Rattle.std.specs.Prelude.{◌≡◌, ℕ, ◌+◌, ◌≤◌}
use Rattle.std.specs.Arc.{arc_value}
use Rattle.lanes.specs.declared.submits.Submitted.{Submitted}
use Rattle.lanes.specs.declared.rounds.Looked.{Looked}
use Rattle.lanes.specs.declared.rounds.TakenAny.{TakenAny}
use Rattle.lanes.specs.declared.takes.Taken.{Taken}
use Rattle.lanes.specs.Lanes.{call_steps, ChangesOnly, Looks, SubmitKeeps, Submits, TakeAnyKeeps, Takes, TakesAny}
use Rattle.lanes.specs.Record.{take_of}
use Rattle.cubejobs_lanes.specs.declared.answers.SubmitAnswer.{SubmitAnswer}
use Rattle.cubejobs_lanes.specs.declared.answers.JobAnswer.{JobAnswer}
use Rattle.cubejobs_lanes.specs.declared.answers.LookAnswer.{LookAnswer}
use Rattle.cubejobs_lanes.specs.declared.sides.LaneSide.{LaneSide}
use Rattle.cubejobs_lanes.specs.declared.sides.WorkerSide.{WorkerSide}
use Rattle.cubejobs_lanes.specs.Answers.{any_answer, look_answer, submit_answer, take_answer}
use Rattle.cubejobs_lanes.specs.Owners.{lane_count}

-- The producer submitted a job with this payload and this dimension, at the same lanes, and this is
-- the answer.
pub record HasSubmitted (payload dim : ℕ) (answer : SubmitAnswer) (old new : LaneSide) :
    Type 0 where
  pub submitted : Submitted
  pub answer_is : answer ≡ submit_answer submitted
  pub same : arc_value new.common ≡ arc_value old.common
  pub submits : Submits payload dim old.lane.known submitted new.lane.known
  pub keeps : SubmitKeeps old.lane.known new.lane.known
  pub deeds : new.lane.deeds ≡ old.lane.deeds

-- The worker tried to take a job from this lane, of the same lanes, and this is the answer.
pub record HasTaken (lane : ℕ) (answer : JobAnswer) (old new : WorkerSide) : Type 0 where
  pub taken : Taken
  pub answer_is : answer ≡ take_answer lane taken
  pub same : arc_value new.common ≡ arc_value old.common
  pub only : ChangesOnly lane old.worker.known new.worker.known
  pub takes : Takes (take_of lane old.worker.known) taken (take_of lane new.worker.known)
  pub few : (take_of lane new.worker.known).steps
      ≤ (take_of lane old.worker.known).steps + call_steps
  pub deeds : new.worker.deeds ≡ old.worker.deeds

-- The worker went round all lanes for a job, from this one on, and this is the answer.
pub record HasTakenAny (from : ℕ) (answer : JobAnswer) (old new : WorkerSide) : Type 0 where
  pub taken : TakenAny
  pub answer_is : answer ≡ any_answer taken
  pub same : arc_value new.common ≡ arc_value old.common
  pub takes : TakesAny (lane_count old) from old.worker.known taken new.worker.known
  pub keeps : TakeAnyKeeps (lane_count old) old.worker.known new.worker.known
  pub deeds : new.worker.deeds ≡ old.worker.deeds

-- The worker looked for a job in this lane, and this is the answer.
pub record HasLooked (lane : ℕ) (answer : LookAnswer) (old new : WorkerSide) : Type 0 where
  pub looked : Looked
  pub answer_is : answer ≡ look_answer looked
  pub same : arc_value new.common ≡ arc_value old.common
  pub only : ChangesOnly lane old.worker.known new.worker.known
  pub looks : Looks (take_of lane old.worker.known) looked (take_of lane new.worker.known)
  pub deeds : new.worker.deeds ≡ old.worker.deeds
