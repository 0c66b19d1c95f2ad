-- When lanes can end, and what is left then.
use Rattle.std.specs.Prelude.{◌≡◌, ◌≢◌, ℕ, ◌<◌, ◌⊎◌, Option, Some, None, List, length, slice_index_or}
use Rattle.cubejobs_lanes.specs.declared.answers.FinishAnswer.{FinishAnswer}
use Rattle.cubejobs_lanes.specs.declared.codes.TheConstants.{DONE, LANE_OUT, NOT_CLOSED, STILL_SHARED, WORKER_OUT}
use Rattle.cubejobs_lanes.specs.declared.left.Left.{Left}
use Rattle.cubejobs_lanes.specs.declared.owner.Owner.{Owner}
use Rattle.cubejobs_lanes.specs.declared.state.State.{State}
use Rattle.cubejobs_lanes.specs.Contents.{left_in, owner_in, On}
use Rattle.cubejobs_lanes.specs.Ending.{IsLeftOf}
use Rattle.cubejobs_lanes.specs.Returns.{HasCollected}
use Rattle.cubejobs_lanes.specs.Owners.{lanes_of}
use Rattle.cubejobs_lanes.specs.Places.{AreFullBelow}
use Rattle.cubejobs_lanes.specs.Stages.{IsClosed, IsOpen}

-- This place is the first that is empty.
pub record IsFirstEmpty {T : Type 0} (place : ℕ) (places : List (Option T)) : Type 0 where
  pub inside : place < length places
  pub empty : slice_index_or places place None ≡ None
  pub first : AreFullBelow place places

-- Each place is full.
abbrev pub AreFull : {T : Type 0} → List (Option T) → Type 0
AreFull places = AreFullBelow (length places) places

-- Each lane and each worker is in its place.
pub record AllAreBack (owner : Owner) : Type 0 where
  pub lanes : AreFull owner.lanes.items
  pub workers : AreFull owner.workers.items

-- The answer says why the lanes cannot end. They are open. Or this lane is the first that is not in
-- its place. Or each lane is there, and this worker is the first that is not. Or it is `DONE`, and
-- they can end.
pub data IsFinishCode (answer : FinishAnswer) (owner : Owner) : Type 0 where
  not_closed : IsOpen owner.stage → answer ≡ record { code = NOT_CLOSED; number = 0 }
      → IsFinishCode answer owner
  lane_out : IsClosed owner.stage → answer.code ≡ LANE_OUT
      → IsFirstEmpty answer.number owner.lanes.items → IsFinishCode answer owner
  worker_out : IsClosed owner.stage → answer.code ≡ WORKER_OUT → AreFull owner.lanes.items
      → IsFirstEmpty answer.number owner.workers.items → IsFinishCode answer owner
  done : IsClosed owner.stage → answer ≡ record { code = DONE; number = 0 } → AllAreBack owner
      → IsFinishCode answer owner

-- The answer of a finish: the same, or the lanes can end and another call uses them.
abbrev pub IsFinishAnswer : FinishAnswer → Owner → Type 0
IsFinishAnswer answer owner = IsFinishCode answer owner ⊎ (IsClosed owner.stage × AllAreBack owner
    × (answer ≡ record { code = STILL_SHARED; number = 0 }))

-- The lanes have ended, and these jobs are left.
abbrev pub HasEnded : Owner → Left → Type 0
HasEnded owner left =
    IsLeftOf (lanes_of owner) owner.stage owner.lanes.items owner.workers.items left

-- A call was to end the lanes. The owner first took what had come back. Then this is the answer.
-- With `DONE` the handle has the jobs that are left, and otherwise the lanes.
pub record TriesToFinish (answer : FinishAnswer) (old : Owner) (content : Option State) : Type 0
  where
    pub mid : Owner
    pub collected : HasCollected old mid
    pub answer_is : IsFinishAnswer answer mid
    pub ended : answer.code ≡ DONE → On (HasEnded mid) (left_in content)
    pub refused : answer.code ≢ DONE → owner_in content ≡ Some mid
