-- How lanes and workers leave their places and come back.
use Rattle.std.specs.Prelude.{◌≡◌, ◌≢◌, ℕ, ◌<◌, ◌⊎◌, Option, Some, None, IsSome, List, length, slice_index_or, slice_set}
use Rattle.std.specs.Arc.{arc_value}
use Rattle.cubejobs_lanes.specs.declared.codes.TheConstants.{DONE, NONE_LEFT, OUT_OF_MEMORY}
use Rattle.cubejobs_lanes.specs.declared.kept.KeptLane.{KeptLane}
use Rattle.cubejobs_lanes.specs.declared.kept.KeptWorker.{KeptWorker}
use Rattle.cubejobs_lanes.specs.declared.owner.Owner.{Owner}
use Rattle.cubejobs_lanes.specs.declared.sides.LaneSide.{LaneSide}
use Rattle.cubejobs_lanes.specs.declared.sides.WorkerSide.{WorkerSide}
use Rattle.cubejobs_lanes.specs.declared.state.State.{State}
use Rattle.cubejobs_lanes.specs.declared.state.State.TheVariants.{Lane, Worker}
use Rattle.cubejobs_lanes.specs.Places.{AreEmptyBelow}
use Rattle.cubejobs_lanes.specs.Returns.{HasCollected}

-- A place is full.
abbrev pub HasFull : {T : Type 0} → List (Option T) → Type 0
HasFull places = (i : ℕ) × (i < length places) × IsSome (slice_index_or places i None)

-- The code of a call that takes the content of a place: `NONE_LEFT` exactly if each is empty.
abbrev pub IsPlaceCode : {T : Type 0} → ℕ → List (Option T) → Type 0
IsPlaceCode code places = ((code ≡ NONE_LEFT) × AreEmptyBelow (length places) places)
    ⊎ (HasFull places × ((code ≡ DONE) ⊎ (code ≡ OUT_OF_MEMORY)))

-- The content is a producer: the first lane that was in its place, of the same lanes. Nothing else
-- has changed.
pub record HasDealtLane (old new : Owner) (content : Option State) : Type 0 where
  pub place : ℕ
  pub kept : KeptLane
  pub side : LaneSide
  pub first : AreEmptyBelow place old.lanes.items
  pub was : slice_index_or old.lanes.items place None ≡ Some kept
  pub is : content ≡ Some (Lane side)
  pub lane : side.lane ≡ kept.lane
  pub share : arc_value side.common ≡ arc_value old.common
  pub emptied : new.lanes.items ≡ slice_set old.lanes.items place None
  pub common : arc_value new.common ≡ arc_value old.common
  pub stage : new.stage ≡ old.stage
  pub workers : new.workers ≡ old.workers

-- The same of a worker.
pub record HasDealtWorker (old new : Owner) (content : Option State) : Type 0 where
  pub place : ℕ
  pub kept : KeptWorker
  pub side : WorkerSide
  pub first : AreEmptyBelow place old.workers.items
  pub was : slice_index_or old.workers.items place None ≡ Some kept
  pub is : content ≡ Some (Worker side)
  pub worker : side.worker ≡ kept.worker
  pub share : arc_value side.common ≡ arc_value old.common
  pub emptied : new.workers.items ≡ slice_set old.workers.items place None
  pub common : arc_value new.common ≡ arc_value old.common
  pub stage : new.stage ≡ old.stage
  pub lanes : new.lanes ≡ old.lanes

-- A call asked for a lane. The owner first took what had come back. Then this is the code. With
-- `DONE` the content is the first lane in its place, and otherwise nothing more has changed.
pub record AsksLane (code : ℕ) (old new : Owner) (content : Option State) : Type 0 where
  pub mid : Owner
  pub collected : HasCollected old mid
  pub code_is : IsPlaceCode code mid.lanes.items
  pub dealt : code ≡ DONE → HasDealtLane mid new content
  pub refused : code ≢ DONE → new ≡ mid

-- The same of a worker.
pub record AsksWorker (code : ℕ) (old new : Owner) (content : Option State) : Type 0 where
  pub mid : Owner
  pub collected : HasCollected old mid
  pub code_is : IsPlaceCode code mid.workers.items
  pub dealt : code ≡ DONE → HasDealtWorker mid new content
  pub refused : code ≢ DONE → new ≡ mid

-- The call was refused, whatever the content of the other handle is.
abbrev pub RefusesLane : ℕ → Owner → Owner → Type 0
RefusesLane code old new = (content : Option State) → AsksLane code old new content

-- The same of a worker.
abbrev pub RefusesWorker : ℕ → Owner → Owner → Type 0
RefusesWorker code old new = (content : Option State) → AsksWorker code old new content
