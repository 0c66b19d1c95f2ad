-- The content of a handle, and why a call is refused by its kind.
use Rattle.std.specs.Prelude.{ℕ, Option, Some, None}
use Rattle.cubejobs_lanes.specs.declared.codes.TheConstants.{ASLEEP, DONE, FINISHED, NOT_FINISHED, NOT_OPEN, OTHER_KIND}
use Rattle.cubejobs_lanes.specs.declared.left.Left.{Left as JobsLeft}
use Rattle.cubejobs_lanes.specs.declared.owner.Owner.{Owner as LanesOwner}
use Rattle.cubejobs_lanes.specs.declared.sides.LaneSide.{LaneSide}
use Rattle.cubejobs_lanes.specs.declared.sides.WorkerSide.{WorkerSide}
use Rattle.cubejobs_lanes.specs.declared.state.State.{State}
use Rattle.cubejobs_lanes.specs.declared.state.State.TheVariants.{Owner, Lane, Worker, Sleeper, Left}

-- The lanes of a handle, if it is that of their owner.
abbrev pub owner_in : Option State → Option LanesOwner
owner_in (Some (Owner owner)) = Some owner
owner_in other = None

-- The producer of a handle, if it is one.
abbrev pub lane_in : Option State → Option LaneSide
lane_in (Some (Lane side)) = Some side
lane_in other = None

-- The worker of a handle, if it is one.
abbrev pub worker_in : Option State → Option WorkerSide
worker_in (Some (Worker side)) = Some side
worker_in other = None

-- The jobs left of a handle, if its lanes have ended.
abbrev pub left_in : Option State → Option JobsLeft
left_in (Some (Left left)) = Some left
left_in other = None

-- Why a call of the owner is refused by the kind of its handle, or `DONE`.
abbrev pub owner_refusal : Option State → ℕ
owner_refusal None = NOT_OPEN
owner_refusal (Some (Owner owner)) = DONE
owner_refusal (Some (Left left)) = FINISHED
owner_refusal (Some other) = OTHER_KIND

-- The same of a producer.
abbrev pub lane_refusal : Option State → ℕ
lane_refusal None = NOT_OPEN
lane_refusal (Some (Lane side)) = DONE
lane_refusal (Some other) = OTHER_KIND

-- The same of a call that needs a worker which is awake.
abbrev pub worker_refusal : Option State → ℕ
worker_refusal None = NOT_OPEN
worker_refusal (Some (Worker side)) = DONE
worker_refusal (Some (Sleeper side)) = ASLEEP
worker_refusal (Some other) = OTHER_KIND

-- The same of a handle whose lanes have ended.
abbrev pub left_refusal : Option State → ℕ
left_refusal None = NOT_OPEN
left_refusal (Some (Left left)) = DONE
left_refusal (Some (Owner owner)) = NOT_FINISHED
left_refusal (Some other) = OTHER_KIND

-- The handle has a content of this kind, with this property.
abbrev pub On : {A : Type 0} → (A → Type 0) → Option A → Type 0
On P (Some x) = P x
On P None = ⊥
