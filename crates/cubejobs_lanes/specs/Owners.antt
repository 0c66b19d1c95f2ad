-- What the first handle of some lanes has.
use Rattle.std.specs.Prelude.{◌≡◌, ℕ}
use Rattle.std.specs.Arc.{arc_value}
use Rattle.lanes.specs.declared.sizes.Sizes.{Sizes}
use Rattle.lanes.specs.Lanes.{LanesId}
use Rattle.cubejobs_lanes.specs.declared.owner.Owner.{Owner}
use Rattle.cubejobs_lanes.specs.declared.sides.WorkerSide.{WorkerSide}
use Rattle.cubejobs_lanes.specs.Kept.{HasFreshLanes, HasFreshWorkers}
use Rattle.cubejobs_lanes.specs.Stages.{IsOpen}

-- The lanes of an owner.
abbrev pub lanes_of : Owner → LanesId
lanes_of owner = (arc_value owner.common).lanes

-- These are new lanes, and each lane and each worker is in its place.
pub record IsNew (sizes : Sizes) (owner : Owner) : Type 0 where
  pub sizes_are : (lanes_of owner).plan.sizes ≡ sizes
  pub is_open : IsOpen owner.stage
  pub lanes : HasFreshLanes (lanes_of owner) sizes.lanes owner.lanes.items
  pub workers : HasFreshWorkers (lanes_of owner) sizes.workers owner.workers.items

-- The lanes of a worker.
abbrev pub lanes_of_worker : WorkerSide → LanesId
lanes_of_worker side = (arc_value side.common).lanes

-- The number of lanes that a worker takes from.
abbrev pub lane_count : WorkerSide → ℕ
lane_count side = (lanes_of_worker side).plan.sizes.lanes
