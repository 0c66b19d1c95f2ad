-- How lanes and workers come back to their places.
use Rattle.std.specs.Prelude.{◌≡◌}
use Rattle.std.specs.Arc.{arc_value}
use Rattle.cubejobs_lanes.specs.KeptReturns.{StayFull}
use Rattle.cubejobs_lanes.specs.declared.owner.Owner.{Owner}

-- Lanes and workers that had come back may be in places that were empty. Nothing else has changed.
pub record HasCollected (old new : Owner) : Type 0 where
  pub lanes : StayFull old.lanes.items new.lanes.items
  pub workers : StayFull old.workers.items new.workers.items
  pub common : arc_value new.common ≡ arc_value old.common
  pub stage : new.stage ≡ old.stage
