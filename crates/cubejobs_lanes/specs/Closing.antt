-- How lanes are closed.
use Rattle.std.specs.Prelude.{◌≡◌, ℕ, ◌^◌, ◌-◌, min, List, length}
use Rattle.std.specs.Arc.{arc_value}
use Rattle.std.specs.List.{sum}
use Rattle.cubejobs_lanes.specs.declared.owner.Owner.{Owner}
use Rattle.cubejobs_lanes.specs.Owners.{lanes_of}
use Rattle.cubejobs_lanes.specs.Stages.{IsClosedAt}

-- The lanes were closed, each at its count of accepted jobs. The total is the sum of these counts,
-- or 2^64 - 1 if that is more. Nothing else has changed.
pub record HasClosed (total : ℕ) (old new : Owner) : Type 0 where
  pub counts : List ℕ
  pub closed : IsClosedAt counts new.stage
  pub each : length counts ≡ (lanes_of old).plan.sizes.lanes
  pub total_is : total ≡ min (sum counts) (2 ^ 64 - 1)
  pub common : arc_value new.common ≡ arc_value old.common
  pub lanes : new.lanes ≡ old.lanes
  pub workers : new.workers ≡ old.workers
