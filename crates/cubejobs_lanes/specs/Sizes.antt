-- The sizes of lanes, as C passes them.
use Rattle.std.specs.Prelude.{◌<◌, ◌≤◌}
use Rattle.lanes.specs.declared.sizes.Sizes.{Sizes}
use Rattle.lanes.specs.declared.sizes.TheConstants.{MAX_CAPACITY, MAX_LANES, MAX_WORKERS}
use Rattle.cubejobs_lanes.specs.declared.sizes.LaneSizes.{LaneSizes}

-- The same as sizes of lanes.
abbrev pub sizes_of : LaneSizes → Sizes
sizes_of s = record { lanes = s.lanes; workers = s.workers; capacity = s.capacity }

-- All three are in their limits.
pub record AreInLimits (s : LaneSizes) : Type 0 where
  pub some_lane : 0 < s.lanes
  pub lanes : s.lanes ≤ MAX_LANES
  pub some_worker : 0 < s.workers
  pub workers : s.workers ≤ MAX_WORKERS
  pub some_room : 0 < s.capacity
  pub capacity : s.capacity ≤ MAX_CAPACITY
