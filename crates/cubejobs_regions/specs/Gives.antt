-- What a release, a split and a join change in the handles of blocks.
use Rattle.std.specs.Prelude.{◌≡◌, ◌≤◌, ◌+◌, length, [], Some}
use Rattle.bitmap_tree.specs.Bounds.{release_steps}
use Rattle.bitmap_tree.specs.Layout.{lower_half, run_of, upper_half, whole_of, AreHalves}
use Rattle.bitmap_tree.specs.Trail.{AreRightSteps, OnlyLooked, WasReleased}
use Rattle.cubejobs_regions.specs.declared.block_handle.BlockHandle.{BlockHandle}
use Rattle.cubejobs_regions.specs.declared.machine.Machine.{Machine}
use Rattle.cubejobs_regions.specs.Holding.{trail_of, IsHoldOf}
use Rattle.cubejobs_regions.specs.Holds.{hold_of, hold_trail, Hold}
use Rattle.cubejobs_regions.specs.Machine.{dim_of_machine}

-- The block that the handle held is released. The first step after those that took it cleared its
-- bits.
pub record IsReleased (machine : Machine) (old new : BlockHandle) : Type 0 where
  pub hold : Hold
  pub was : hold_of old ≡ Some hold
  pub of_machine : IsHoldOf machine hold
  pub released : WasReleased (run_of (dim_of_machine machine) hold.region) (hold_trail hold)
      (trail_of new)
  pub steps : AreRightSteps (dim_of_machine machine) (hold_trail hold)
      → AreRightSteps (dim_of_machine machine) (trail_of new)
  pub few : length (trail_of new) ≤ length (hold_trail hold) + release_steps

-- The handle holds the lower half of what it held, and another handle the upper half. Both are of
-- the machine. No bit changed.
pub record IsSplit (machine : Machine) (old new half : BlockHandle) : Type 0 where
  pub hold : Hold
  pub lower : Hold
  pub upper : Hold
  pub was : hold_of old ≡ Some hold
  pub is : hold_of new ≡ Some lower
  pub other : hold_of half ≡ Some upper
  pub lower_of : IsHoldOf machine lower
  pub upper_of : IsHoldOf machine upper
  pub lower_is : lower.region ≡ lower_half hold.region
  pub upper_is : upper.region ≡ upper_half hold.region
  pub unchanged : OnlyLooked (hold_trail hold) (hold_trail lower)
  pub no_step : hold_trail upper ≡ []

-- The handle holds the block of which it held the lower half, and another handle the upper half. It
-- is of the machine. No bit changed.
pub record IsJoined (machine : Machine) (old half new : BlockHandle) : Type 0 where
  pub lower : Hold
  pub upper : Hold
  pub whole : Hold
  pub was : hold_of old ≡ Some lower
  pub other : hold_of half ≡ Some upper
  pub is : hold_of new ≡ Some whole
  pub halves : AreHalves lower.region upper.region
  pub whole_of_machine : IsHoldOf machine whole
  pub whole_is : whole.region ≡ whole_of lower.region
  pub unchanged : OnlyLooked (hold_trail lower) (hold_trail whole)
