-- Two handles hold blocks that do not overlap.
use Rattle.std.specs.Prelude.{◌≡◌, Some}
use Rattle.cube_shape.specs.Region.{AreApart}
use Rattle.cubejobs_regions.specs.declared.block_handle.BlockHandle.{BlockHandle}
use Rattle.cubejobs_regions.specs.Holds.{hold_of, Hold}

-- Both handles hold the blocks that they held before, and these have no processor in common.
pub record HoldApart (a b a_after b_after : BlockHandle) : Type 0 where
  pub first : Hold
  pub second : Hold
  pub first_after : Hold
  pub second_after : Hold
  pub was_first : hold_of a ≡ Some first
  pub was_second : hold_of b ≡ Some second
  pub is_first : hold_of a_after ≡ Some first_after
  pub is_second : hold_of b_after ≡ Some second_after
  pub same_first : first_after.region ≡ first.region
  pub same_second : second_after.region ≡ second.region
  pub apart : AreApart first.region second.region
