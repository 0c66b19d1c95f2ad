-- What the tag of a block's handle says.
use Rattle.std.specs.Prelude.{ℕ, ◌/◌, ◌%◌, ◌^◌, ◌==◌, Bool}
use Rattle.cube_shape.specs.declared.limits.TheConstants.{MAX_BITMAP_DIM}
use Rattle.cube_shape.specs.declared.region.Region.{Region}
use Rattle.cubejobs_regions.specs.declared.codes.TheConstants.{HELD}

-- The handle holds a block.
abbrev pub is_held : ℕ → Bool
is_held tag = tag / 64 / 64 / 2 ^ MAX_BITMAP_DIM == HELD

-- The block.
abbrev pub tag_region : ℕ → Region
tag_region tag = record { base = tag / 64 / 64 % 2 ^ MAX_BITMAP_DIM; dim = tag / 64 % 64 }

-- The dimension of the machine in which it is held.
abbrev pub tag_dim : ℕ → ℕ
tag_dim tag = tag % 64
