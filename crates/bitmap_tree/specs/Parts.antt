-- A held block and the seat that has it.
use Rattle.std.specs.Prelude.{◌≡◌, ℕ, ◌+◌, ◌%◌, ◌^◌, ◌≤◌}
use Rattle.cube_shape.specs.declared.limits.TheConstants.{MAX_BITMAP_DIM}
use Rattle.cube_shape.specs.declared.region.Region.{Region}
use Rattle.bitmap_tree.specs.Rule.{word_count}
use Rattle.bitmap_tree.specs.Layout.{HasRun, run_of}
use Rattle.bitmap_tree.specs.Seats.{SeatOf}

-- The seat has the bits of this block, which is aligned, in a machine of dimension n.
pub record IsHeldBy (n : ℕ) (r : Region) (seat : SeatOf) : Type 0 where
  pub claimed : HasRun (run_of n r) seat.me
  pub begins : r.base % 2 ^ r.dim ≡ 0
  pub within : r.base + 2 ^ r.dim ≤ 2 ^ n
  pub fits : r.dim ≤ n
  pub words : seat.table_id.words ≡ word_count n
  pub dim_in_limits : n ≤ MAX_BITMAP_DIM
