-- What the handle of a block holds.
use Rattle.std.specs.Prelude.{ℕ, List, Option, Some, None, if◌then◌else◌}
use Rattle.cube_shape.specs.declared.region.Region.{Region}
use Rattle.bitmap_tree.specs.declared.view.Note.{Note}
use Rattle.bitmap_tree.specs.Seats.{SeatOf}
use Rattle.bitmap_tree.specs.HiddenSeats.{seat_in}
use Rattle.cubejobs_regions.specs.Tags.{is_held, tag_dim, tag_region}
use Rattle.cubejobs_regions.specs.declared.block_handle.BlockHandle.{BlockHandle}

-- A block that is held: the number and the dimension of its machine, the block, and the seat that
-- has it.
pub record Hold : Type 0 where
  pub number : ℕ
  pub dim : ℕ
  pub region : Region
  pub seat : SeatOf

-- What the handle would hold, were its tag that of a held block.
abbrev pub hold_in : BlockHandle → Hold
hold_in handle = record {
  number = handle.machine;
  dim = tag_dim handle.tag;
  region = tag_region handle.tag;
  seat = seat_in handle.seat;
}

-- What the handle holds, if it holds a block.
abbrev pub hold_of : BlockHandle → Option Hold
hold_of handle = if is_held handle.tag then Some (hold_in handle) else None

-- What the steps found and left that took it, the newest first.
abbrev pub hold_trail : Hold → List Note
hold_trail hold = hold.seat.me.0.trail
