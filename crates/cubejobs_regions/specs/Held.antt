-- A held block as a handle holds it.
use Rattle.std.specs.Prelude.{ℕ}
use Rattle.bitmap_tree.specs.declared.handles.HeldBlock.{HeldBlock}
use Rattle.bitmap_tree.specs.Handles.{held_dim, held_region, held_seat}
use Rattle.cubejobs_regions.specs.Holds.{Hold}

-- The held block of a machine of this number.
abbrev pub held_at : ℕ → HeldBlock → Hold
held_at number held = record {
  number = number;
  dim = held_dim held;
  region = held_region held;
  seat = held_seat held;
}
