-- What contracts see of a seat.
use Rattle.std.specs.Prelude.{◌≡◌, ℕ, []}
use Rattle.atomic_table.specs.Seated.{TableId}
use Rattle.ghost_history.specs.Sums.{total}
use Rattle.bitmap_tree.specs.Layout.{Known}
use Rattle.bitmap_tree.specs.Rule.{has}

-- The table at which it is, and what it knows.
pub record SeatOf : Type 0 where
  pub table_id : TableId
  pub me : Known

-- The seat has no bit of any word.
abbrev pub HasNoBit : Known → Type 0
HasNoBit m = ((q : ℕ) → total (has q) m.0.runs ≡ 0) × (m.1 ≡ [])
