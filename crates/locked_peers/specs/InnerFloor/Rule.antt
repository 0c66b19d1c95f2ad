-- The rule of a locked allocator's table. Its one word is 1 while a seat has taken the slot with
-- the bits.
use Rattle.std.specs.Prelude.{◌≡◌, ℕ, ◌<◌, List}
use mathlib.Core.Option.{some}
use lib.ListN.{get_elem?}
use Rattle.atomic_table.specs.Table.{State}
use Rattle.ghost_history.specs.Views.{Tied}
use Rattle.locked_peers.specs.Cell.{IsCell}
use Rattle.alloc_bits.specs.Allocation.{Allocation, held_in}
use Rattle.locked_peers.specs.declared.floor_view.Size.{Size}
use Rattle.locked_peers.specs.declared.floor_view.View.{View}
use Rattle.locked_peers.specs.InnerFloor.View.{found_in, members}
use Rattle.locked_peers.specs.InnerFloor.Deed.{Deed, station_part, held_after, IsLegal}

-- The bits are those that the history leaves.
pub record Fits (size : Size) (history : List Deed) (x : Allocation) : Type 0 where
  pub dim : x.dim ≡ size.dim
  pub held : (station : ℕ) → held_in x station ≡ held_after history station

-- Some legal history leads to this table. Each record in a view is its station's part of it.
pub record Keeps (size : Size) (s : State Allocation View) : Type 0 where
  pub history : List Deed
  pub legal : IsLegal size history
  pub stations : Tied (λ (v : View). v.stations) (λ r. r.number) size.stations
      (station_part history) s.views
  pub about : (id : ℕ) (v : View) → get_elem? s.views id ≡ some v → 0 < members v → v.about ≡ size
  -- The bits in their slot, and bits that a seat found, are those that the history leaves.
  pub cell : IsCell found_in members (Fits size history) s
