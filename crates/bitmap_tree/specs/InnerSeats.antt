-- What a call asks of the seat by which it takes or shuts, and what it keeps.
use Rattle.std.specs.Prelude.{◌≡◌}
use Rattle.bitmap_tree.specs.declared.handles.BitmapTree.{BitmapTree}
use Rattle.bitmap_tree.specs.Handles.{id_of, dim_of, MayClaim}
use Rattle.bitmap_tree.specs.InnerLayout.{IsBlank}
use Rattle.bitmap_tree.specs.InnerTrail.{KeepsRight}
use Rattle.bitmap_tree.specs.Seats.{SeatOf}

-- the seat is at the machine's table, may claim, and has an empty run
pub record MayTake (machine : BitmapTree) (seat : SeatOf) : Type 0 where
  pub table : seat.table_id ≡ id_of machine
  pub may : MayClaim machine seat.me
  pub blank : IsBlank seat.me

-- the seat is at the machine's table, has as many permits as before, and made right steps alone
pub record StaysSeat (machine : BitmapTree) (old new : SeatOf) : Type 0 where
  pub table : new.table_id ≡ id_of machine
  pub permits : new.me.0.permits ≡ old.me.0.permits
  pub right : KeepsRight (dim_of machine) old.me new.me
