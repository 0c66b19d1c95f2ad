-- What calls, one after another, keep of a seat.
use Rattle.std.proofs.Common.{◌∙◌}
use Rattle.bitmap_tree.specs.declared.handles.BitmapTree.{BitmapTree}
use Rattle.bitmap_tree.specs.InnerSeats.{StaysSeat}
use Rattle.bitmap_tree.specs.Seats.{SeatOf}

pub stays_then : {machine : BitmapTree} {a b c : SeatOf}
    → StaysSeat machine a b
    → StaysSeat machine b c
    → StaysSeat machine a c
stays_then first second = record {
  table = second.table;
  permits = second.permits ∙ first.permits;
  right = λ was. second.right (first.right was);
}
