-- The seat that a hidden seat is.
use Rattle.std.specs.Prelude.{List, [], ◌∷◌}
use Rattle.bitmap_tree.specs.declared.view.View.{View}
use Rattle.bitmap_tree.specs.declared.steps.HiddenSeat.{HiddenSeat}
use Rattle.bitmap_tree.specs.Seats.{SeatOf}

-- The view of a hidden seat, or one without a bit where it has none.
abbrev pub view_in : List View → View
view_in [] = record { runs = []; trail = []; permits = 0 }
view_in (view ∷ views) = view

-- The seat that is hidden.
abbrev pub seat_in : HiddenSeat → SeatOf
seat_in hidden = record { table_id = hidden.table_id; me = (view_in hidden.views, []) }
