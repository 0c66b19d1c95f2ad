-- The receipt that a hidden receipt is.
use Rattle.std.specs.Prelude.{List, [], ◌∷◌}
use Rattle.sched_threads.specs.declared.view.View.{View}
use Rattle.sched_threads.specs.declared.receipt.HiddenReceipt.{HiddenReceipt}
use Rattle.sched_threads.specs.Seats.{SeatOf}
use Rattle.sched_threads.specs.View.{blank_view}

-- The view of a hidden receipt, or one without a turn where it has none.
abbrev pub view_in : List View → View
view_in [] = blank_view
view_in (view ∷ views) = view

-- The receipt that is hidden.
abbrev pub seat_in : HiddenReceipt → SeatOf
seat_in hidden = record { table_id = hidden.table_id; me = (view_in hidden.views, []) }
