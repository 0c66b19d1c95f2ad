use Rattle.std.proofs.Common.{◌*◌}
use Rattle.bitmap_tree.specs.InnerLayout.{IsBlank, Grows}
use Rattle.bitmap_tree.specs.InnerSeats.{StaysSeat}
use Rattle.bitmap_tree.proofs.handles.BitmapTree.take_marked.Given as goal

abbrev pub invariant-loop : goal.invariant-loop
invariant-loop l = record {
  stays : StaysSeat l.self l.fn.seat l.seat;
  blank : IsBlank l.seat.me;
  grows : Grows (9 * l.counter) l.fn.seat.me l.seat.me;
}
