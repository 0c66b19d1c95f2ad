use Rattle.std.proofs.Common.{◌≡◌, ◌≤◌, ◌+◌, ◌-◌, ◌*◌, ◌/◌, ◌^◌}
use Rattle.bitmap_tree.specs.Layout.{HasRun, run_of}
use Rattle.bitmap_tree.specs.InnerLayout.{IsIn, Grows}
use Rattle.bitmap_tree.specs.InnerSeats.{StaysSeat}
use Rattle.bitmap_tree.specs.Handles.{dim_of}
use Rattle.bitmap_tree.proofs.handles.BitmapTree.descend.Given as goal

abbrev pub invariant-loop-down : goal.invariant-loop-down
invariant-loop-down l = record {
  stays : StaysSeat l.self l.fn.seat l.seat;
  held : HasRun (run_of (dim_of l.self) l.upper) l.seat.me
      × IsIn (dim_of l.self) l.upper.dim l.upper;
  dim : l.upper.dim ≡ 6 * (l.top - l.down + 1);
  inside : l.block.base / 2 ^ l.upper.dim ≡ l.upper.base / 2 ^ l.upper.dim;
  from : 1 ≤ l.down;
  grows : Grows (l.down - 1) l.fn.seat.me l.seat.me;
}
