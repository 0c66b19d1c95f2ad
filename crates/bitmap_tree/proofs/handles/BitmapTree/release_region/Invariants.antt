use Rattle.std.proofs.Common.{◌≡◌, ℕ, ◌≤◌, ◌+◌, ◌-◌, ◌*◌, ◌/◌}
use Rattle.bitmap_tree.specs.Rule.{first_word}
use Rattle.bitmap_tree.specs.Layout.{HasRun, run_of}
use Rattle.bitmap_tree.specs.InnerLayout.{IsIn, Grows}
use Rattle.bitmap_tree.specs.Trail.{WasReleased}
use Rattle.bitmap_tree.specs.InnerSeats.{StaysSeat}
use Rattle.bitmap_tree.specs.InnerTrail.{left_by}
use Rattle.bitmap_tree.specs.Handles.{dim_of}
use Rattle.bitmap_tree.proofs.handles.BitmapTree.release_region.Given as goal

abbrev pub invariant-loop-level : goal.invariant-loop-level
invariant-loop-level l = record {
  stays : StaysSeat l.self l.fn.seat l.seat;
  held : HasRun (run_of (dim_of l.self) l.given) l.seat.me
      × IsIn (dim_of l.self) l.given.dim l.given;
  level : l.given.dim / 6 ≡ l.level;
  from : l.fn.region.dim / 6 + 1 ≤ l.level;
  cleared : WasReleased (run_of (dim_of l.self) l.fn.region) l.fn.seat.me.0.trail l.seat.me.0.trail;
  below : (w : ℕ)
      → first_word (dim_of l.self / 6 + 1 - l.fn.region.dim / 6) ≤ w
      → left_by l.seat.me.0.trail w ≡ left_by l.fn.seat.me.0.trail w;
  grows : Grows (2 * (l.level - l.fn.region.dim / 6)) l.fn.seat.me l.seat.me;
}
