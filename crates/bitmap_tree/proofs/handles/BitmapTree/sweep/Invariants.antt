use Rattle.std.proofs.Common.{ℕ, ◌≤◌, ◌<◌, ◌+◌, ◌-◌, ◌*◌, ◌/◌, ◌^◌}
use Rattle.bitmap_tree.specs.Rule.{first_word}
use Rattle.bitmap_tree.specs.InnerLayout.{IsBlank, Grows}
use Rattle.bitmap_tree.specs.InnerSeats.{StaysSeat}
use Rattle.bitmap_tree.specs.InnerTrail.{HasBit, left_by}
use Rattle.bitmap_tree.specs.Handles.{dim_of}
use Rattle.bitmap_tree.proofs.handles.BitmapTree.sweep.Given as goal

abbrev pub invariant-loop-level : goal.invariant-loop-level
invariant-loop-level l = record {
  stays : StaysSeat l.self l.fn.seat l.seat;
  blank : IsBlank l.seat.me;
  used : (s w : ℕ)
      → s < l.level
      → l.block.base / 2 ^ (6 * s + 6) ≤ w
      → w < l.block.base / 2 ^ (6 * s + 6) + 2 ^ (l.block.dim - 6 * s - 6)
      → HasBit (left_by l.seat.me.0.trail (first_word (dim_of l.self / 6 - s) + w)) 0 64;
  grows : Grows (10 * (l.level * 2 ^ (dim_of l.self - 6))) l.fn.seat.me l.seat.me;
}
