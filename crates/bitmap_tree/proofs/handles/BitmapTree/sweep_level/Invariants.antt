use Rattle.std.proofs.Common.{◌≡◌, ℕ, ◌≤◌, ◌<◌, ◌+◌, ◌-◌, ◌*◌, ◌/◌}
use Rattle.bitmap_tree.specs.Rule.{first_word}
use Rattle.bitmap_tree.specs.InnerLayout.{IsBlank, Grows}
use Rattle.bitmap_tree.specs.InnerSeats.{StaysSeat}
use Rattle.bitmap_tree.specs.InnerTrail.{HasBit, left_by}
use Rattle.bitmap_tree.specs.Handles.{dim_of}
use Rattle.bitmap_tree.proofs.handles.BitmapTree.sweep_level.Given as goal

abbrev pub invariant-loop-number : goal.invariant-loop-number
invariant-loop-number l = record {
  stays : StaysSeat l.self l.fn.seat l.seat;
  blank : IsBlank l.seat.me;
  from : l.first ≤ l.number;
  used : (w : ℕ)
      → l.first ≤ w
      → w < l.number
      → HasBit (left_by l.seat.me.0.trail (first_word (dim_of l.self / 6 - l.level) + w)) 0 64;
  below : (w : ℕ)
      → first_word (dim_of l.self / 6 + 1 - l.level) ≤ w
      → left_by l.seat.me.0.trail w ≡ left_by l.fn.seat.me.0.trail w;
  grows : Grows (10 * (l.number - l.first)) l.fn.seat.me l.seat.me;
}
