use Rattle.std.proofs.Common.{◌≡◌, ◌+◌, ◌*◌, ◌<◌, ◌≤◌, ◌^◌, ◌/◌, ◌%◌, min, max, ℕ, ◌-◌}
use Rattle.bitmap_tree.specs.declared.no_block.NoBlock.TheVariants.{Disturbed, Full}
use Rattle.bitmap_tree.specs.Rule.{first_word}
use Rattle.bitmap_tree.specs.InnerLayout.{IsBlank, Grows}
use Rattle.bitmap_tree.specs.InnerSeats.{StaysSeat}
use Rattle.bitmap_tree.specs.InnerTrail.{IsFullWord, StepsOn, left_by}
use Rattle.bitmap_tree.specs.Trail.{WasDisturbed, WasEachTaken}
use Rattle.bitmap_tree.specs.Handles.{dim_of}
use Rattle.bitmap_tree.proofs.handles.BitmapTree.take_scanned.Given as goal

abbrev pub invariant-loop-level : goal.invariant-loop-level
invariant-loop-level l = record {
  stays : StaysSeat l.self l.fn.seat l.seat;
  blank : IsBlank l.seat.me;
  from : l.k / 6 ≤ l.level;
  seen : l.why ≡ Full
      → (s : ℕ)
      → l.k / 6 ≤ s
      → s < l.level
      → WasEachTaken (dim_of l.self) (max l.k (6 * s)) l.seat.me.0.trail;
  full : l.why ≡ Full
      → (s w : ℕ)
      → l.k / 6 ≤ s
      → s < l.level
      → w < 2 ^ (dim_of l.self - 6 * s - 6)
      → IsFullWord (2 ^ min (dim_of l.self - 6 * s) 6) (max l.k (6 * s) % 6)
      (left_by l.seat.me.0.trail (first_word (dim_of l.self / 6 - s) + w));
  disturbed : l.why ≡ Disturbed → WasDisturbed l.seat.me.0.trail;
  kept : StepsOn 0 (first_word (dim_of l.self / 6 + 1 - l.k / 6)) l.fn.seat.me l.seat.me;
  grows : Grows (9 * ((l.level - l.k / 6) * 2 ^ (dim_of l.self - 6))) l.fn.seat.me l.seat.me;
}
