use Rattle.std.proofs.Common.{◌≡◌, ◌*◌, ◌-◌, ◌<◌, ◌^◌, ◌+◌, ◌/◌, ◌%◌, min, ℕ}
use Rattle.bitmap_tree.specs.declared.no_block.NoBlock.TheVariants.{Disturbed, Full}
use Rattle.bitmap_tree.specs.Rule.{first_word}
use Rattle.bitmap_tree.specs.InnerLayout.{IsBlank, Grows}
use Rattle.bitmap_tree.specs.InnerSeats.{StaysSeat}
use Rattle.bitmap_tree.specs.InnerTrail.{IsFull, IsFullWord, StepsOn, left_by}
use Rattle.bitmap_tree.specs.Trail.{WasDisturbed}
use Rattle.bitmap_tree.specs.Handles.{dim_of}
use Rattle.bitmap_tree.proofs.handles.BitmapTree.take_words.Given as goal

abbrev pub invariant-loop-number : goal.invariant-loop-number
invariant-loop-number l = record {
  stays : StaysSeat l.self l.fn.seat l.seat;
  blank : IsBlank l.seat.me;
  seen : l.why ≡ Full
      → (w : ℕ)
      → w < l.number
      → IsFull (2 ^ min (dim_of l.self - 6 * (l.k / 6)) 6) (l.k % 6)
      (first_word (dim_of l.self / 6 - l.k / 6) + w) l.seat.me.0.trail;
  full : l.why ≡ Full
      → (w : ℕ)
      → w < l.number
      → IsFullWord (2 ^ min (dim_of l.self - 6 * (l.k / 6)) 6) (l.k % 6)
      (left_by l.seat.me.0.trail (first_word (dim_of l.self / 6 - l.k / 6) + w));
  disturbed : l.why ≡ Disturbed → WasDisturbed l.seat.me.0.trail;
  steps : StepsOn (first_word (dim_of l.self / 6 - l.k / 6))
      (first_word (dim_of l.self / 6 - l.k / 6) + 2 ^ (dim_of l.self - 6 * (l.k / 6) - 6))
      l.fn.seat.me l.seat.me;
  grows : Grows (9 * l.number) l.fn.seat.me l.seat.me;
}
