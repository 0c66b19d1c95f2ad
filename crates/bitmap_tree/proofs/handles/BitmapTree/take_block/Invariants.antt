use Rattle.std.proofs.Common.{◌≡◌, ℕ, ◌+◌, ◌<◌}
use Rattle.bitmap_tree.specs.InnerLayout.{IsBlank, Grows}
use Rattle.bitmap_tree.specs.Trail.{IsAlone, WasDisturbed}
use Rattle.bitmap_tree.specs.InnerSeats.{StaysSeat}
use Rattle.bitmap_tree.specs.InnerTrail.{Shows, StepsOn, left_by}
use Rattle.bitmap_tree.proofs.handles.BitmapTree.take_block.Given as goal

abbrev pub invariant-loop : goal.invariant-loop
invariant-loop l = record {
  stays : StaysSeat l.self l.fn.seat l.seat;
  blank : IsBlank l.seat.me;
  shows : Shows l.word l.found l.seat.me.0.trail;
  newest : left_by l.seat.me.0.trail l.word ≡ l.found;
  alone : (words : ℕ → ℕ) → IsAlone words l.seat.me.0.trail → words l.word ≡ l.found;
  lost : 0 < l.counter → WasDisturbed l.seat.me.0.trail;
  steps : StepsOn l.word (l.word + 1) l.fn.seat.me l.seat.me;
  grows : Grows (1 + l.counter) l.fn.seat.me l.seat.me;
}
