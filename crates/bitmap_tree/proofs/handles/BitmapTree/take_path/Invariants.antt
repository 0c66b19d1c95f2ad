use Rattle.std.proofs.Common.{◌≡◌, ℕ, ◌≤◌, ◌<◌, ◌+◌, ◌-◌, ◌*◌, ◌/◌}
use Rattle.bitmap_tree.specs.declared.no_block.NoBlock.TheVariants.{Disturbed, Full}
use Rattle.bitmap_tree.specs.Rule.{first_word}
use Rattle.bitmap_tree.specs.InnerLayout.{IsBlank, Grows}
use Rattle.bitmap_tree.specs.Layout.{run_of, unit_around}
use Rattle.bitmap_tree.specs.InnerSeats.{StaysSeat}
use Rattle.bitmap_tree.specs.InnerTrail.{IsSetIn, StepsOn, left_by}
use Rattle.bitmap_tree.specs.Trail.{WasDisturbed, WasTaken}
use Rattle.bitmap_tree.specs.Handles.{dim_of}
use Rattle.bitmap_tree.proofs.handles.BitmapTree.take_path.Given as goal

abbrev pub invariant-loop-level : goal.invariant-loop-level
invariant-loop-level l = record {
  stays : StaysSeat l.self l.fn.seat l.seat;
  blank : IsBlank l.seat.me;
  from : l.block.dim / 6 ≤ l.level;
  seen : l.why ≡ Full
      → (s : ℕ)
      → l.block.dim / 6 ≤ s
      → s < l.level
      → WasTaken (dim_of l.self) l.seat.me.0.trail (unit_around s l.block);
  set : l.why ≡ Full
      → (s : ℕ)
      → l.block.dim / 6 ≤ s
      → s < l.level
      → IsSetIn (left_by l.seat.me.0.trail) (run_of (dim_of l.self) (unit_around s l.block));
  disturbed : l.why ≡ Disturbed → WasDisturbed l.seat.me.0.trail;
  kept : StepsOn 0 (first_word (dim_of l.self / 6 + 1 - l.block.dim / 6)) l.fn.seat.me l.seat.me;
  grows : Grows (9 * (l.level - l.block.dim / 6)) l.fn.seat.me l.seat.me;
}
