-- Only the entry of the place's parent may be wrong.
use Rattle.std.proofs.Common.{◌≡◌, ℕ, ◌/◌, length}
use Rattle.cube_shape.specs.Node.{OnPath}
use Rattle.fit_tree.specs.Rooms.{IsNode}
use Rattle.sched_law.specs.State.{set}
use Rattle.sched_blocks.specs.Ends.{entry_of, AreEnds, HasNoEndBeside}
use Rattle.sched_blocks.proofs.ClimbLemmas.{AreRuledBut}
use Rattle.sched_blocks.proofs.EndLemmas.{latest_by}
use Rattle.sched_blocks.proofs.ends.set_end.Given as goal

abbrev pub invariant-loop : goal.invariant-loop
invariant-loop l = record {
  len : length l.ends ≡ length l.fn.ends;
  at_place : IsNode l.n l.counter l.place;
  on : OnPath l.place l.node;
  kept : l.own ≡ entry_of l.ends l.place;
  ruled : (own : ℕ → ℕ) → AreEnds l.n own l.fn.ends → HasNoEndBeside l.n own l.node
      → AreRuledBut l.n (l.place / 2) (latest_by (set own l.node l.end)) l.ends;
}
