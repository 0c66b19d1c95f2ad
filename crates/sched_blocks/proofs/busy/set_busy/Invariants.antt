-- Only the entry of the place's parent may be wrong.
use Rattle.std.proofs.Common.{◌≡◌, ℕ, ◌/◌, ◌^◌, Bool, length, cond}
use Rattle.cube_shape.specs.Node.{OnPath}
use Rattle.fit_tree.specs.Rooms.{IsNode}
use Rattle.sched_law.specs.State.{set}
use Rattle.sched_blocks.specs.Ends.{entry_of}
use Rattle.sched_blocks.specs.Busy.{AreBusy, HasNoneBeside}
use Rattle.sched_blocks.proofs.ClimbLemmas.{AreRuledBut}
use Rattle.sched_blocks.proofs.BusyLemmas.{busy_by}
use Rattle.sched_blocks.proofs.busy.set_busy.Given as goal

abbrev pub invariant-loop : goal.invariant-loop
invariant-loop l = record {
  len : length l.busy ≡ length l.fn.busy;
  at_place : IsNode l.n l.counter l.place;
  on : OnPath l.place l.node;
  kept : l.own ≡ entry_of l.busy l.place;
  ruled : (used : ℕ → Bool) (is_used : Bool) → AreBusy l.n used l.fn.busy → HasNoneBeside l.n used l.node
      → l.count ≡ cond is_used (2 ^ l.dim) 0
      → AreRuledBut l.n (l.place / 2) (busy_by (set used l.node is_used)) l.busy;
}
