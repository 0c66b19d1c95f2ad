-- The nodes past this one are filled.
use Rattle.std.proofs.Common.{◌≡◌, ℕ, ◌<◌, ◌≤◌, length}
use Rattle.fit_tree.specs.Rooms.{IsNode, room_of}
use Rattle.fit_tree.specs.InnerRepair.{IsFilled}
use Rattle.fit_tree.proofs.repairs.fill_all.Given as goal

abbrev pub invariant-loop-node : goal.invariant-loop-node
invariant-loop-node l = record {
  len : length l.rooms ≡ length l.fn.rooms;
  inside : l.node < length l.fn.rooms;
  filled : (d v : ℕ) → IsNode l.n d v → l.node < v → IsFilled l.fn.rooms l.rooms d v;
  others : (v : ℕ) → v ≤ l.node → room_of l.rooms v ≡ room_of l.fn.rooms v;
}

abbrev pub decreases-loop-node : goal.decreases-loop-node
decreases-loop-node l = l.node
