-- The nodes so far are sorted.
use Rattle.std.proofs.Common.{◌≡◌, ℕ, ◌<◌, ◌≤◌, length}
use Rattle.fit_tree.specs.Rooms.{IsNode, room_of}
use Rattle.fit_tree.specs.InnerRepair.{IsSorted}
use Rattle.fit_tree.proofs.repairs.sort_all.Given as goal

abbrev pub invariant-loop-node : goal.invariant-loop-node
invariant-loop-node l = record {
  len : length l.rooms ≡ length l.fn.rooms;
  over_root : room_of l.rooms 0 ≡ 1;
  sorted : (d v : ℕ) → IsNode l.n d v → v < l.node → IsSorted l.fn.rooms d v (room_of l.rooms v);
  others : (v : ℕ) → l.node ≤ v → room_of l.rooms v ≡ room_of l.fn.rooms v;
}
