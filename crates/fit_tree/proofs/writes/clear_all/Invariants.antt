-- All nodes of the levels so far are wholly free.
use Rattle.std.proofs.Common.{◌≡◌, ℕ, ◌+◌, ◌<◌, length}
use Rattle.fit_tree.specs.Rooms.{IsNode, room_of}
use Rattle.fit_tree.proofs.writes.clear_all.Given as goal

abbrev pub invariant-loop-depth : goal.invariant-loop-depth
invariant-loop-depth l = record {
  len : length l.rooms ≡ length l.fn.rooms;
  no_node : room_of l.rooms 0 ≡ 0;
  whole : (d v : ℕ) → IsNode l.n d v → l.n < d + l.depth → room_of l.rooms v ≡ d + 2;
}
