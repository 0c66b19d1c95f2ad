-- Only the room of the node's parent may be wrong.
use Rattle.std.proofs.Common.{◌≡◌, length}
use Rattle.fit_tree.specs.Rooms.{IsNode, room_of}
use Rattle.fit_tree.specs.Image.{AreCounted}
use Rattle.fit_tree.specs.InnerNodes.{AreBounded, CanMend}
use Rattle.fit_tree.proofs.WalkLemmas.{Climb}
use Rattle.fit_tree.proofs.walks.mend.Given as goal

abbrev pub invariant-loop-dim : goal.invariant-loop-dim
invariant-loop-dim l = record {
  len : length l.rooms ≡ length l.fn.rooms;
  node : IsNode l.n l.dim l.node;
  no_node : room_of l.rooms 0 ≡ room_of l.fn.rooms 0;
  own : l.own ≡ room_of l.rooms l.node;
  bounded : AreBounded l.n l.fn.rooms → AreBounded l.n l.rooms;
  counted : AreCounted l.n l.fn.counts l.fn.rooms → AreCounted l.n l.counts l.rooms;
  climb : CanMend l.n l.fn.rooms l.start → Climb l.n l.fn.rooms l.rooms l.dim l.node;
}
