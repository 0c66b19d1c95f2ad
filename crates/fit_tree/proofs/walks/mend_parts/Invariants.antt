-- Only the room of the node's parent may be wrong, and no count has changed.
use Rattle.std.proofs.Common.{◌≡◌, List, ℕ, length}
use Rattle.fit_tree.specs.Rooms.{IsNode, room_of}
use Rattle.fit_tree.specs.Image.{AreCounted}
use Rattle.fit_tree.specs.InnerNodes.{HasParts}
use Rattle.fit_tree.proofs.WalkLemmas.{Climb}
use Rattle.fit_tree.proofs.walks.mend_parts.Given as goal

abbrev pub invariant-loop : goal.invariant-loop
invariant-loop l = record {
  len : length l.rooms ≡ length l.fn.rooms;
  node : IsNode l.n l.counter l.node;
  no_node : room_of l.rooms 0 ≡ room_of l.fn.rooms 0;
  own : l.own ≡ room_of l.rooms l.node;
  climb : HasParts l.n l.k l.fn.rooms l.start → Climb l.n l.fn.rooms l.rooms l.counter l.node;
  parts : HasParts l.n l.k l.fn.rooms l.start → HasParts l.n l.counter l.rooms l.node;
  counted : HasParts l.n l.k l.fn.rooms l.start → (counts : List ℕ)
      → AreCounted l.n counts l.fn.rooms → AreCounted l.n counts l.rooms;
}
