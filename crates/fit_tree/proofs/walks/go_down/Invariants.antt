-- The node has room for the dimension, and no node before it in the first one has.
use Rattle.std.proofs.Common.{◌+◌, ◌-◌}
use Rattle.cube_shape.specs.Node.{OnPath}
use Rattle.fit_tree.specs.Rooms.{IsNode}
use Rattle.fit_tree.specs.InnerNodes.{HasRoom}
use Rattle.fit_tree.proofs.WalkLemmas.{Descent}
use Rattle.fit_tree.proofs.walks.go_down.Given as goal

abbrev pub invariant-loop : goal.invariant-loop
invariant-loop l = record {
  node : IsNode l.n (l.top + l.k - l.counter) l.node;
  below : OnPath l.start l.node;
  descent : HasRoom l.n l.k l.rooms l.start → Descent l.n l.k l.rooms l.top l.start l.counter l.node;
}
