-- The most room in the node of the way up.
use Rattle.cube_shape.specs.Node.{OnPath}
use Rattle.fit_tree.specs.Rooms.{IsNode, IsSound}
use Rattle.fit_tree.specs.InnerApart.{IsMost}
use Rattle.fit_tree.proofs.apart.most_apart.Given as goal

abbrev pub invariant-loop-level : goal.invariant-loop-level
invariant-loop-level l = record {
  node : IsNode l.n l.level l.node;
  way : OnPath l.node l.avoid;
  most : IsSound l.n l.rooms → IsMost l.n l.rooms l.avoid l.node l.most;
}
