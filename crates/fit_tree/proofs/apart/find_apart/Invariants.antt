-- What was found in the node of the way up.
use Rattle.cube_shape.specs.Node.{OnPath}
use Rattle.fit_tree.specs.Rooms.{IsNode, IsSound}
use Rattle.fit_tree.specs.InnerApart.{IsFound, IsPlaced}
use Rattle.fit_tree.proofs.apart.find_apart.Given as goal

abbrev pub invariant-loop-level : goal.invariant-loop-level
invariant-loop-level l = record {
  node : IsNode l.n l.level l.node;
  way : OnPath l.node l.avoid;
  placed : IsPlaced l.n l.k l.found;
  found : IsSound l.n l.rooms → IsFound l.n l.k l.rooms l.avoid l.node l.found;
}
