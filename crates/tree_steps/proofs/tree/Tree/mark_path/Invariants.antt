use Rattle.std.proofs.Common.{◌≡◌, ◌<◌}
use Rattle.cube_shape.specs.Node.{OnPath}
use Rattle.cube_core.specs.Event.{phase_after_raise}
use Rattle.tree_steps.specs.Steps.{IsAt, Walks}
use Rattle.tree_steps.proofs.tree.Tree.mark_path.Given as goal

abbrev pub decreases-loop-at : goal.decreases-loop-at
decreases-loop-at l = l.at.0

abbrev pub invariant-loop-at : goal.invariant-loop-at
invariant-loop-at l = record {
  same : l.seat.table_id ≡ l.initial.seat.table_id;
  walks : Walks l.initial.seat.me l.seat.me;
  phase : IsAt l.seat.me (phase_after_raise l.node.0 l.at.0);
  positive : 0 < l.at.0;
  on_path : OnPath l.at.0 l.node.0;
}
