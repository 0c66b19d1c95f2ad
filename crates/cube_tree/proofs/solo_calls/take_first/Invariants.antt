use Rattle.std.proofs.Common.{◌≡◌, ℕ, ◌-◌, ◌*◌, ◌^◌, ◌<◌, ◌≤◌}
use Rattle.cube_core.specs.declared.phase.Phase.TheVariants.{Idle}
use Rattle.tree_steps.specs.Alone.{IsAlone, IsBlocked, unpicked}
use Rattle.tree_steps.specs.Tree.{id_of, dim_of, read_words, size_of}
use Rattle.cube_tree.specs.Slots.{IsTold}
use Rattle.cube_tree.specs.InnerSolo.{IsMoved}
use Rattle.cube_tree.proofs.solo_calls.take_first.Given as goal

abbrev pub decreases-loop-node : goal.decreases-loop-node
decreases-loop-node l = 2 * l.first - l.node.0

abbrev pub invariant-loop-node : goal.invariant-loop-node
invariant-loop-node l = record {
  same : id_of l.tree ≡ id_of l.fn.tree;
  size : size_of l.tree ≡ size_of l.fn.tree;
  table : l.seat.table_id ≡ l.fn.seat.table_id;
  moved : IsMoved l.station Idle l.fn.seat.me l.seat.me;
  alone : IsAlone l.seat.me;
  told : IsTold (dim_of l.tree) (read_words l.tree) l.seat.me.0.stations;
  low : 2 ^ (dim_of l.fn.tree - l.k) ≤ l.node.0;
  blocked : (v : ℕ)
      → 2 ^ (dim_of l.fn.tree - l.k) ≤ v
      → v < l.node.0
      → IsBlocked v (unpicked l.station l.fn.seat.me.0.stations);
}
