use Rattle.std.proofs.Common.{◌≡◌, ℕ, ◌+◌, ◌^◌, ◌<◌, slice_index}
use Rattle.cube_shape.specs.Node.{OnPath}
use Rattle.cube_core.specs.Phase.{IsAtRest}
use Rattle.tree_steps.specs.Steps.{first_of}
use Rattle.tree_steps.specs.Alone.{IsAlone, TellsWord}
use Rattle.tree_steps.specs.Tree.{id_of, dim_of, size_of, read_words}
use Rattle.tree_steps.proofs.tree.Tree.read_path.Given as goal

abbrev pub invariant-loop-at : goal.invariant-loop-at
invariant-loop-at l = record {
  table : id_of l.self ≡ id_of l.initial.self;
  size : size_of l.self ≡ size_of l.initial.self;
  seat : l.seat.table_id ≡ l.initial.seat.table_id;
  same : l.seat.me ≡ l.initial.seat.me;
  in_cube : l.at < 2 ^ (dim_of l.self + 1);
  on_path : 0 < l.at → OnPath l.at l.fn.node.0;
  path : IsAlone l.initial.seat.me
      → IsAtRest (first_of l.initial.seat.me).phase
      → (v : ℕ)
      → OnPath v l.fn.node.0
      → l.at < v
      → TellsWord v (slice_index (read_words l.self) v) l.initial.seat.me.0.stations;
  others : (v : ℕ)
      → (OnPath v l.fn.node.0 → ⊥)
      → slice_index (read_words l.self) v ≡ slice_index (read_words l.initial.self) v;
}

abbrev pub decreases-loop-at : goal.decreases-loop-at
decreases-loop-at l = l.at
