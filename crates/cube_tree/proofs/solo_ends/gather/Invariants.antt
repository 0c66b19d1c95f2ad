use Rattle.std.proofs.Common.{◌≡◌, ℕ, ◌+◌, ◌<◌, [], map, vec_len}
use Rattle.std.specs.Prelude.{All}
use Rattle.cube_core.specs.declared.phase.Phase.TheVariants.{Idle}
use Rattle.tree_steps.specs.Rule.{times}
use Rattle.tree_steps.specs.Tree.{id_of, station_count}
use Rattle.cube_tree.specs.Handles.{station_entry, HasTable}
use Rattle.cube_tree.proofs.solo_ends.gather.Given as goal

abbrev pub decreases-loop-station : goal.decreases-loop-station
decreases-loop-station l = vec_len l.list

abbrev pub invariant-loop-station : goal.invariant-loop-station
invariant-loop-station l = record {
  table : l.seat.table_id ≡ l.fn.seat.table_id;
  slots : l.seat.me.1 ≡ [];
  of_tree : All (HasTable (id_of l.tree)) l.list.items;
  idle : All (λ e. e.phase ≡ Idle) l.seat.me.0.stations;
  all : (s : ℕ)
      → s < station_count l.tree
      → 0 < times s l.seat.me.0.stations + times s (map station_entry l.list.items);
}
