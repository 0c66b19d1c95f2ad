use Rattle.std.proofs.Common.{◌≡◌, ℕ, ◌+◌, [], map, vec_len}
use Rattle.std.specs.Prelude.{All}
use Rattle.tree_steps.specs.Rule.{times}
use Rattle.tree_steps.specs.Tree.{id_of}
use Rattle.cube_tree.specs.InnerEnds.{IsGone}
use Rattle.cube_tree.specs.Handles.{station_entry, HasTable}
use Rattle.cube_tree.proofs.ends.retire_each.Given as goal

abbrev pub decreases-loop-station : goal.decreases-loop-station
decreases-loop-station l = vec_len l.stations

abbrev pub invariant-loop-station : goal.invariant-loop-station
invariant-loop-station l = record {
  table : l.seat.table_id ≡ id_of l.tree;
  slots : l.seat.me.1 ≡ [];
  loads : l.seat.me.0.loads ≡ l.initial.seat.me.0.loads;
  of_tree : All (HasTable (id_of l.tree)) l.stations.items;
  gone : All IsGone l.seat.me.0.stations;
  there : (s : ℕ)
      → times s l.seat.me.0.stations + times s (map station_entry l.stations.items)
      ≡ times s (map station_entry l.initial.stations.items);
}
