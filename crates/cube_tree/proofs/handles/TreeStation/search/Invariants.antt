use Rattle.std.proofs.Common.{◌-◌, ◌*◌}
use Rattle.cube_tree.specs.Handles.{cube_dim, station_entry, IsStationOf}
use Rattle.cube_tree.specs.Hint.{hint_of}
use Rattle.cube_tree.proofs.SearchLemmas.{IsSearch}
use Rattle.cube_tree.proofs.handles.TreeStation.search.Given as goal

abbrev pub decreases-loop-node : goal.decreases-loop-node
decreases-loop-node l = 2 * l.first - l.node.0

abbrev pub invariant-loop-node : goal.invariant-loop-node
invariant-loop-node l = record {
  of_cube : IsStationOf l.cube l.station;
  search : IsSearch (cube_dim l.cube) (cube_dim l.cube - l.k) l.node.0 l.refusal (hint_of l.fn.self)
      (hint_of l.station) (station_entry l.fn.self) (station_entry l.station);
}
