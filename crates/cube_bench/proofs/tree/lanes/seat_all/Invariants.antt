use Rattle.std.proofs.Common.{◌+◌, ◌≤◌, vec_len, vec_capacity}
use Rattle.std.specs.Prelude.{All}
use Rattle.cube_tree.specs.Handles.{IsStationOf}
use Rattle.cube_bench.specs.TreeLanes.{HasStation}
use Rattle.cube_bench.proofs.tree.lanes.seat_all.Given as goal

abbrev pub decreases-loop-station : goal.decreases-loop-station
decreases-loop-station l = vec_len l.list

abbrev pub invariant-loop-station : goal.invariant-loop-station
invariant-loop-station l = record {
  left : All (IsStationOf l.cube) l.list.items;
  seated : All (HasStation l.cube) l.lanes.items;
  room : vec_len l.list + vec_len l.lanes ≤ vec_capacity l.lanes;
}
