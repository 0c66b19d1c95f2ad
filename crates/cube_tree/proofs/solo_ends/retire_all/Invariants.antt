use Rattle.std.proofs.Common.{◌≡◌}
use Rattle.std.specs.Prelude.{All}
use Rattle.tree_steps.specs.Alone.{AreAllAtRest}
use Rattle.tree_steps.specs.Tree.{station_count}
use Rattle.cube_tree.specs.InnerSolo.{IsGoneBelow}
use Rattle.cube_tree.proofs.solo_ends.retire_all.Given as goal

abbrev pub invariant-loop-station : goal.invariant-loop-station
invariant-loop-station l = record {
  table : l.seat.table_id ≡ l.fn.seat.table_id;
  slots : l.seat.me.1 ≡ l.fn.seat.me.1;
  all : AreAllAtRest (station_count l.tree) l.seat.me;
  gone : All (IsGoneBelow l.station) l.seat.me.0.stations;
}
