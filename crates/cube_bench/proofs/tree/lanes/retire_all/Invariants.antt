use Rattle.std.proofs.Common.{vec_len}
use Rattle.std.specs.Prelude.{All}
use Rattle.cube_bench.specs.TreeLanes.{HasStation}
use Rattle.cube_bench.proofs.tree.lanes.retire_all.Given as goal

abbrev pub decreases-loop-station : goal.decreases-loop-station
decreases-loop-station l = vec_len l.lanes

abbrev pub invariant-loop-station : goal.invariant-loop-station
invariant-loop-station l = All (HasStation l.cube) l.lanes.items
