use Rattle.cube_tree.specs.Handles.{IsStationOf}
use Rattle.cube_bench.proofs.tree.turns.turns.Given as goal

abbrev pub invariant-loop-index : goal.invariant-loop-index
invariant-loop-index l = IsStationOf l.cube l.station
