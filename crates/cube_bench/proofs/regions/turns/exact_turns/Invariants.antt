use Rattle.cube_bench.specs.RegionLanes.{IsLaneOf}
use Rattle.cube_bench.proofs.regions.turns.exact_turns.Given as goal

abbrev pub invariant-loop : goal.invariant-loop
invariant-loop l = IsLaneOf l.tree l.lane
