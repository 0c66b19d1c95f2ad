use Rattle.std.specs.List.{All}
use Rattle.cube_bench.specs.RegionLanes.{IsLaneOf}
use Rattle.cube_bench.proofs.regions.serve.Given as goal

abbrev pub invariant-loop : goal.invariant-loop
invariant-loop g l = All (IsLaneOf l.tree) l.lanes
