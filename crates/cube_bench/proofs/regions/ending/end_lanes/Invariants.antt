use Rattle.std.specs.List.{All}
use Rattle.cube_bench.specs.RegionLanes.{IsLaneOf}
use Rattle.cube_bench.proofs.regions.ending.end_lanes.Given as goal

abbrev pub invariant-loop-lane : goal.invariant-loop-lane
invariant-loop-lane l = All (IsLaneOf l.tree) l.lanes.items

abbrev pub decreases-loop-lane : goal.decreases-loop-lane
decreases-loop-lane l = goal.left-loop-lane l
