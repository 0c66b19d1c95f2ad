use Rattle.std.proofs.Common.{◌≡◌}
use Rattle.cube_bench.specs.RegionLanes.{IsLaneOf}
use Rattle.cube_bench.proofs.regions.turns.make_room.Given as goal

abbrev pub invariant-loop : goal.invariant-loop
invariant-loop l = IsLaneOf l.tree l.lane × (l.lane.plan ≡ l.initial.lane.plan)
