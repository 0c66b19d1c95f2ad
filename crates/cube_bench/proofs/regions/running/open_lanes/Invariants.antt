use Rattle.std.specs.List.{All}
use Rattle.bitmap_tree.specs.Handles.{IsHeldOf}
use Rattle.cube_bench.specs.RegionLanes.{IsLaneOf}
use Rattle.cube_bench.proofs.regions.running.open_lanes.Given as goal

abbrev pub invariant-loop-number : goal.invariant-loop-number
invariant-loop-number l = record {
  blocks : All (IsHeldOf l.tree) l.blocks.items;
  lanes : All (IsLaneOf l.tree) l.lanes.items;
}
