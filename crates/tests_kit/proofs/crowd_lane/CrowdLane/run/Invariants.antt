use Rattle.std.proofs.Common.{◌≤◌, vec_capacity}
use Rattle.std.specs.List.{All}
use Rattle.bitmap_tree.specs.Handles.{IsHeldOf}
use Rattle.tests_kit.specs.declared.crowd_lane.TheConstants.{KEPT}
use Rattle.tests_kit.proofs.crowd_lane.CrowdLane.run.Given as goal

abbrev pub invariant-loop : goal.invariant-loop
invariant-loop l = record {
  held : All (IsHeldOf l.tree) l.kept.items;
  room : KEPT ≤ vec_capacity l.kept;
}
