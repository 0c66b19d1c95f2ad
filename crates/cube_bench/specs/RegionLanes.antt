-- What contracts say of the lanes of a bitmap tree.
use Rattle.std.specs.Prelude.{◌≡◌, ◌^◌, ◌<◌, ◌≤◌}
use Rattle.std.specs.List.{All}
use Rattle.cube_shape.specs.declared.limits.TheConstants.{MAX_BITMAP_DIM}
use Rattle.bitmap_tree.specs.declared.handles.BitmapTree.{BitmapTree}
use Rattle.bitmap_tree.specs.Handles.{dim_of, permits_of, IsHeldOf}
use Rattle.cube_bench.specs.declared.regions.lanes.Plan.{Plan}
use Rattle.cube_bench.specs.declared.regions.lanes.Lane.{Lane}

-- Takes by the plan may be asked of the tree.
pub record FitsIn (tree : BitmapTree) (plan : Plan) : Type 0 where
  pub anyone : permits_of tree ≡ 0
  pub limit : dim_of tree ≤ MAX_BITMAP_DIM
  pub start : plan.start < 2 ^ dim_of tree
  pub order : plan.low ≤ plan.high
  pub fits : plan.high ≤ dim_of tree

-- The lane works with the tree.
pub record IsLaneOf (tree : BitmapTree) (lane : Lane) : Type 0 where
  pub plan : FitsIn tree lane.plan
  pub held : All (IsHeldOf tree) lane.held.items
