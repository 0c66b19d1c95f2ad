use Rattle.std.proofs.Common.{◌≡◌, ℕ, ◌+◌}
use Rattle.std.specs.List.{All}
use Rattle.bitmap_tree.specs.Ends.{times_held}
use Rattle.bitmap_tree.specs.InnerRule.{times}
use Rattle.bitmap_tree.specs.Handles.{dim_of, id_of, IsHeldOf}
use Rattle.bitmap_tree.proofs.handles.BitmapTree.gather_blocks.Given as goal

abbrev pub invariant-loop-block : goal.invariant-loop-block
invariant-loop-block l = record {
  table : l.seat.table_id ≡ id_of l.self;
  all : (p : ℕ) → times p l.seat.me.0.runs + times_held (dim_of l.self) p l.held.items ≡ times_held (dim_of l.self) p l.fn.held.items;
  of_machine : All (IsHeldOf l.self) l.held.items;
}

abbrev pub decreases-loop-block : goal.decreases-loop-block
decreases-loop-block l = goal.left-loop-block l
