use Rattle.std.proofs.Common.{◌≡◌, ℕ, ◌+◌, [], length}
use Rattle.std.specs.List.{All}
use Rattle.bitmap_tree.specs.InnerRule.{times}
use Rattle.bitmap_tree.specs.Handles.{id_of, IsPermitOf}
use Rattle.bitmap_tree.proofs.handles.BitmapTree.gather_all.Given as goal

abbrev pub invariant-loop-permit : goal.invariant-loop-permit
invariant-loop-permit l = record {
  table : l.seat.table_id ≡ id_of l.self;
  nothing : (p : ℕ) → times p l.seat.me.0.runs ≡ 0;
  slots : l.seat.me.1 ≡ [];
  all : l.seat.me.0.permits + length l.permits.items ≡ length l.fn.permits.items;
  of_machine : All (IsPermitOf l.self) l.permits.items;
}

abbrev pub decreases-loop-permit : goal.decreases-loop-permit
decreases-loop-permit l = goal.left-loop-permit l
