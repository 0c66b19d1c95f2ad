use Rattle.std.proofs.Common.{◌≡◌, ℕ, ◌+◌, ◌≤◌, [], length, vec_capacity}
use Rattle.std.specs.List.{All}
use Rattle.bitmap_tree.specs.InnerRule.{times}
use Rattle.bitmap_tree.specs.Handles.{id_of, IsPermitOf}
use Rattle.bitmap_tree.proofs.handles.BitmapTree.deal_all.Given as goal

abbrev pub invariant-loop : goal.invariant-loop
invariant-loop l = record {
  table : l.seat.table_id ≡ id_of l.self;
  nothing : (p : ℕ) → times p l.seat.me.0.runs ≡ 0;
  slots : l.seat.me.1 ≡ [];
  all : l.seat.me.0.permits + l.counter ≡ l.count;
  count : length l.permits.items ≡ l.counter;
  room : l.count ≤ vec_capacity l.permits;
  of_machine : All (IsPermitOf l.self) l.permits.items;
}
