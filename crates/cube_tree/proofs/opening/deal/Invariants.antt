use Rattle.std.proofs.Common.{◌≡◌, ◌-◌, ◌≤◌, map, vec_len, vec_capacity}
use Rattle.std.specs.Prelude.{All}
use Rattle.tree_steps.specs.Rule.{idle_entries}
use Rattle.tree_steps.specs.Tree.{id_of}
use Rattle.cube_tree.specs.Handles.{station_entry, HasTable}
use Rattle.cube_tree.specs.Hint.{HasNoHint}
use Rattle.cube_tree.proofs.OpeningLemmas.{idle_seat}
use Rattle.cube_tree.proofs.opening.deal.Given as goal

abbrev pub invariant-loop-number : goal.invariant-loop-number
invariant-loop-number l = record {
  same : l.seat.table_id ≡ l.initial.seat.table_id;
  seat : l.seat.me ≡ idle_seat l.number (l.stations - l.number);
  len : vec_len l.list ≡ l.number;
  room : l.stations ≤ vec_capacity l.list;
  idle : map station_entry l.list.items ≡ idle_entries 0 l.number;
  of_tree : All (HasTable (id_of l.tree)) l.list.items;
  nothing : All HasNoHint l.list.items;
}
