-- The levels so far are done.
use Rattle.std.proofs.Common.{◌≡◌, ℕ, List}
use Rattle.bitmap_tree.specs.Handles.{dim_of, id_of}
use Rattle.bitmap_tree.specs.Reads.{AreSeen}
use Rattle.bitmap_occupancy.specs.InnerPass.{IsPath, IsReadTo}
use Rattle.bitmap_occupancy.proofs.pass.read_words.Given as goal

abbrev pub invariant-loop-level : goal.invariant-loop-level
invariant-loop-level l = record {
  table : l.seat.table_id ≡ id_of l.tree;
  slots : l.seat.me.1 ≡ l.initial.seat.me.1;
  read : IsReadTo (dim_of l.tree) l.processor l.level l.seat.me.0.trail;
  seen : (words : List ℕ) → AreSeen l.seat.me.0.trail words → AreSeen l.initial.seat.me.0.trail words;
  path : (words : List ℕ) → AreSeen l.seat.me.0.trail words
      → IsPath (dim_of l.tree) l.processor 0 words l.initial.path
      → IsPath (dim_of l.tree) l.processor l.level words l.path;
}
