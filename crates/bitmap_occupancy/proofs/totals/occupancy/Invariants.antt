-- The processors so far are counted, by the words that were read.
use Rattle.std.proofs.Common.{◌≡◌, ℕ, List, [], length}
use Rattle.bitmap_tree.specs.Handles.{dim_of, id_of}
use Rattle.bitmap_tree.specs.Reads.{AreSeen}
use Rattle.bitmap_tree.specs.Rule.{word_count}
use Rattle.bitmap_occupancy.specs.InnerCount.{IsCountedTo, IsRunning}
use Rattle.bitmap_occupancy.specs.InnerPass.{IsPath, IsReadTo}
use Rattle.bitmap_occupancy.proofs.totals.occupancy.Given as goal

abbrev pub invariant-loop-processor : goal.invariant-loop-processor
invariant-loop-processor l = record {
  table : l.seat.table_id ≡ id_of l.tree;
  slots : l.seat.me.1 ≡ [];
  read : IsReadTo (dim_of l.tree) l.processor 0 l.seat.me.0.trail;
  running : IsRunning (dim_of l.tree) l.processor l.counter;
  path : (words : List ℕ) → AreSeen l.seat.me.0.trail words
      → IsPath (dim_of l.tree) l.processor 0 words l.path;
  counted : (words : List ℕ) → length words ≡ word_count (dim_of l.tree)
      → AreSeen l.seat.me.0.trail words
      → IsCountedTo (dim_of l.tree) words l.processor l.counter;
}
