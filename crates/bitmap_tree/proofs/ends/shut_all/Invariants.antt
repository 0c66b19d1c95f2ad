use Rattle.std.proofs.Common.{◌≡◌, ℕ, ◌+◌, ◌-◌, ◌≤◌, length}
use Rattle.bitmap_tree.specs.Ends.{IsLeft}
use Rattle.bitmap_tree.specs.InnerEnds.{IsShutFrom}
use Rattle.bitmap_tree.specs.Rule.{word_count}
use Rattle.bitmap_tree.proofs.ends.shut_all.Given as goal

abbrev pub invariant-loop-past : goal.invariant-loop-past
invariant-loop-past l = record {
  len : length l.words.items ≡ l.count;
  whole : l.count ≡ word_count l.n;
  from : 1 ≤ l.past;
  shut : (held : ℕ → ℕ)
      → IsLeft l.n held l.fn.words.items
      → IsShutFrom l.n held (l.count + 1 - l.past) l.words.items;
}
