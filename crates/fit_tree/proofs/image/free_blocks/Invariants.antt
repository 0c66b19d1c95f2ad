-- The free blocks of the levels so far are counted.
use Rattle.std.proofs.Common.{◌≡◌, ℕ, List}
use Rattle.fit_tree.specs.Image.{IsImage}
use Rattle.fit_tree.proofs.FreeLemmas.{open_count}
use Rattle.fit_tree.proofs.image.free_blocks.Given as goal

abbrev pub invariant-loop-above : goal.invariant-loop-above
invariant-loop-above l = (rooms : List ℕ) → IsImage l.n l.head rooms → l.count ≡ open_count l.n l.head.maximal l.above
