use Rattle.std.proofs.Common.{◌≡◌, length}
use Rattle.bitmap_tree.proofs.opening.marks_of.Given as goal

abbrev pub invariant-loop-level : goal.invariant-loop-level
invariant-loop-level l = length l.marks.items ≡ l.level
