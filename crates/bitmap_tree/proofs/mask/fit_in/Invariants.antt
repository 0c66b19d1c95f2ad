use Rattle.std.proofs.Common.{ℕ, ◌*◌, ◌^◌, ◌<◌}
use Rattle.bitmap_tree.specs.InnerTrail.{HasBit}
use Rattle.bitmap_tree.proofs.mask.fit_in.Given as goal

abbrev pub invariant-loop-i : goal.invariant-loop-i
invariant-loop-i l = (i : ℕ) → i < l.i → HasBit l.word (i * 2 ^ l.k) (2 ^ l.k)
