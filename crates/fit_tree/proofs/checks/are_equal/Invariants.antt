-- The places so far are equal.
use Rattle.std.proofs.Common.{◌≡◌, ℕ, ◌<◌, slice_index}
use Rattle.fit_tree.proofs.checks.are_equal.Given as goal

abbrev pub invariant-loop-dim : goal.invariant-loop-dim
invariant-loop-dim l = (d : ℕ) → d < l.dim → slice_index l.left d ≡ slice_index l.right d
