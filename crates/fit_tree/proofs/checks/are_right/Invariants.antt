-- The levels so far have right rooms.
use Rattle.std.proofs.Common.{ℕ, ◌<◌}
use Rattle.fit_tree.specs.Rooms.{IsNode, IsRight}
use Rattle.fit_tree.proofs.checks.are_right.Given as goal

abbrev pub invariant-loop-dim : goal.invariant-loop-dim
invariant-loop-dim l = (d v : ℕ) → d < l.dim → IsNode l.n d v → IsRight l.rooms d v
