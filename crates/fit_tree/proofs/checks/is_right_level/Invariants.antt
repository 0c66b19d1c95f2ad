-- The nodes of the level so far have right rooms.
use Rattle.std.proofs.Common.{ℕ, ◌<◌}
use Rattle.fit_tree.specs.Rooms.{IsNode, IsRight}
use Rattle.fit_tree.proofs.checks.is_right_level.Given as goal

abbrev pub invariant-loop-node : goal.invariant-loop-node
invariant-loop-node l = (v : ℕ) → IsNode l.n l.dim v → v < l.node → IsRight l.rooms l.dim v
