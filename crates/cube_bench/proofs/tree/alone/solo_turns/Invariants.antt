use Rattle.std.proofs.Common.{◌≡◌}
use Rattle.cube_tree.specs.Solo.{solo_dim}
use Rattle.cube_bench.specs.declared.tree.lanes.TheConstants.{DIM}
use Rattle.cube_bench.proofs.tree.alone.solo_turns.Given as goal

abbrev pub invariant-loop-index : goal.invariant-loop-index
invariant-loop-index l = solo_dim l.solo ≡ DIM
