use Rattle.std.proofs.Common.{◌≡◌}
use Rattle.cube_bench.specs.declared.tree.lanes.TheConstants.{DIM}
use Rattle.cube_bench.proofs.tree.alone.bit_turns.Given as goal

abbrev pub invariant-loop-index : goal.invariant-loop-index
invariant-loop-index l = l.bits.dim ≡ DIM
