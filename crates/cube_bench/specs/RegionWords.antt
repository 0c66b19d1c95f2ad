-- What contracts say of the arguments of a measurement of the bitmap tree.
use Rattle.std.specs.Prelude.{◌<◌, ◌≤◌}
use Rattle.cube_shape.specs.declared.limits.TheConstants.{MAX_BITMAP_DIM}
use Rattle.cube_bench.specs.declared.regions.words.Invocation.{Invocation}
use Rattle.cube_bench.specs.declared.regions.words.TheConstants.{MAX_THREADS}

-- The machine has at least one word, and the blocks fit into it.
pub record IsPossible (asked : Invocation) : Type 0 where
  pub word : 6 ≤ asked.dim
  pub limit : asked.dim ≤ MAX_BITMAP_DIM
  pub order : asked.low ≤ asked.high
  pub fits : asked.high ≤ asked.dim
  pub load : asked.load ≤ 1000
  pub some : 0 < asked.threads
  pub few : asked.threads ≤ MAX_THREADS
