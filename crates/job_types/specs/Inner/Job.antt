-- The invariant of every job.
use Rattle.std.specs.Prelude.{◌≡◌, ℕ, ◌^◌, ◌<◌, ◌≤◌, false, List, length}
use Rattle.cube_shape.specs.declared.limits.TheConstants.{MAX_DIM, MAX_LANES}
use Rattle.job_types.specs.declared.kind.Kind.{Kind}
use Rattle.job_types.specs.Job.{has_bad_root}

-- A job has items, and at most as many as its machine has processors. Its root, if it has one, is
-- the place of an item.
pub record IsJob (machine lane : ℕ) (kind : Kind) (items : List ℕ) : Type 0 where
  pub limit : machine ≤ MAX_DIM
  pub lane_below : lane < MAX_LANES
  pub some : 0 < length items
  pub fits : length items ≤ 2 ^ machine
  pub rooted : has_bad_root kind (length items) ≡ false
