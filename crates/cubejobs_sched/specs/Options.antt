-- What a scheduler may be opened for.
use Rattle.std.specs.Prelude.{◌<◌, ◌≤◌}
use Rattle.cube_shape.specs.declared.limits.TheConstants.{MAX_BITMAP_DIM}
use Rattle.sched_jobs.specs.declared.nodes.TheConstants.{MAX_SLOTS}
use Rattle.sched_board.specs.declared.workers.TheConstants.{MAX_WORKERS}
use Rattle.cubejobs_sched.specs.declared.options.SchedOptions.{SchedOptions}

-- Each option is in its range.
pub record IsInRange (options : SchedOptions) : Type 0 where
  pub dim : options.dim ≤ MAX_BITMAP_DIM
  pub some : 0 < options.jobs
  pub jobs : options.jobs ≤ MAX_SLOTS
  pub someone : 0 < options.workers
  pub workers : options.workers ≤ MAX_WORKERS
