-- What a planner may be opened for.
use Rattle.std.specs.Prelude.{◌≡◌, ◌<◌, ◌≤◌}
use Rattle.cube_shape.specs.declared.limits.TheConstants.{MAX_BITMAP_DIM}
use Rattle.sched_jobs.specs.declared.nodes.TheConstants.{MAX_SLOTS}
use Rattle.sched_law.specs.State.{initial}
use Rattle.sched_core.specs.declared.scheduler.Core.{Core}
use Rattle.sched_core.specs.Shows.{ShowsCore, slots_of}
use Rattle.cubejobs_plan.specs.declared.options.Options.{Options}

-- Each option is in its range.
pub record IsInRange (options : Options) : Type 0 where
  pub dim : options.dim ≤ MAX_BITMAP_DIM
  pub some : 0 < options.jobs
  pub jobs : options.jobs ≤ MAX_SLOTS
  pub flags : options.flags ≡ 0

-- The scheduler is of these options, without jobs, at time 0.
pub record IsNew (options : Options) (core : Core) : Type 0 where
  pub slots : slots_of core ≡ options.jobs
  pub shows : ShowsCore (initial options.dim options.patience) core
