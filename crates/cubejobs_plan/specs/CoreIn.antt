-- The scheduler in the content of a handle, and the tags of open handles.
use Rattle.std.specs.Prelude.{ℕ, ◌==◌, Bool, ◌||◌, Option, Some, None}
use Rattle.sched_core.specs.declared.scheduler.Core.{Core}
use Rattle.cubejobs_plan.specs.declared.codes.TheConstants.{LENT, OPEN}
use Rattle.cubejobs_plan.specs.declared.planner.Planner.{Planner}

-- The scheduler, if there is a planner.
abbrev pub core_in : Option Planner → Option Core
core_in (Some planner) = Some planner.scheduler
core_in None = None

-- Whether this is the tag of an open handle.
abbrev pub is_open_tag : ℕ → Bool
is_open_tag tag = (tag == OPEN) || (tag == LENT)
