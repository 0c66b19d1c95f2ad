-- What a contract sees of a handle.
use Rattle.std.specs.Prelude.{Option, Some, None}
use Rattle.sched_core.specs.declared.scheduler.Core.{Core}
use Rattle.cubejobs_plan.specs.declared.handle.Handle.{Handle}
use Rattle.cubejobs_plan.specs.CoreIn.{core_in}

-- The scheduler of a handle, if it is open.
abbrev pub core_of : Handle → Option Core
core_of handle = core_in handle.at.content

-- The handle is open, and its scheduler has this property.
abbrev pub OnCore : (Core → Type 0) → Option Core → Type 0
OnCore P (Some core) = P core
OnCore P None = ⊥

-- The handle is open before and after, and its schedulers have this relation.
abbrev pub OnCores : (Core → Core → Type 0) → Option Core → Option Core → Type 0
OnCores R (Some old) (Some new) = R old new
OnCores R _ _ = ⊥
