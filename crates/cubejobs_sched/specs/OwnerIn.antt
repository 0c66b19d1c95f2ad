-- The owner of a scheduler in the content of a handle.
use Rattle.std.specs.Prelude.{Option, Some, None}
use Rattle.cubejobs_sched.specs.declared.ownership.Ownership.{Ownership}
use Rattle.cubejobs_sched.specs.declared.state.State.{State}
use Rattle.cubejobs_sched.specs.declared.state.State.TheVariants as state

-- The owner, if there is one.
abbrev pub owner_in : Option State → Option Ownership
owner_in (Some (state.Threads owner)) = Some owner
owner_in other = None
