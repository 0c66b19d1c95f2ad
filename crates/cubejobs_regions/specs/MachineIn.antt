-- The machine in the content of a handle.
use Rattle.std.specs.Prelude.{Option, Some, None}
use Rattle.cubejobs_regions.specs.declared.machine.Machine.{Machine}
use Rattle.cubejobs_regions.specs.declared.state.State.{State}
use Rattle.cubejobs_regions.specs.declared.state.State.TheVariants as state

-- The machine, if the content is one.
abbrev pub machine_in : Option State → Option Machine
machine_in (Some (state.Machine machine)) = Some machine
machine_in other = None
