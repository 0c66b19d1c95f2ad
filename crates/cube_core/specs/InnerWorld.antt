-- How the fields of a `World` represent a state, and the invariant of the type. No public contract
-- cites these.
use Rattle.std.specs.Prelude.{◌≡◌, ℕ, ◌≤◌, List, [], length, map}
use Rattle.cube_shape.specs.declared.limits.TheConstants.{MAX_DIM, MAX_STATIONS}
use Rattle.cube_core.specs.declared.phase.Phase.{Phase}
use Rattle.cube_core.specs.declared.act.Act.{Act}
use Rattle.cube_core.specs.Schedule.{Record, State, apply_all, initial}
use Rattle.cube_core.specs.World.{without_trails}

-- The record of a station of which only the phase is known.
abbrev pub record_without_trail : Phase → Record
record_without_trail phase = record { phase = phase; trail = [] }

-- The state with these phases and without trails.
abbrev pub state_of : ℕ → List ℕ → List Phase → State
state_of n words phases =
    record { dim = n; words = words; records = map record_without_trail phases }

-- Some schedule leads to this state from an opened machine.
abbrev pub IsReached : State → Type 0
IsReached w = (n : ℕ) × (stations : ℕ) × (acts : List Act)
    × (w ≡ without_trails (apply_all acts (initial n stations)))

-- The invariant of a `World`: its size is within the limits, and some schedule leads to it.
pub record IsWorld (w : State) : Type 0 where
  pub dim_in_limits : w.dim ≤ MAX_DIM
  pub stations_in_limits : length w.records ≤ MAX_STATIONS
  pub reached : IsReached w
