-- A `World` of the program, as contracts see it: a state whose trails read as empty. The program
-- keeps phases and no trails.
use Rattle.std.specs.Prelude.{◌≡◌, [], length, map}
use Rattle.cube_core.specs.Schedule.{Record, State}

-- The same state without its trails.
abbrev pub without_trails : State → State
without_trails w = record w { records = map (λ (r : Record). record r { trail = [] }) w.records }

-- The dimension and the number of stations do not change.
pub record HasShapeOf (old new : State) : Type 0 where
  pub dim : new.dim ≡ old.dim
  pub stations : length new.records ≡ length old.records
