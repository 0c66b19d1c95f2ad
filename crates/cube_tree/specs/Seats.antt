-- What the seat of a handle knows.
use Rattle.std.specs.Prelude.{◌≡◌, ℕ, [], ◌∷◌}
use Rattle.cube_core.specs.declared.phase.Phase.{Phase}
use Rattle.tree_steps.specs.Steps.{Known, first_of}

-- Exactly one station steps with this seat. It has this number and this phase.
pub record IsSeatOf (number : ℕ) (phase : Phase) (m : Known) : Type 0 where
  pub one : m.0.stations ≡ first_of m ∷ []
  pub slots : m.1 ≡ []
  pub no_loads : m.0.loads ≡ []
  pub number_is : (first_of m).station ≡ number
  pub phase_is : (first_of m).phase ≡ phase

-- No station steps with this seat.
pub record IsBare (m : Known) : Type 0 where
  pub bare : m.0.stations ≡ []
  pub slots : m.1 ≡ []
