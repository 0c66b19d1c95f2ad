-- No station steps with a seat twice.
use Rattle.std.specs.Prelude.{◌≡◌, ℕ, ◌≤◌, List}
use Rattle.tree_steps.specs.declared.view.Entry.{Entry}
use Rattle.tree_steps.specs.Rule.{times}
use Rattle.tree_steps.specs.Steps.{Telling}

-- Each station has at most one entry in the list.
abbrev pub AreOnce : List Entry → Type 0
AreOnce entries = (s : ℕ) → times s entries ≤ 1

-- What is learned from a load that changes nothing: the seat has no station twice.
abbrev pub tells_once : Telling
tells_once step before found after = (after ≡ before) × AreOnce before.0.stations
