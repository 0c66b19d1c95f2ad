-- What the seat of stations that retire one after another knows.
use Rattle.std.specs.Prelude.{◌≡◌, ℕ, List, map}
use Rattle.cube_core.specs.declared.phase.Phase.TheVariants.{Retired}
use Rattle.tree_steps.specs.declared.view.Entry.{Entry}
use Rattle.tree_steps.specs.Rule.{times}
use Rattle.tree_steps.specs.Steps.{Known}
use Rattle.cube_tree.specs.declared.handles.TreeStation.{TreeStation}
use Rattle.cube_tree.specs.Handles.{station_entry}

-- The station has retired.
abbrev pub IsGone : Entry → Type 0
IsGone e = e.phase ≡ Retired

-- Each station steps with the seat as often as it is in the list.
abbrev pub AreThere : List TreeStation → Known → Type 0
AreThere stations m = (s : ℕ) → times s m.0.stations ≡ times s (map station_entry stations)
