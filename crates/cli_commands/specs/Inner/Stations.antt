-- What the stations of the program hold, as a table.
use Rattle.std.specs.Prelude.{◌≡◌, ℕ, List, length, Option, Some, None}
use Rattle.cube_shape.specs.declared.limits.TheConstants.{MAX_STATIONS}
use Rattle.cube_shape.specs.declared.region.Region.{Region}
use Rattle.cube_shape.specs.Machine.{Holdings}
use Rattle.alloc_bits.specs.Allocation.{held_in}
use Rattle.jobs_csv.specs.PlaceRows.{place_fields}
use Rattle.jobs_csv.specs.Text.{line_of}
use Rattle.jobs_csv.specs.declared.place.Command.{Command}
use Rattle.jobs_csv.specs.declared.place_rows.PlaceRow.{PlaceRow}
use Rattle.cli_commands.specs.declared.stations.Stations.{Stations}
use Rattle.cli_commands.specs.Place.{Holding, NamedHoldings, PlaceStep, command_in}
use Rattle.cli_commands.specs.Inner.Names.{name_at}

-- A name with its block, if there are both.
abbrev pub held_under : Option (List ℕ) → Option Region → Option Holding
held_under None region = None
held_under (Some name) None = None
held_under (Some name) (Some region) = Some (record { name = name; region = region })

-- The names and the blocks of the stations, station by station.
abbrev pub named_holdings_with : List (Option (List ℕ)) → Holdings → NamedHoldings
named_holdings_with names held station = held_under (name_at names station) (held station)

-- There is room for a name for each station. The stations with a name are those that hold a block.
pub record NamesAgree (names : List (Option (List ℕ))) (held : Holdings) : Type 0 where
  pub size : length names ≡ MAX_STATIONS
  pub named : (station : ℕ) (name : List ℕ)
      → name_at names station ≡ Some name
      → (region : Region) × (held station ≡ Some region)
  pub idle : (station : ℕ) → name_at names station ≡ None → held station ≡ None

-- The names and the blocks of these stations, station by station.
abbrev pub named_holdings : Stations → NamedHoldings
named_holdings stations = named_holdings_with stations.names (held_in stations.bits)

-- The names of these stations agree with their blocks.
abbrev pub AreStations : Stations → Type 0
AreStations stations = NamesAgree stations.names (held_in stations.bits)

-- The dimension of the machine.
abbrev pub dim_of : Stations → ℕ
dim_of stations = stations.bits.dim

-- The line of a row that answers the command, and by which the one table becomes the other.
abbrev pub IsAnswerLine : ℕ → Command → NamedHoldings → NamedHoldings → List ℕ → Type 0
IsAnswerLine n command old new line =
    (row : PlaceRow) × (line ≡ line_of (place_fields row)) × (command_in row ≡ command)
    × PlaceStep n row old new
