-- How commands over names are carried out: the step relation of one command, and a whole file.
use Rattle.std.specs.Prelude.{◌≡◌, ◌≢◌, ℕ, ◌*◌, ◌^◌, ◌<◌, List, [], ◌∷◌, Option, Some, None}
use Rattle.cube_shape.specs.declared.limits.TheConstants.{MAX_STATIONS}
use Rattle.cube_shape.specs.declared.region.Region.{Region}
use Rattle.cube_shape.specs.Machine.{HasNoFit, Holdings, IsFirstFit}
use Rattle.cube_shape.specs.Region.{block}
use Rattle.jobs_csv.specs.declared.place.Command.{Command}
use Rattle.jobs_csv.specs.declared.place.Command.TheVariants as command
use Rattle.jobs_csv.specs.declared.place_rows.PlaceRow.{PlaceRow}
use Rattle.jobs_csv.specs.declared.place_rows.PlaceRow.TheVariants as row
use Rattle.cli_commands.specs.Trace.{IsTrace}

-- A name and the block that is held under it.
pub record Holding : Type 0 where
  pub name : List ℕ
  pub region : Region

-- What each station holds, and under which name. A station that holds nothing has no name.
abbrev pub NamedHoldings : Type 0
NamedHoldings = ℕ → Option Holding

-- No station holds anything.
abbrev pub empty_table : NamedHoldings
empty_table = λ station. None

-- The block alone.
abbrev pub region_of : Option Holding → Option Region
region_of None = None
region_of (Some holding) = Some holding.region

-- What each station holds, without the names.
abbrev pub regions : NamedHoldings → Holdings
regions table = λ station. region_of (table station)

-- The name holds a block.
abbrev pub HoldsSome : NamedHoldings → List ℕ → Type 0
HoldsSome table name =
    (station : ℕ) × (region : Region) ×
    (table station ≡ Some (record { name = name; region = region }))

-- Each station holds a block under a name.
abbrev pub IsFull : NamedHoldings → Type 0
IsFull table = (station : ℕ) → station < MAX_STATIONS → table station ≢ None

-- The station is the first that holds nothing.
pub record IsFirstIdle (table : NamedHoldings) (station : ℕ) : Type 0 where
  pub below : station < MAX_STATIONS
  pub idle : table station ≡ None
  pub first : (earlier : ℕ) → earlier < station → table earlier ≢ None

-- The first station that holds nothing takes the first fit, at this base, under the name. The name
-- held nothing before.
pub record IsGiven (n : ℕ) (name : List ℕ) (dim base : ℕ) (old new : NamedHoldings) : Type 0 where
  pub fresh : HoldsSome old name → ⊥
  pub station : ℕ
  pub idle : IsFirstIdle old station
  pub m : ℕ
  pub fit : IsFirstFit n dim (regions old) m
  pub start : base ≡ m * 2 ^ dim
  pub held : new station ≡ Some (record { name = name; region = block dim m })
  pub others : (t : ℕ) → t ≢ station → new t ≡ old t

-- The station of the name releases its block.
pub record IsFreed (name : List ℕ) (dim base : ℕ) (old new : NamedHoldings) : Type 0 where
  pub station : ℕ
  pub held : old station ≡ Some (record { name = name; region = record { base = base; dim = dim } })
  pub idle : new station ≡ None
  pub others : (t : ℕ) → t ≢ station → new t ≡ old t

-- Nothing changes.
abbrev pub Stays : NamedHoldings → NamedHoldings → Type 0
Stays old new = (station : ℕ) → new station ≡ old station

-- The step relation of one command, by its row, on a machine of dimension `n`. For a take: the
-- first fit is given, or the name holds a block already, or no station is left, or no block is
-- free. For a release: the block is freed, or the name holds nothing.
abbrev pub PlaceStep : ℕ → PlaceRow → NamedHoldings → NamedHoldings → Type 0
PlaceStep n (row.Given name dim base) old new = IsGiven n name dim base old new
PlaceStep n (row.Held name dim) old new = HoldsSome old name × Stays old new
PlaceStep n (row.NoStation name dim) old new = (HoldsSome old name → ⊥) × IsFull old × Stays old new
PlaceStep n (row.NoSubcube name dim) old new =
    (HoldsSome old name → ⊥) × (IsFull old → ⊥) × HasNoFit n dim (regions old) × Stays old new
PlaceStep n (row.Freed name dim base) old new = IsFreed name dim base old new
PlaceStep n (row.NothingHeld name) old new = (HoldsSome old name → ⊥) × Stays old new

-- The command that a row answers.
abbrev pub command_in : PlaceRow → Command
command_in (row.Given name dim base) = command.Take name dim
command_in (row.Held name dim) = command.Take name dim
command_in (row.NoStation name dim) = command.Take name dim
command_in (row.NoSubcube name dim) = command.Take name dim
command_in (row.Freed name dim base) = command.Free name
command_in (row.NothingHeld name) = command.Free name

-- A command has one row, which is a step of that command.
abbrev pub IsPlaced : ℕ → Command → NamedHoldings → NamedHoldings → List PlaceRow → Type 0
IsPlaced n command old new rows =
    (row : PlaceRow) × (rows ≡ row ∷ []) × (command_in row ≡ command) × PlaceStep n row old new

-- The rows of commands that are carried out one after the other, on a machine on which nothing is
-- held at first.
abbrev pub ArePlaced : ℕ → List Command → List PlaceRow → Type 0
ArePlaced n commands rows =
    (last : NamedHoldings) × IsTrace (IsPlaced n) commands empty_table last rows
