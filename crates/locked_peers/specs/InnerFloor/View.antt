-- What work on the allocation bits changes, and what seats know.
use Rattle.std.specs.Prelude.{◌≡◌, ℕ, Option, Some, None, List, [], ◌∷◌, ◌++◌, length}
use Rattle.ghost_history.specs.Lists.{first_of, rest_of, numbered_from}
use Rattle.cube_shape.specs.declared.region.Region.{Region}
use Rattle.cube_shape.specs.Machine.{Gives, HasNoFit, TakesBack}
use Rattle.alloc_bits.specs.Allocation.{Allocation, held_in}
use Rattle.locked_peers.specs.declared.floor_view.Size.{Size}
use Rattle.locked_peers.specs.declared.floor_view.StationRecord.{StationRecord}
use Rattle.locked_peers.specs.declared.floor_view.View.{View}

-- The station gets a block of dimension `k`, or no such block is free and nothing changes.
abbrev pub Allots : Allocation → ℕ → ℕ → Option Region → Allocation → Type 0
Allots x station k (Some r) y = Gives x.dim station k (held_in x) (held_in y) r × (y.dim ≡ x.dim)
Allots x station k None y = (y ≡ x) × HasNoFit x.dim k (held_in x)

-- The station holds a block.
abbrev pub HoldsSome : Allocation → ℕ → Type 0
HoldsSome x station = (r : Region) × (held_in x station ≡ Some r)

-- The station's block is released.
abbrev pub Withdraws : Allocation → ℕ → Allocation → Type 0
Withdraws x station y = (r : Region) × TakesBack station (held_in x) (held_in y) r × (y.dim ≡ x.dim)

-- ---- what a seat knows

-- What a seat knows: the size, the records of stations, and the bits that it found.
abbrev pub view : Size → List StationRecord → Option Allocation → View
view about stations found = record { about = about; stations = stations; found = found }

-- What the seat of a station in no call knows.
abbrev pub station_view : Size → StationRecord → View
station_view about r = view about (r ∷ []) None

-- The same view, of a seat that has taken the slot and found these bits.
abbrev pub holding : View → Allocation → View
holding v x = view v.about v.stations (Some x)

-- The number of records in a view.
abbrev pub members : View → ℕ
members v = length v.stations

-- The bits that the seat found, if it has taken the slot.
abbrev pub found_in : View → Option Allocation
found_in v = v.found

-- ---- views are dealt out, and come together again

-- The record of a station that has done nothing.
abbrev pub fresh_station : ℕ → StationRecord
fresh_station number = record { number = number; grants = []; holds = None }

-- The fresh records of a number of stations, counted from the first number.
abbrev pub stations_from : ℕ → ℕ → List StationRecord
stations_from = numbered_from fresh_station

-- What the first seat knows: the records of all stations.
abbrev pub first_view : Size → View
first_view size = view size (stations_from 0 size.stations) None

-- What is left after the first station's record was given out.
abbrev pub without_station : View → View
without_station v = view v.about (rest_of v.stations) None

-- The first station's record alone.
abbrev pub station_alone : View → View
station_alone v = view v.about (first_of v.stations) None

-- What two seats know together.
abbrev pub joined : View → View → View
joined v w = view v.about (v.stations ++ w.stations) v.found

-- What a seat knows after its records moved to another one: nothing.
abbrev pub spent_view : View
spent_view = view (record { dim = 0; stations = 0 }) [] None
