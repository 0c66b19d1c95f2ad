-- What the steps of a seat on a locked allocator's table do: the step, the seat before, the number
-- found and the seat after.
use Rattle.std.specs.Prelude.{◌≡◌, ℕ, ◌<◌, Option, Some, None, List, [], ◌∷◌, ◌++◌}
use Rattle.std.specs.List.{AllByRecursion as Each}
use Rattle.atomic_table.specs.Table.{Me}
use Rattle.locked_peers.specs.Cell.{IsIdle as IsIdleSeat, Took as TookValue}
use Rattle.cube_shape.specs.declared.limits.TheConstants.{MAX_STATIONS}
use Rattle.cube_shape.specs.declared.region.Region.{Region}
use Rattle.cube_shape.specs.Region.{AreApart}
use Rattle.alloc_bits.specs.Allocation.{Allocation, held_in}
use Rattle.locked_peers.specs.declared.floor_view.StationRecord.{StationRecord}
use Rattle.locked_peers.specs.declared.floor_view.View.{View}
use Rattle.locked_peers.specs.InnerFloor.View.{view, station_view, holding, members, found_in, fresh_station}

-- What a seat of a locked allocator knows.
abbrev pub Sat : Type 0
Sat = Me Allocation View

-- The seat of stations that are in no call.
abbrev pub IsIdle : Sat → Type 0
IsIdle = IsIdleSeat found_in members

-- What a seat learns of the bits that it takes.
pub record Knows (v : View) (x : Allocation) : Type 0 where
  pub dim : x.dim ≡ v.about.dim
  pub held : Each (λ r. held_in x r.number ≡ r.holds) v.stations

-- The seat has taken the slot, with the bits that it found.
abbrev pub Took : Sat → Sat → Type 0
Took = TookValue holding Knows

-- ---- what the seat has, read from its view and its slot

-- The first of these records.
abbrev pub station_in : List StationRecord → StationRecord
station_in [] = fresh_station 0
station_in (r ∷ rs) = r

-- The block of a station, by the first bits that a seat has taken.
abbrev pub held_by : List (ℕ × Allocation) → ℕ → Option Region
held_by [] station = None
held_by (slot ∷ slots) station = held_in slot.1 station

-- The block as a list of one, or no block as the empty list.
abbrev pub listed : Option Region → List Region
listed (Some region) = region ∷ []
listed None = []

-- ---- the seat gives the slot back, and its record gains what its call did

-- A station's record after it got this block.
abbrev pub granted : StationRecord → Option Region → StationRecord
granted r held = record r { grants = r.grants ++ listed held; holds = held }

-- The seat of a station after it got a block.
abbrev pub after_grant : Sat → Sat
after_grant m = (
  station_view m.0.about (granted (station_in m.0.stations)
      (held_by m.1 (station_in m.0.stations).number)),
  [],
)

-- The seat of a station after it released its block.
abbrev pub after_free : Sat → Sat
after_free m = (station_view m.0.about (record (station_in m.0.stations) { holds = None }), [])

-- The seat of a station after it gave the bits back unchanged.
abbrev pub after_nothing : Sat → Sat
after_nothing m = (station_view m.0.about (station_in m.0.stations), [])

-- The seat of a station that found the bits `x` and is to give back the bits `y`.
abbrev pub IsOut : Sat → StationRecord → Allocation → Allocation → Type 0
IsOut m r x y = m ≡ (holding (station_view m.0.about r) x, (0, y) ∷ [])

-- ---- two stations at once

-- The seat that has the records of two stations, neither in a call.
abbrev pub IsPair : Sat → StationRecord → StationRecord → Type 0
IsPair m a b = m ≡ (view m.0.about (a ∷ b ∷ []) None, [])

-- The blocks that two stations hold are apart.
abbrev pub AreHeldApart : StationRecord → StationRecord → Type 0
AreHeldApart a b = (x y : Region) → a.holds ≡ Some x → b.holds ≡ Some y → AreApart x y

-- The blocks that the first two of these stations hold are apart.
abbrev pub AreFirstTwoApart : List StationRecord → Type 0
AreFirstTwoApart [] = Unit {0}
AreFirstTwoApart (a ∷ []) = Unit {0}
AreFirstTwoApart (a ∷ b ∷ rs) = AreHeldApart a b

-- ---- the seats of stations

-- The seat of a station in no call, with this number and the block that it holds, if any.
pub record IsStationSeat (m : Sat) (number : ℕ) (holds : Option Region) : Type 0 where
  pub alone : m ≡ (station_view m.0.about (station_in m.0.stations), [])
  pub numbered : (station_in m.0.stations).number ≡ number
  pub held : (station_in m.0.stations).holds ≡ holds
  pub within : number < MAX_STATIONS
