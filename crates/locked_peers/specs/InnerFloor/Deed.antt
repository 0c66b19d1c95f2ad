-- The history of a locked allocator, newest first: the steps of the machine that its calls made,
-- and the stations' records after them.
use Rattle.std.specs.Prelude.{ℕ, ◌<◌, Bool, Some, None, List, [], ◌∷◌, ◌++◌, ◌==◌}
use Rattle.ghost_history.specs.History.{part, Legal}
use Rattle.cube_shape.specs.declared.region.Region.{Region}
use Rattle.cube_shape.specs.Machine.{Holdings, Gives, TakesBack}
use Rattle.locked_peers.specs.declared.floor_view.Size.{Size}
use Rattle.locked_peers.specs.declared.floor_view.StationRecord.{StationRecord}
use Rattle.locked_peers.specs.InnerFloor.View.{fresh_station}

-- A step in the history of a locked allocator. Stations are named by their numbers.
pub data Deed : Type 0 where
  -- The station got the block.
  gets : ℕ → Region → Deed
  -- The station released the block.
  frees : ℕ → Region → Deed

-- Whether the station with this number made the step.
abbrev pub is_by : Deed → ℕ → Bool
is_by (gets station region) k = station == k
is_by (frees station region) k = station == k

-- The record of the station that made a step, after it.
abbrev pub station_after : Deed → StationRecord → StationRecord
station_after (gets station region) r =
    record r { grants = r.grants ++ region ∷ []; holds = Some region }
station_after (frees station region) r = record r { holds = None }

-- The record of a station after a history.
abbrev pub station_part : List Deed → ℕ → StationRecord
station_part = part is_by station_after fresh_station

-- What each station holds after a history.
abbrev pub held_after : List Deed → Holdings
held_after history station = (station_part history station).holds

-- Which step may follow a history: a step of the machine by one of its stations.
abbrev pub May : Size → List Deed → Deed → Type 0
May size history (gets station region) =
    (station < size.stations) × Gives size.dim station region.dim (held_after history)
    (held_after (gets station region ∷ history)) region
May size history (frees station region) =
    (station < size.stations) × TakesBack station (held_after history)
    (held_after (frees station region ∷ history)) region

-- Each step in the history was allowed by the history before it.
abbrev pub IsLegal : Size → List Deed → Type 0
IsLegal size history = Legal (May size) history
