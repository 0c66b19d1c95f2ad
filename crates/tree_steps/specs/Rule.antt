-- What holds between any two steps. Some schedule of the pure machine leads to these words and
-- phases. The trail of each station is its events in that schedule. Its peeks found words of the
-- schedule.
use Rattle.std.specs.Prelude.{◌≡◌, ℕ, zero, suc, ◌+◌, ◌<◌, ◌≤◌, ◌==◌, if◌then◌else◌, true, false, List, [], ◌∷◌, ◌++◌, All}
use Rattle.atomic_table.specs.Table.{State as Table}
use Rattle.cube_core.specs.declared.act.Act.{Act}
use Rattle.cube_core.specs.declared.phase.Phase.TheVariants.{Idle, Retired}
use Rattle.cube_core.specs.Phase.{IsAtRest}
use Rattle.cube_core.specs.Schedule.{Record, State, record_of, word_of, initial, apply_all}
use Rattle.tree_steps.specs.declared.view.Entry.{Entry}
use Rattle.tree_steps.specs.declared.view.Peek.{Peek}
use Rattle.tree_steps.specs.declared.view.View.{View}
use Rattle.tree_steps.specs.declared.view.Size.{Size}

-- The record of the pure machine that an entry contains.
abbrev pub record_in : Entry → Record
record_in e = record { phase = e.phase; trail = e.trail }

-- The first entry: the station that steps next.
abbrev pub first : List Entry → Entry
first [] = record { station = 0; phase = Retired; trail = []; peeks = [] }
first (e ∷ rest) = e

-- The other entries.
abbrev pub others : List Entry → List Entry
others [] = []
others (e ∷ rest) = rest

-- How many entries of a list are of station `s`.
abbrev pub times : ℕ → List Entry → ℕ
times s [] = 0
times s (e ∷ rest) = (if e.station == s then 1 else 0) + times s rest

-- How many entries of all views are of station `s`.
abbrev pub times_in : ℕ → List View → ℕ
times_in s [] = 0
times_in s (v ∷ rest) = times s v.stations + times_in s rest

-- The state of the pure machine after a schedule.
abbrev pub world_after : Size → List Act → State
world_after k acts = apply_all acts (initial k.dim k.stations)

-- Word `v` was `x` after an earlier part of the schedule. Word 0 is the roll.
pub record WasWord (k : Size) (acts : List Act) (v x : ℕ) : Type 0 where
  pub later : List Act
  pub earlier : List Act
  pub split : acts ≡ later ++ earlier
  pub found : word_of (world_after k earlier) v ≡ x

-- The peek found the word of its node after an earlier part of the schedule.
abbrev pub WasSeen : Size → List Act → Peek → Type 0
WasSeen k acts g = WasWord k acts g.node g.word

-- The entry is the record of its station after the schedule, and its peeks found words of the
-- schedule.
abbrev pub IsEntryOf : Size → List Act → Entry → Type 0
IsEntryOf k acts e =
    (e.station < k.stations) × (record_of (world_after k acts) e.station ≡ record_in e)
    × All (WasSeen k acts) e.peeks

-- All stations below the count are here, each once, and all except the first are at rest.
pub record AreAll (count : ℕ) (entries : List Entry) : Type 0 where
  pub present : (s : ℕ) → s < count → times s entries ≡ 1
  pub resting : All (λ e. IsAtRest e.phase) (others entries)

-- The view is right about the schedule: its entries, its loads of the roll, and its mark `alone`.
pub record IsView (k : Size) (acts : List Act) (v : View) : Type 0 where
  pub stations : All (IsEntryOf k acts) v.stations
  pub loads : All (WasWord k acts 0) v.loads
  pub alone : v.alone ≡ true → AreAll k.stations v.stations

-- The rule of the table: some schedule leads to these words, and all views are right about it.
pub record IsRuled (k : Size) (t : Table (Unit {0}) View) : Type 0 where
  pub acts : List Act
  pub words : t.words ≡ (world_after k acts).words
  pub views : All (IsView k acts) t.views
  -- No station steps with two seats.
  pub once : (s : ℕ) → times_in s t.views ≤ 1

-- The record of a station that has done nothing.
abbrev pub idle_entry : ℕ → Entry
idle_entry s = record { station = s; phase = Idle; trail = []; peeks = [] }

-- The records of stations that have done nothing, from number `s` on.
abbrev pub idle_entries : ℕ → ℕ → List Entry
idle_entries s zero = []
idle_entries s (suc count) = idle_entry s ∷ idle_entries (suc s) count

-- The view of the first seat: all stations are with it, idle and without events.
abbrev pub first_view : Size → View
first_view k = record { stations = idle_entries 0 k.stations; loads = []; alone = false }
