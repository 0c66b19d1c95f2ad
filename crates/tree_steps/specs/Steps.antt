-- What single events change in what a seat knows, and what is learned from the steps of the table.
use Rattle.std.specs.Prelude.{◌≡◌, ℕ, ◌<◌, ◌∷◌, ◌++◌, List, [], All, false, ◌⊎◌}
use Rattle.atomic_table.specs.Table.{Me, Step}
use Rattle.cube_shape.specs.Node.{OnPath}
use Rattle.cube_core.specs.declared.phase.Phase.{Phase}
use Rattle.cube_core.specs.declared.phase.Phase.TheVariants.{Holding, Leaving, Retired}
use Rattle.cube_core.specs.declared.event.Event.{Event}
use Rattle.cube_core.specs.declared.event.Kind.{Kind}
use Rattle.cube_core.specs.declared.event.Note.{Note}
use Rattle.cube_core.specs.Event.{Transition, transition, retirement}
use Rattle.status_word.specs.Word.{IsSet}
use Rattle.tree_steps.specs.declared.view.Entry.{Entry}
use Rattle.tree_steps.specs.declared.view.Peek.{Peek}
use Rattle.tree_steps.specs.declared.view.View.{View}
use Rattle.tree_steps.specs.Rule.{first, others}

-- What a seat of the table knows. The table has words only, so the seat holds no slots.
abbrev pub Known : Type 0
Known = Me (Unit {0}) View

-- The entry of the station that steps next.
abbrev pub first_of : Known → Entry
first_of m = first m.0.stations

-- The entries with another first one.
abbrev pub put_first : Entry → List Entry → List Entry
put_first e [] = []
put_first e (old ∷ rest) = e ∷ rest

-- The seat with another first entry.
abbrev pub with_first : Entry → Known → Known
with_first e m = (record m.0 { stations = put_first e m.0.stations }, m.1)

-- An entry after an event of its station that finds this word. Its peeks do not change.
abbrev pub entry_after : Transition → ℕ → Entry → Entry
entry_after d found e = record {
  station = e.station;
  phase = d.next found;
  trail = d.events found ++ e.trail;
  peeks = e.peeks;
}

-- An entry after its station has begun something.
abbrev pub entry_in : Phase → Entry → Entry
entry_in p e = record { station = e.station; phase = p; trail = e.trail; peeks = e.peeks }

-- An entry after these peeks, the newest first.
abbrev pub with_peeks : List Peek → Entry → Entry
with_peeks new e =
    record { station = e.station; phase = e.phase; trail = e.trail; peeks = new ++ e.peeks }

-- The seat after its first station has begun something.
abbrev pub begin : Phase → Known → Known
begin p m = with_first (entry_in p (first_of m)) m

-- The seat after its first station has made the event of its phase.
abbrev pub step_at : ℕ → Known → Known
step_at found m =
    with_first (entry_after (transition (first_of m).station (first_of m).phase) found (first_of m))
    m

-- The seat after its first station has retired.
abbrev pub retire_at : ℕ → Known → Known
retire_at found m = with_first (entry_after (retirement (first_of m).station) found (first_of m)) m

-- The seat after its first station has noted that a peek at a node found this word.
abbrev pub peek_at : ℕ → ℕ → Known → Known
peek_at node found m =
    with_first (with_peeks (record { node = node; word = found } ∷ []) (first_of m)) m

-- The seat after events of the first station that find these words, the newest first.
abbrev pub steps_at : List ℕ → Known → Known
steps_at [] m = m
steps_at (found ∷ earlier) m = step_at found (steps_at earlier m)

-- The first station made events of its own phases, and nothing else happened to the seat.
pub record Walks (old new : Known) : Type 0 where
  pub found : List ℕ
  pub seat : new ≡ steps_at found old

-- A station steps with this seat, and its phase is `p`.
pub record IsAt (m : Known) (p : Phase) : Type 0 where
  pub there : m.0.stations ≡ first_of m ∷ others m.0.stations
  pub phase : (first_of m).phase ≡ p

-- ---- of one station alone

-- An entry after one event of its own phase that finds this word.
abbrev pub step_entry : ℕ → Entry → Entry
step_entry found e = entry_after (transition e.station e.phase) found e

-- An entry after events of its own phases that find these words, the newest first.
abbrev pub steps_entry : List ℕ → Entry → Entry
steps_entry [] e = e
steps_entry (found ∷ earlier) e = step_entry found (steps_entry earlier e)

-- A station made events of its own phases, and no other. Each found some word.
pub record Makes (old new : Entry) : Type 0 where
  pub found : List ℕ
  pub entry : new ≡ steps_entry found old

-- Among the events that the station made is one of this kind, at this node and with this note.
pub record Answered (kind : Kind) (node : ℕ) (note : Note) (old new : Entry) : Type 0 where
  pub later : List Event
  pub earlier : List Event
  pub event : Event
  pub trail : new.trail ≡ later ++ event ∷ (earlier ++ old.trail)
  pub kind_is : event.kind ≡ kind
  pub node_is : event.node ≡ node
  pub note_is : event.note ≡ note

-- ---- what is learned from a step

-- What is learned from a step: a relation of the step, the seat before, the number found and the
-- seat after.
abbrev pub Telling : Type 1
Telling = Step (Unit {0}) → Known → ℕ → Known → Type 0

-- The first station makes the event of its phase.
abbrev pub makes_next : Telling
makes_next step before found after = after ≡ step_at found before

-- The first station begins a release of the node to which 0 is stored, and gives it back.
abbrev pub makes_zero : Telling
makes_zero step before found after = after ≡ step_at found (begin (Leaving step.word) before)

-- The first station retires.
abbrev pub makes_retirement : Telling
makes_retirement step before found after = after ≡ retire_at found before

-- The seat keeps what a load of the roll found. Each of its stations that has retired has its bit
-- there.
pub record KeepsLoad (before : Known) (found : ℕ) (after : Known) : Type 0 where
  pub kept : after ≡ (record before.0 { loads = found ∷ before.0.loads }, before.1)
  pub bits : All (λ e. e.phase ≡ Retired → IsSet found e.station) before.0.stations

-- What is learned from a load of the roll.
abbrev pub keeps_load : Telling
keeps_load step before found after = step.word ≡ 0 → KeepsLoad before found after

-- The first station notes what a load of a node's word found.
abbrev pub notes_peek : Telling
notes_peek step before found after = after ≡ peek_at step.word found before

-- If both stations hold blocks, the node of neither is on the path to the other's.
abbrev pub AreOffPath : Entry → Entry → Type 0
AreOffPath a b = (v w : ℕ) → a.phase ≡ Holding v → b.phase ≡ Holding w → OnPath v w ⊎ OnPath w v → ⊥

-- What the first station holds overlaps nothing that another one of these stations holds.
abbrev pub IsOffAll : List Entry → Type 0
IsOffAll entries = All (AreOffPath (first entries)) (others entries)

-- What is learned from a load that changes nothing: the first station's block overlaps no other
-- one.
abbrev pub tells_apart : Telling
tells_apart step before found after = (after ≡ before) × IsOffAll before.0.stations

-- ---- seats are cut and joined

-- The first entry alone.
abbrev pub first_alone : List Entry → List Entry
first_alone [] = []
first_alone (e ∷ rest) = e ∷ []

-- What is left in a seat after its first station got a seat of its own. It keeps what was loaded.
abbrev pub without_first : View → View
without_first v = record { stations = others v.stations; loads = v.loads; alone = false }

-- What the new seat of the first station knows.
abbrev pub only_first : View → View
only_first v = record { stations = first_alone v.stations; loads = []; alone = false }

-- What a second seat knows that was made to know what was loaded.
abbrev pub without_stations : View → View
without_stations v = record { stations = []; loads = v.loads; alone = false }

-- What two seats know together.
abbrev pub joined : View → View → View
joined v w =
    record { stations = v.stations ++ w.stations; loads = v.loads ++ w.loads; alone = false }

-- What a seat knows after it was joined to another one: nothing.
abbrev pub blank : View
blank = record { stations = []; loads = []; alone = false }

-- The last load of the roll found the bit of each station below the count.
pub record HasWholeRoll (count : ℕ) (m : Known) : Type 0 where
  pub roll : ℕ
  pub earlier : List ℕ
  pub loaded : m.0.loads ≡ roll ∷ earlier
  pub whole : (s : ℕ) → s < count → IsSet roll s
