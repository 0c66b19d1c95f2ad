-- The state of words and stations, and what a schedule of calls makes of it.
use Rattle.std.specs.Prelude.{◌≡◌, ℕ, ◌<◌, ◌+◌, ◌^◌, ◌&&◌, nat_lt, replicate, if◌then◌else◌, List, [], ◌∷◌, ◌++◌, length, slice_set, slice_index_or, Option, Some, None}
use Rattle.cube_core.specs.declared.phase.Phase.{Phase}
use Rattle.cube_core.specs.declared.phase.Phase.TheVariants.{Idle, Looking, Holding, Leaving, Retired}
use Rattle.cube_core.specs.declared.event.Event.{Event}
use Rattle.cube_core.specs.declared.act.Act.{Act}
use Rattle.cube_core.specs.declared.act.Act.TheVariants.{Take, Release, Step, Retire}
use Rattle.cube_core.specs.declared.act.Refused.{Refused}
use Rattle.cube_core.specs.declared.act.Refused.TheVariants.{NotIdle, NotHolding, NoStation, NotInCube}
use Rattle.cube_core.specs.Phase.{owned}
pub use Rattle.cube_core.specs.Phase.{step_refusal}
use Rattle.cube_core.specs.Event.{Transition, transition, retirement}

-- The record of a station: its phase, and its trail, which is the list of its events, newest first.
pub record Record : Type 0 where
  pub phase : Phase
  pub trail : List Event

-- The state: the dimension of the machine, the word of each node, and the record of each station.
-- Word 0 is the roll, which has a bit for each retired station.
pub record State : Type 0 where
  pub dim : ℕ
  pub words : List ℕ
  pub records : List Record

-- The record of a station. A station that does not exist reads as retired.
abbrev pub record_of : State → ℕ → Record
record_of w s = slice_index_or w.records s (record { phase = Retired; trail = [] })

-- The phase of a station.
abbrev pub phase_of : State → ℕ → Phase
phase_of w s = (record_of w s).phase

-- The trail of a station.
abbrev pub trail_of : State → ℕ → List Event
trail_of w s = (record_of w s).trail

-- The word of a node. A node that does not exist reads as 0.
abbrev pub word_of : State → ℕ → ℕ
word_of w v = slice_index_or w.words v 0

-- The opened machine: all words are 0, and all stations are idle.
abbrev pub initial : ℕ → ℕ → State
initial n stations =
    record {
      dim = n;
      words = replicate (2 ^ (n + 1)) 0;
      records = replicate stations
          (record { phase = Idle; trail = [] });
    }

-- The state after a station begins something: its phase changes, and nothing else.
abbrev pub apply_begin : ℕ → Phase → State → State
apply_begin s phase w =
    record w { records = slice_set w.records s (record (record_of w s) { phase = phase }) }

-- The state after an event: one word and the station's record change.
abbrev pub apply_event : Transition → ℕ → State → State
apply_event d s w =
    let found = word_of w d.node in
    let record_after : Record = record { phase = d.next found; trail = d.events found ++ (record_of w s).trail } in
    record w { words = slice_set w.words d.node (d.writes found); records = slice_set w.records s record_after }

-- The station that makes an act.
abbrev pub station_of : Act → ℕ
station_of (Take s v) = s
station_of (Release s) = s
station_of (Step s) = s
station_of (Retire s) = s

-- The reason why an act of an existing station is refused in its phase. A take is refused first for
-- the phase, and then for the node.
abbrev pub phase_refusal : ℕ → Act → Phase → Option Refused
phase_refusal n (Take s v) Idle =
    if nat_lt 0 v && nat_lt v (2 ^ (n + 1)) then None else Some NotInCube
phase_refusal n (Take s v) _ = Some NotIdle
phase_refusal n (Release s) (Holding h) = None
phase_refusal n (Release s) _ = Some NotHolding
phase_refusal n (Step s) phase = step_refusal phase
phase_refusal n (Retire s) Idle = None
phase_refusal n (Retire s) _ = Some NotIdle

-- The reason why an act is refused, if it is. The first reason is that there is no such station.
abbrev pub refusal : Act → State → Option Refused
refusal act w =
    if nat_lt (station_of act) (length w.records)
    then phase_refusal w.dim act (phase_of w (station_of act)) else Some NoStation

-- The state after an act that is not refused.
abbrev pub apply_accepted : Act → State → State
apply_accepted (Take s v) w = apply_begin s (Looking v) w
apply_accepted (Release s) w = apply_begin s (Leaving (owned (phase_of w s))) w
apply_accepted (Step s) w = apply_event (transition s (phase_of w s)) s w
apply_accepted (Retire s) w = apply_event (retirement s) s w

-- The state after an act, given its refusal. A refused act changes nothing.
abbrev pub unless_refused : Option Refused → Act → State → State
unless_refused None act w = apply_accepted act w
unless_refused (Some why) act w = w

-- The state after an act. It changes at most one word and one station's record.
abbrev pub apply : Act → State → State
apply act w = unless_refused (refusal act w) act w

-- The state after a schedule: a list of acts of any stations, the newest first.
abbrev pub apply_all : List Act → State → State
apply_all [] w = w
apply_all (act ∷ earlier) w = apply act (apply_all earlier w)

-- All acts of the station in the list are steps.
abbrev pub HasOnlySteps : ℕ → List Act → Type 0
HasOnlySteps s [] = Unit {0}
HasOnlySteps s (act ∷ earlier) = (station_of act ≡ s → act ≡ Step s) × HasOnlySteps s earlier

-- The acts of a station, the newest first, are one event. They have the same effect as the event in
-- every state of dimension `n` where the station has this record.
abbrev pub AreOneEvent : ℕ → List Act → ℕ → Record → Transition → Type 0
AreOneEvent n acts s r d = (w : State) → w.dim ≡ n → s < length w.records → record_of w s ≡ r
    → apply_all acts w ≡ apply_event d s w
