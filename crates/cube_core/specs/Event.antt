-- Events: what a station in its phase does to one word, as functions of the word that it finds.
use Rattle.std.specs.Prelude.{ℕ, ◌^◌, ◌==◌, if◌then◌else◌, Bool, bit_or, List, [], ◌∷◌}
use Rattle.std.specs.Int.{bit_at}
use Rattle.cube_shape.specs.Node.{parent_of, child_of, child_towards}
use Rattle.cube_shape.specs.declared.node.Side.TheVariants.{Left, Right}
use Rattle.status_word.specs.Word.{use_of, with_side, with_mark, cleared}
use Rattle.cube_core.specs.declared.phase.Phase.{Phase}
use Rattle.cube_core.specs.declared.phase.Phase.TheVariants.{Idle, Looking, Looked, Climbing, Swept, Holding, Leaving, Backing, Arriving, Unmarked, Marked, Retired}
use Rattle.cube_core.specs.declared.event.Event.{Event}
use Rattle.cube_core.specs.declared.event.Kind.{Kind}
use Rattle.cube_core.specs.declared.event.Kind.TheVariants.{Look, Claim, Sweep, Raise, Zero, Unmark, Mark, Child, Clear, Retire}
use Rattle.cube_core.specs.declared.event.Note.{Note}
use Rattle.cube_core.specs.declared.event.Note.TheVariants as note
use Rattle.cube_core.specs.declared.phase.Seen.{Seen}
use Rattle.cube_core.specs.declared.phase.Seen.TheVariants as seen
use Rattle.cube_core.specs.Phase.{side_of, is_seen_free}

-- One event: the node of its word and, as functions of the word found, the word written, the
-- station's next phase, and the event.
pub record Transition : Type 0 where
  pub node : ℕ
  pub writes : ℕ → ℕ
  pub next : ℕ → Phase
  pub events : ℕ → List Event

-- The word of a claimed node: OCC and both sides.
abbrev pub busy : ℕ
busy = 7

-- Whether no bit of use is set.
abbrev pub is_free : ℕ → Bool
is_free w = use_of w == 0

-- Whether OCC is set.
abbrev pub is_occupied : ℕ → Bool
is_occupied w = bit_at w 0 == 1

-- One event of a station at a node, from functions of the word found: the word written, the next
-- phase and the note. The event records the word that it wrote.
abbrev pub event_at : ℕ → Kind → ℕ → (ℕ → ℕ) → (ℕ → Phase) → (ℕ → Note) → Transition
event_at station kind node writes next note =
    let made : ℕ → Event = λ w.
    record { station = station; kind = kind; node = node; word = writes w; note = note w } in
    record { node = node; writes = writes; next = next; events = λ w. made w ∷ [] }

-- The next phase of a station that takes node `h` and has passed `a`. If `a` is the root, it holds
-- the block of `h`; else it climbs on.
abbrev pub phase_after_raise : ℕ → ℕ → Phase
phase_after_raise h a = if a == 1 then Holding h else Climbing h (parent_of a)

-- The note of an event after which a take has passed `a`.
abbrev pub note_after_raise : ℕ → Note
note_after_raise a = if a == 1 then note.Held else note.Climb

-- The next phase of a station on its way up after a Zero that has finished at `a`. If `a` is the
-- root, nothing more is to do.
abbrev pub phase_after_zero : ℕ → Phase
phase_after_zero a = if a == 1 then Idle else Arriving (parent_of a)

-- The note of an event after which the way up after a Zero has finished at `a`.
abbrev pub note_after_zero : ℕ → Note
note_after_zero a = if a == 1 then note.Done else note.Climb

-- What a station has seen of a child if it finds the word `w` there.
abbrev pub seen_at : ℕ → Seen
seen_at w = if is_free w then seen.Free else seen.Used

-- The note of a load of a child that finds the word `w`.
abbrev pub seen_note : ℕ → Note
seen_note w = if is_free w then note.Free else note.Used

-- The event Zero: writes 0 to the node, whatever word is found.
abbrev pub zero_event : ℕ → ℕ → Transition
zero_event s h = event_at s Zero h (λ w. 0) (λ w. phase_after_zero h) (λ w. note_after_zero h)

-- The event Child: loads the word of a child, and continues with what is seen.
abbrev pub child_event : ℕ → ℕ → (Seen → Phase) → Transition
child_event s c next = event_at s Child c (λ w. w) (λ w. next (seen_at w)) seen_note

-- The word that a Clear writes: the marked word without its marks, and without each side whose
-- child was seen free.
abbrev pub cleared_as_seen : ℕ → Seen → Seen → ℕ
cleared_as_seen w left right = cleared w (is_seen_free left) (is_seen_free right)

-- The event Clear: one compare-exchange of the word that the station's mark made. If the node stays
-- in use, the way up ends.
abbrev pub clear_event : ℕ → ℕ → ℕ → ℕ → Transition
clear_event s a marked y = event_at s Clear a (λ w. if w == marked then y else w)
    (λ w. if w == marked then if is_free y then phase_after_zero a else Idle else Idle)
    (λ w. if w == marked then if is_free y then note_after_zero a else note.Keep else note.Lost)

-- The first event if a child is not seen yet, else the second.
abbrev pub if_unseen : Seen → Transition → Transition → Transition
if_unseen seen.NotYet first second = first
if_unseen _ first second = second

-- The one event that a station in this phase makes next.
abbrev pub transition : ℕ → Phase → Transition
-- Look: a load.
transition s (Looking h) = event_at s Look h (λ w. w)
    (λ w. if is_free w then Looked h w else Idle)
    (λ w. if is_free w then note.Free else note.InUse)
-- Claim: one compare-exchange of the word that was seen.
transition s (Looked h seen) = event_at s Claim h (λ w. if w == seen then busy else w)
    (λ w. if w == seen then phase_after_raise h h else Idle)
    (λ w. if w == seen then note_after_raise h else note.Lost)
-- Sweep: removes all marks.
transition s (Climbing h a) = event_at s Sweep a use_of (λ w. Swept h a) (λ w. note.Ok)
-- Raise: sets the side of the child towards `h`. An occupied word ends the climb.
transition s (Swept h a) = event_at s Raise a (with_side (side_of (child_towards a h)))
    (λ w. if is_occupied w then Backing h a else phase_after_raise h a)
    (λ w. if is_occupied w then note.Under else note_after_raise a)
transition s (Leaving h) = zero_event s h
transition s (Backing h a) = zero_event s h
-- Unmark: removes all marks.
transition s (Arriving a) = event_at s Unmark a use_of (λ w. Unmarked a) (λ w. note.Ok)
-- Mark: sets the station's mark. At an occupied node there is nothing more to do.
transition s (Unmarked a) = event_at s Mark a (with_mark s)
    (λ w. if is_occupied w then Idle else Marked a (with_mark s w) seen.NotYet seen.NotYet)
    (λ w. if is_occupied w then note.Stop else note.Ok)
-- Child and Clear: the left child, then the right one, then the compare-exchange.
transition s (Marked a w left right) =
    if_unseen left (child_event s (child_of a Left) (λ found. Marked a w found right))
    (if_unseen right (child_event s (child_of a Right) (λ found. Marked a w left found))
    (clear_event s a w (cleared_as_seen w left right)))
-- A station at rest makes no event, and its phase does not change.
transition s phase = record { node = 0; writes = λ w. w; next = λ w. phase; events = λ w. [] }

-- The event of a call `retire`: the idle station sets its bit in the roll, and makes no further
-- event.
abbrev pub retirement : ℕ → Transition
retirement s = event_at s Retire 0 (λ w. bit_or w (2 ^ s)) (λ w. Retired) (λ w. note.Retired)
