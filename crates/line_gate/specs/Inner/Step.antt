-- What the steps of a seat on a gate's table do: the step, the seat before, the number found and
-- the seat after.
use Rattle.std.specs.Prelude.{◌≡◌, ℕ, ◌-◌, ◌<◌, ◌≤◌, Bool, true, false, Option, Some, None, List, [], ◌∷◌}
use Rattle.atomic_table.specs.Table.{Me, Step}
use Rattle.line_gate.specs.declared.gate.TheConstants.{CLOSED}
use Rattle.line_gate.specs.declared.record.LaneEntries.{LaneEntries}
use Rattle.line_gate.specs.declared.record.PassReadings.{PassReadings}
use Rattle.line_gate.specs.declared.view.View.{View}
use Rattle.line_gate.specs.Record.{fresh_lane, fresh_pass, after_look, after_enter, after_late_enter, after_undo, after_settle, after_read_settled, after_read_gate}
use Rattle.line_gate.specs.Inner.View.{view, closer, lane_view, pass_view, closer_view}

-- What a seat of a gate knows.
abbrev pub Sat : Type 0
Sat = Me (Unit {0}) View

-- The meaning of a step: the seat before, the number found in the word, and the seat after.
abbrev pub Play : Type 1
Play = Step (Unit {0}) → Sat → ℕ → Sat → Type 0

-- The first of these lane records.
abbrev pub lane_in : List LaneEntries → LaneEntries
lane_in [] = fresh_lane 0
lane_in (r ∷ rs) = r

-- The first of these pass records.
abbrev pub pass_in : List PassReadings → PassReadings
pass_in [] = fresh_pass 0
pass_in (r ∷ rs) = r

-- The number, or 0 if there is none.
abbrev pub number_in : Option ℕ → ℕ
number_in (Some number) = number
number_in None = 0

-- ---- the seats of members

-- The seat of a lane, which knows that lane's record alone.
abbrev pub IsLaneSeat : Sat → Type 0
IsLaneSeat m = m ≡ (lane_view (lane_in m.0.lanes), [])

-- The seat of a pass, which knows that pass's record alone.
abbrev pub IsPassSeat : Sat → Type 0
IsPassSeat m = m ≡ (pass_view (pass_in m.0.passes), [])

-- The seat of the closer before the close.
abbrev pub IsCloserSeat : Sat → Type 0
IsCloserSeat m = m ≡ (closer_view None, [])

-- The seat of a close note with this number.
abbrev pub IsNoteSeat : Sat → ℕ → Type 0
IsNoteSeat m number = m ≡ (closer_view (Some number), [])

-- The seat of a new gate's members, with the closer that has not closed.
abbrev pub IsMembersSeat : Sat → Type 0
IsMembersSeat m = m ≡ (view m.0.lanes m.0.passes (closer None ∷ []), [])

-- The seat of a gate's end, with the closer that closed at this number.
abbrev pub IsEndSeat : Sat → ℕ → Type 0
IsEndSeat m number = m ≡ (view m.0.lanes m.0.passes (closer (Some number) ∷ []), [])

-- ---- the seat of a lane after a step

-- The seat knows this record of its lane.
abbrev pub IsLaneNow : Sat → LaneEntries → Type 0
IsLaneNow m r = m ≡ (lane_view r, [])

-- A look: a closed gate adds the count to the lane's record, an open one adds nothing.
abbrev pub looks_at : Play
looks_at st m found n = let r = lane_in m.0.lanes in (found < CLOSED → n ≡ m) × (CLOSED ≤ found → IsLaneNow n (after_look (found - CLOSED) r))

-- An entry: pending at an open gate, late at a closed one.
abbrev pub enters_at : Play
enters_at st m found n = let r = lane_in m.0.lanes in (found < CLOSED → IsLaneNow n (after_enter found r)) × (CLOSED ≤ found → IsLaneNow n (after_late_enter (found - CLOSED) r))

-- A late entry is undone.
abbrev pub undoes_at : Play
undoes_at st m found n = IsLaneNow n (after_undo (lane_in m.0.lanes))

-- The pending entry is settled, as accepted or as full.
abbrev pub settles_at : Bool → Play
settles_at accepted st m found n = let r = lane_in m.0.lanes in IsLaneNow n (after_settle (number_in r.pending) accepted r)

-- ---- the seat of the closer, and of a pass, after a step

-- The closer closes an open gate at the count that it found.
abbrev pub closes_at : Play
closes_at st m found n = (found < CLOSED) × (n ≡ (closer_view (Some found), []))

-- A pass reads how many entries are settled.
abbrev pub reads_settled_at : Play
reads_settled_at st m found n = n ≡ (pass_view (after_read_settled found (pass_in m.0.passes)), [])

-- A pass reads the count of entries, and whether the gate is closed.
abbrev pub reads_gate_at : Play
reads_gate_at st m found n =
    let r = pass_in m.0.passes in
    (found < CLOSED → n ≡ (pass_view (after_read_gate (number_in r.settled) found false r), []))
    × (CLOSED ≤ found → n ≡ (
      pass_view
          (after_read_gate (number_in r.settled) (found - CLOSED) true r),
      [],
    ))
