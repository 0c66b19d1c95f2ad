-- The records of lanes and passes at a gate, and what each step changes in them.
use Rattle.std.specs.Prelude.{◌≡◌, ℕ, Bool, true, false, Some, None, List, [], ◌∷◌, ◌++◌}
use Rattle.ghost_history.specs.Lists.{numbered_from}
use Rattle.line_gate.specs.declared.record.SettledEntry.{SettledEntry}
use Rattle.line_gate.specs.declared.record.LaneEntries.{LaneEntries}
use Rattle.line_gate.specs.declared.record.Reading.{Reading}
use Rattle.line_gate.specs.declared.record.PassReadings.{PassReadings}

-- A settled entry: its number, and whether its job was accepted.
abbrev pub entry : ℕ → Bool → SettledEntry
entry number accepted = record { number = number; accepted = accepted }

-- A reading of a pass: the entries settled, the entries counted, and whether the gate was closed.
abbrev pub reading : ℕ → ℕ → Bool → Reading
reading settled counted closed = record { settled = settled; counted = counted; closed = closed }

-- The record of a lane that has made no step.
abbrev pub fresh_lane : ℕ → LaneEntries
fresh_lane number =
    record { number = number; entries = []; pending = None; late = false; seen = [] }

-- The record of a pass that has made no step.
abbrev pub fresh_pass : ℕ → PassReadings
fresh_pass number = record { number = number; settled = None; readings = [] }

-- The fresh records of a number of lanes, counted from the first number.
abbrev pub lanes_from : ℕ → ℕ → List LaneEntries
lanes_from = numbered_from fresh_lane

-- The fresh records of a number of passes, counted from the first number.
abbrev pub passes_from : ℕ → ℕ → List PassReadings
passes_from = numbered_from fresh_pass

-- The lane has no pending entry, and no late entry to undo.
abbrev pub IsSettled : LaneEntries → Type 0
IsSettled lane = (lane.pending ≡ None) × (lane.late ≡ false)

-- The reading shows the gate closed, and as many entries settled as counted.
abbrev pub Seals : Reading → Type 0
Seals r = (r.closed ≡ true) × (r.settled ≡ r.counted)

-- ---- what a step makes of the record of its lane

-- The lane's record after it read this count with the closed mark.
abbrev pub after_look : ℕ → LaneEntries → LaneEntries
after_look count lane = record lane { seen = lane.seen ++ count ∷ [] }

-- The lane's record after it made the entry with this number.
abbrev pub after_enter : ℕ → LaneEntries → LaneEntries
after_enter number lane = record lane { pending = Some number }

-- The lane's record after it made an entry after the close and found this count.
abbrev pub after_late_enter : ℕ → LaneEntries → LaneEntries
after_late_enter count lane = record lane { late = true; seen = lane.seen ++ count ∷ [] }

-- The lane's record after it undid a late entry.
abbrev pub after_undo : LaneEntries → LaneEntries
after_undo lane = record lane { late = false }

-- The lane's record after it settled the entry with this number.
abbrev pub after_settle : ℕ → Bool → LaneEntries → LaneEntries
after_settle number accepted lane =
    record lane { entries = lane.entries ++ entry number accepted ∷ []; pending = None }

-- ---- what a step makes of the record of its pass

-- The pass's record after it read how many entries are settled.
abbrev pub after_read_settled : ℕ → PassReadings → PassReadings
after_read_settled settled pass = record pass { settled = Some settled }

-- The pass's record after it read the count of entries and the closed mark.
abbrev pub after_read_gate : ℕ → ℕ → Bool → PassReadings → PassReadings
after_read_gate settled counted closed pass =
    record pass { settled = None; readings = pass.readings ++ reading settled counted closed ∷ [] }
