-- The history of a gate: what its steps did, newest first, and the records that follow from it.
use Rattle.std.specs.Prelude.{◌≡◌, ℕ, zero, suc, ◌+◌, ◌-◌, ◌<◌, Bool, true, false, cond, Option, Some, None, List, [], ◌∷◌, length, ◌==◌}
use Rattle.ghost_history.specs.History.{part, Legal}
use Rattle.line_gate.specs.declared.gate.TheConstants.{CLOSED}
use Rattle.cube_shape.specs.declared.limits.TheConstants.{MAX_ENTRIES}
use Rattle.line_gate.specs.declared.gate.Counts.{Counts}
use Rattle.line_gate.specs.declared.record.LaneEntries.{LaneEntries}
use Rattle.line_gate.specs.declared.record.PassReadings.{PassReadings}
use Rattle.line_gate.specs.declared.view.CloserRecord.{CloserRecord}
use Rattle.line_gate.specs.Record.{fresh_lane, fresh_pass, IsSettled, after_look, after_enter, after_late_enter, after_undo, after_settle, after_read_settled, after_read_gate}
use Rattle.line_gate.specs.Inner.View.{closer}

-- A step of a lane.
pub data LaneAct : Type 0 where
  -- It looked at the gate, and found this count and whether the gate was closed.
  looks : ℕ → Bool → LaneAct
  -- It made the entry with this number.
  enters : ℕ → LaneAct
  -- It made an entry after the close, and found this count.
  comes_late : ℕ → LaneAct
  -- It undid a late entry.
  undoes : LaneAct
  -- It settled the entry with this number, whose job was accepted or found the queue full.
  settles : ℕ → Bool → LaneAct

-- A step of a pass.
pub data PassAct : Type 0 where
  -- It read how many entries are settled.
  reads_settled : ℕ → PassAct
  -- It had read the first number. Then it read the count, and whether the gate was closed.
  reads_gate : ℕ → ℕ → Bool → PassAct

-- A step at a gate. Lanes and passes are named by their numbers.
pub data Deed : Type 0 where
  -- The lane made this step.
  by_lane : ℕ → LaneAct → Deed
  -- The pass made this step.
  by_pass : ℕ → PassAct → Deed
  -- The closer closed the gate at this count of entries.
  closes : ℕ → Deed

-- ---- the gate after a history

-- The number of entries made before the close.
abbrev pub entered : List Deed → ℕ
entered [] = 0
entered (by_lane l (looks count closed) ∷ history) = entered history
entered (by_lane l (enters number) ∷ history) = entered history + 1
entered (by_lane l (comes_late count) ∷ history) = entered history
entered (by_lane l undoes ∷ history) = entered history
entered (by_lane l (settles number accepted) ∷ history) = entered history
entered (by_pass p act ∷ history) = entered history
entered (closes number ∷ history) = entered history

-- The count at the gate: the entries, and the late ones that are not undone.
abbrev pub counted : List Deed → ℕ
counted [] = 0
counted (by_lane l (looks count closed) ∷ history) = counted history
counted (by_lane l (enters number) ∷ history) = counted history + 1
counted (by_lane l (comes_late count) ∷ history) = counted history + 1
counted (by_lane l undoes ∷ history) = counted history - 1
counted (by_lane l (settles number accepted) ∷ history) = counted history
counted (by_pass p act ∷ history) = counted history
counted (closes number ∷ history) = counted history

-- The number of settled entries.
abbrev pub settled : List Deed → ℕ
settled [] = 0
settled (by_lane l (looks count closed) ∷ history) = settled history
settled (by_lane l (enters number) ∷ history) = settled history
settled (by_lane l (comes_late count) ∷ history) = settled history
settled (by_lane l undoes ∷ history) = settled history
settled (by_lane l (settles number accepted) ∷ history) = settled history + 1
settled (by_pass p act ∷ history) = settled history
settled (closes number ∷ history) = settled history

-- Whether the gate is closed.
abbrev pub is_shut : List Deed → Bool
is_shut [] = false
is_shut (by_lane l act ∷ history) = is_shut history
is_shut (by_pass p act ∷ history) = is_shut history
is_shut (closes number ∷ history) = true

-- The first word: a count, and the closed mark.
abbrev pub gate_word : ℕ → Bool → ℕ
gate_word count closed = count + cond closed CLOSED 0

-- Both words after a history.
abbrev pub words_of : List Deed → List ℕ
words_of history = gate_word (counted history) (is_shut history) ∷ settled history ∷ []

-- ---- the records that a history makes

-- The record of a lane after one step of its own.
abbrev pub lane_after : LaneAct → LaneEntries → LaneEntries
lane_after (looks count true) r = after_look count r
lane_after (looks count false) r = r
lane_after (enters number) r = after_enter number r
lane_after (comes_late count) r = after_late_enter count r
lane_after undoes r = after_undo r
lane_after (settles number accepted) r = after_settle number accepted r

-- The record of a pass after one step of its own.
abbrev pub pass_after : PassAct → PassReadings → PassReadings
pass_after (reads_settled count) r = after_read_settled count r
pass_after (reads_gate count counted closed) r = after_read_gate count counted closed r

-- Whether the lane with this number made the step.
abbrev pub is_by_lane : Deed → ℕ → Bool
is_by_lane (by_lane l act) k = l == k
is_by_lane (by_pass p act) k = false
is_by_lane (closes number) k = false

-- The record of the lane that made a step, after it.
abbrev pub lane_deed : Deed → LaneEntries → LaneEntries
lane_deed (by_lane l act) r = lane_after act r
lane_deed (by_pass p act) r = r
lane_deed (closes number) r = r

-- The record of a lane after a history.
abbrev pub lane_part : List Deed → ℕ → LaneEntries
lane_part = part is_by_lane lane_deed fresh_lane

-- Whether the pass with this number made the step.
abbrev pub is_by_pass : Deed → ℕ → Bool
is_by_pass (by_lane l act) k = false
is_by_pass (by_pass p act) k = p == k
is_by_pass (closes number) k = false

-- The record of the pass that made a step, after it.
abbrev pub pass_deed : Deed → PassReadings → PassReadings
pass_deed (by_lane l act) r = r
pass_deed (by_pass p act) r = pass_after act r
pass_deed (closes number) r = r

-- The record of a pass after a history.
abbrev pub pass_part : List Deed → ℕ → PassReadings
pass_part = part is_by_pass pass_deed fresh_pass

-- The count of entries at which a history closed the gate, or `None` if it did not close it.
abbrev pub closed_at : List Deed → Option ℕ
closed_at [] = None
closed_at (by_lane l act ∷ history) = closed_at history
closed_at (by_pass p act ∷ history) = closed_at history
closed_at (closes number ∷ history) = Some number

-- The record of the closer after a history. There is one closer, with the number 0.
abbrev pub closer_part : List Deed → ℕ → CloserRecord
closer_part history zero = closer (closed_at history)
closer_part history (suc k) = closer None

-- ---- which deeds a history allows

-- Which step a lane with this record may make after a history.
abbrev pub LaneMay : List Deed → LaneEntries → LaneAct → Type 0
LaneMay history r (looks count closed) = (count ≡ counted history) × (closed ≡ is_shut history)
-- An entry has the next number and comes before the close. The lane's earlier entries are settled.
LaneMay history r (enters number) =
    (number ≡ entered history) × (is_shut history ≡ false) × IsSettled r
    × (length r.entries < MAX_ENTRIES)
LaneMay history r (comes_late count) =
    (count ≡ counted history) × (is_shut history ≡ true) × IsSettled r
LaneMay history r undoes = r.late ≡ true
LaneMay history r (settles number accepted) = r.pending ≡ Some number

-- Which step a pass with this record may make after a history.
abbrev pub PassMay : List Deed → PassReadings → PassAct → Type 0
PassMay history r (reads_settled count) = count ≡ settled history
PassMay history r (reads_gate count n closed) =
    (r.settled ≡ Some count) × (n ≡ counted history) × (closed ≡ is_shut history)

-- Which step may follow a history of a gate with this many lanes and passes.
abbrev pub May : Counts → List Deed → Deed → Type 0
May counts history (by_lane l act) = (l < counts.lanes) × LaneMay history (lane_part history l) act
May counts history (by_pass p act) = (p < counts.passes) × PassMay history (pass_part history p) act
May counts history (closes number) = (is_shut history ≡ false) × (number ≡ entered history)

-- Each step in the history was allowed by the history before it.
abbrev pub IsLegal : Counts → List Deed → Type 0
IsLegal counts history = Legal (May counts) history
