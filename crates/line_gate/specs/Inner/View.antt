-- What the seats of a gate's table know.
use Rattle.std.specs.Prelude.{ℕ, Option, None, List, [], ◌∷◌, ◌++◌}
use Rattle.ghost_history.specs.Lists.{first_of, rest_of}
use Rattle.line_gate.specs.declared.gate.Counts.{Counts}
use Rattle.line_gate.specs.declared.record.LaneEntries.{LaneEntries}
use Rattle.line_gate.specs.declared.record.PassReadings.{PassReadings}
use Rattle.line_gate.specs.declared.view.CloserRecord.{CloserRecord}
use Rattle.line_gate.specs.declared.view.View.{View}
use Rattle.line_gate.specs.Record.{lanes_from, passes_from}

-- The records that a seat knows, of lanes, of passes and of closers.
abbrev pub view : List LaneEntries → List PassReadings → List CloserRecord → View
view lanes passes closers = record { lanes = lanes; passes = passes; closers = closers }

-- The record of the closer.
abbrev pub closer : Option ℕ → CloserRecord
closer closed_at = record { closed_at = closed_at }

-- What the seat of a lane knows.
abbrev pub lane_view : LaneEntries → View
lane_view r = view (r ∷ []) [] []

-- What the seat of a pass knows.
abbrev pub pass_view : PassReadings → View
pass_view r = view [] (r ∷ []) []

-- What the seat of the closer knows.
abbrev pub closer_view : Option ℕ → View
closer_view closed_at = view [] [] (closer closed_at ∷ [])

-- ---- views are dealt out, and come together again

-- What the first seat knows: the records of all members.
abbrev pub first_view : Counts → View
first_view counts =
    view (lanes_from 0 counts.lanes) (passes_from 0 counts.passes) (closer None ∷ [])

-- What is left after the first lane's record was given out.
abbrev pub without_lane : View → View
without_lane v = view (rest_of v.lanes) v.passes v.closers

-- The first lane's record alone.
abbrev pub lane_alone : View → View
lane_alone v = view (first_of v.lanes) [] []

-- What is left after the first pass's record was given out.
abbrev pub without_pass : View → View
without_pass v = view v.lanes (rest_of v.passes) v.closers

-- The first pass's record alone.
abbrev pub pass_alone : View → View
pass_alone v = view [] (first_of v.passes) []

-- What two seats know together.
abbrev pub joined : View → View → View
joined v w = view (v.lanes ++ w.lanes) (v.passes ++ w.passes) (v.closers ++ w.closers)

-- What a seat knows after its records moved to another one: nothing.
abbrev pub spent_view : View
spent_view = view [] [] []
