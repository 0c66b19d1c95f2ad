-- What the seats of a ring know.
use Rattle.std.specs.Prelude.{ℕ, ◌+◌, List, [], ◌∷◌, ◌++◌, length}
use Rattle.ghost_history.specs.Lists.{first_of, rest_of, numbered_from}
use Rattle.cube_shape.specs.declared.limits.TheConstants.{MAX_LANES, MAX_PASSES}
use Rattle.line_ring.specs.declared.record.LaneRecord.{LaneRecord}
use Rattle.line_ring.specs.declared.record.PassRecord.{PassRecord}
use Rattle.line_ring.specs.declared.record.RestRecord.{RestRecord}
use Rattle.line_ring.specs.declared.rule.View.{View}
use Rattle.line_ring.specs.Record.{fresh_lane, fresh_pass}

module _ {T : Type 0} where
  -- What a seat knows: the machine, and the records of lanes, of passes and of the end.
  abbrev pub view : ℕ
      → List (LaneRecord T)
      → List (LaneRecord T)
      → List (PassRecord T)
      → List (PassRecord T)
      → List (RestRecord T)
      → View T
  view machine spare_lanes lanes spare_passes passes rests =
      record { machine = machine; spare_lanes = spare_lanes; lanes = lanes; spare_passes = spare_passes; passes = passes; rests = rests }

  -- The record of the end.
  abbrev pub rest_record : List T → RestRecord T
  rest_record pieces = record { drained = pieces }

  -- The first of these lane records.
  abbrev pub lane_in : List (LaneRecord T) → LaneRecord T
  lane_in [] = fresh_lane 0
  lane_in (r ∷ rs) = r

  -- The first of these pass records.
  abbrev pub pass_in : List (PassRecord T) → PassRecord T
  pass_in [] = fresh_pass 0
  pass_in (r ∷ rs) = r

  -- What the seat of a lane knows.
  abbrev pub lane_view : ℕ → LaneRecord T → View T
  lane_view machine r = view machine [] (r ∷ []) [] [] []

  -- What the seat of a pass knows.
  abbrev pub pass_view : ℕ → PassRecord T → View T
  pass_view machine r = view machine [] [] [] (r ∷ []) []

  -- All lane records of a view, those not given out first.
  abbrev pub lanes_in : View T → List (LaneRecord T)
  lanes_in v = v.spare_lanes ++ v.lanes

  -- All pass records of a view, those not given out first.
  abbrev pub passes_in : View T → List (PassRecord T)
  passes_in v = v.spare_passes ++ v.passes

  -- The records of the end in a view.
  abbrev pub rests_in : View T → List (RestRecord T)
  rests_in v = v.rests

  -- The number of a lane, by its record.
  abbrev pub lane_number : LaneRecord T → ℕ
  lane_number r = r.number

  -- The number of a pass, by its record.
  abbrev pub pass_number : PassRecord T → ℕ
  pass_number r = r.number

  -- The number of the end, which is 0.
  abbrev pub rest_number : RestRecord T → ℕ
  rest_number r = 0

  -- The number of records in a view.
  abbrev pub members : View T → ℕ
  members v = length (lanes_in v) + length (passes_in v) + length v.rests

  -- ---- views are dealt out, and come together again

  -- The fresh records of a number of lanes, counted from the first number.
  abbrev pub lanes_from : ℕ → ℕ → List (LaneRecord T)
  lanes_from = numbered_from fresh_lane

  -- The fresh records of a number of passes, counted from the first number.
  abbrev pub passes_from : ℕ → ℕ → List (PassRecord T)
  passes_from = numbered_from fresh_pass

  -- What the first seat knows: the records of all members, none of which was given out.
  abbrev pub first_view : View T
  first_view =
      view 0 (lanes_from 0 MAX_LANES) [] (passes_from 0 MAX_PASSES) [] (rest_record [] ∷ [])

  -- The same records, for the machine of the next dimension.
  abbrev pub for_next_machine : View T → View T
  for_next_machine v = view (v.machine + 1) v.spare_lanes v.lanes v.spare_passes v.passes v.rests

  -- What a seat without records knows.
  abbrev pub empty_view : View T
  empty_view = view 0 [] [] [] [] []

  -- What is left after the first spare lane's record was given out.
  abbrev pub without_lane : View T → View T
  without_lane v = view v.machine (rest_of v.spare_lanes) v.lanes v.spare_passes v.passes v.rests

  -- The first spare lane's record alone.
  abbrev pub lane_alone : View T → View T
  lane_alone v = view v.machine [] (first_of v.spare_lanes) [] [] []

  -- What is left after the first spare pass's record was given out.
  abbrev pub without_pass : View T → View T
  without_pass v = view v.machine v.spare_lanes v.lanes (rest_of v.spare_passes) v.passes v.rests

  -- The first spare pass's record alone.
  abbrev pub pass_alone : View T → View T
  pass_alone v = view v.machine [] [] [] (first_of v.spare_passes) []

  -- What the end's seat knows after it took the records of another seat.
  abbrev pub joined : View T → View T → View T
  joined v w =
      view v.machine v.spare_lanes (v.lanes ++ w.lanes) v.spare_passes (v.passes ++ w.passes)
      v.rests
