-- What seats of the table know.
use Rattle.std.specs.Prelude.{ℕ, Option, None, List, [], ◌∷◌, ◌++◌}
use Rattle.ghost_history.specs.Lists.{first_of, rest_of, numbered_from}
use Rattle.lanes.specs.declared.sizes.Plan.{Plan}
use Rattle.lanes.specs.declared.record.LaneRecord.{LaneRecord}
use Rattle.lanes.specs.declared.record.WorkerRecord.{WorkerRecord}
use Rattle.lanes.specs.declared.view.CloserRecord.{CloserRecord}
use Rattle.lanes.specs.declared.view.View.{View}
use Rattle.lanes.specs.Record.{fresh_lane, fresh_worker}

abbrev pub view : List LaneRecord → List WorkerRecord → List CloserRecord → View
view lanes workers closers = record { lanes = lanes; workers = workers; closers = closers }

-- The record of the closer.
abbrev pub closer : Plan → List (Option ℕ) → CloserRecord
closer plan closed = record { plan = plan; closed = closed }

-- The same before any lane was closed.
abbrev pub fresh_closer : Plan → CloserRecord
fresh_closer plan = closer plan (numbered_from (λ _. None) 0 plan.sizes.lanes)

-- the views of a producer, a worker and the closer
abbrev pub lane_view : LaneRecord → View
lane_view r = view (r ∷ []) [] []

abbrev pub worker_view : WorkerRecord → View
worker_view r = view [] (r ∷ []) []

abbrev pub closer_view : CloserRecord → View
closer_view r = view [] [] (r ∷ [])

-- ---- views are dealt out, and joined again

-- what the first seat knows: the records of all members
abbrev pub first_view : Plan → View
first_view plan =
    view (numbered_from (fresh_lane plan.sizes.capacity) 0 plan.sizes.lanes) (numbered_from (fresh_worker plan) 0 plan.sizes.workers) (fresh_closer plan ∷ [])

abbrev pub without_lane : View → View
without_lane v = view (rest_of v.lanes) v.workers v.closers

abbrev pub lane_alone : View → View
lane_alone v = view (first_of v.lanes) [] []

abbrev pub without_worker : View → View
without_worker v = view v.lanes (rest_of v.workers) v.closers

abbrev pub worker_alone : View → View
worker_alone v = view [] (first_of v.workers) []

abbrev pub joined : View → View → View
joined v w = view (v.lanes ++ w.lanes) (v.workers ++ w.workers) (v.closers ++ w.closers)

abbrev pub spent_view : View
spent_view = view [] [] []
