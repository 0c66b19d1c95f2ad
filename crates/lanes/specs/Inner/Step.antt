-- What the steps of a seat on the table say: of the step, the seat before, the number found and the
-- seat after.
use Rattle.std.specs.Prelude.{◌≡◌, ℕ, ◌+◌, ◌-◌, ◌%◌, ◌^◌, ◌<◌, ◌≤◌, ◌≢◌, Bool, true, false, Option, Some, None, List, [], ◌∷◌, ◌++◌, length, map, min, replicate, slice_set}
use Rattle.std.specs.List.{sum}
use Rattle.atomic_table.specs.Table.{Me, Step}
use Rattle.ghost_history.specs.Lists.{numbered_from}
use Rattle.lanes.specs.declared.sizes.TheConstants.{CLOSED}
use Rattle.lanes.specs.declared.sizes.Plan.{Plan}
use Rattle.lanes.specs.declared.record.LaneRecord.{LaneRecord}
use Rattle.lanes.specs.declared.record.TakeRecord.{TakeRecord}
use Rattle.lanes.specs.declared.record.WorkerRecord.{WorkerRecord}
use Rattle.lanes.specs.declared.view.CloserRecord.{CloserRecord}
use Rattle.lanes.specs.declared.view.View.{View}
use Rattle.lanes.specs.Layout.{lane_of}
use Rattle.lanes.specs.Record.{fresh_lane, fresh_worker, take_of, with_take, after_count, after_full, after_room, after_payload, after_dim, after_accept, after_refusal, after_head, after_empty, after_tail, after_cell, after_dim_cell, after_take, after_loss}
use Rattle.lanes.specs.Inner.View.{view, closer, fresh_closer, lane_view, worker_view, closer_view}

abbrev pub Sat : Type 0
Sat = Me (Unit {0}) View

abbrev pub Play : Type 1
Play = Step (Unit {0}) → Sat → ℕ → Sat → Type 0

abbrev pub no_plan : Plan
no_plan = record { base = 0; sleepers = 0; sizes = record { lanes = 0; workers = 0; capacity = 0 } }

abbrev pub lane_in : List LaneRecord → LaneRecord
lane_in [] = fresh_lane 0 0
lane_in (r ∷ rs) = r

abbrev pub worker_in : List WorkerRecord → WorkerRecord
worker_in [] = fresh_worker no_plan 0
worker_in (r ∷ rs) = r

abbrev pub closer_in : List CloserRecord → CloserRecord
closer_in [] = closer no_plan []
closer_in (r ∷ rs) = r

abbrev pub number_in : Option ℕ → ℕ
number_in (Some number) = number
number_in None = 0

-- the counts at which the closer closed the lanes
abbrev pub counts_in : Sat → List ℕ
counts_in m = map number_in (closer_in m.0.closers).closed

-- ---- the seats of members

abbrev pub IsLaneSeat : Sat → Type 0
IsLaneSeat m = m ≡ (lane_view (lane_in m.0.lanes), [])

-- the record of the lane with this number, when the producer last saw this number of jobs taken
pub record IsLane (plan : Plan) (number seen : ℕ) (m : Sat) : Type 0 where
  pub seat : IsLaneSeat m
  pub number_is : (lane_in m.0.lanes).number ≡ number
  pub within : number < plan.sizes.lanes
  pub capacity_is : (lane_in m.0.lanes).capacity ≡ plan.sizes.capacity
  pub seen_is : (lane_in m.0.lanes).seen ≡ seen

abbrev pub IsWorkerSeat : Sat → Type 0
IsWorkerSeat m = m ≡ (worker_view (worker_in m.0.workers), [])

-- the record of the worker with this number, which last saw these counts of accepted jobs
pub record IsWorker (plan : Plan) (number : ℕ) (tails : List ℕ) (m : Sat) : Type 0 where
  pub seat : IsWorkerSeat m
  pub number_is : (worker_in m.0.workers).number ≡ number
  pub plan_is : (worker_in m.0.workers).plan ≡ plan
  pub long : length (worker_in m.0.workers).lanes ≡ plan.sizes.lanes
  pub tails_are : tails ≡ map (λ (t : TakeRecord). t.tail) (worker_in m.0.workers).lanes

abbrev pub IsCloserSeat : Sat → Type 0
IsCloserSeat m = m ≡ (closer_view (closer_in m.0.closers), [])

-- all lanes are closed, at these counts
abbrev pub has_closed : Plan → List ℕ → CloserRecord
has_closed plan counts = closer plan (map Some counts)

-- the closer has closed as many lanes, in order, as there are counts
abbrev pub has_closed_some : Plan → List ℕ → CloserRecord
has_closed_some plan counts =
    closer plan (map Some counts ++ replicate (plan.sizes.lanes - length counts) None)

abbrev pub IsClosing : Plan → List ℕ → Sat → Type 0
IsClosing plan counts m = m ≡ (closer_view (has_closed_some plan counts), [])

-- the closer has closed this number of lanes, at counts with this sum
pub record ClosesLanes (plan : Plan) (lane total : ℕ) (m : Sat) : Type 0 where
  pub counts : List ℕ
  pub long : length counts ≡ lane
  pub seat : IsClosing plan counts m
  pub sum_is : total ≡ min (sum counts) (2 ^ 64 - 1)

abbrev pub IsNoteSeat : Plan → Sat → Type 0
IsNoteSeat plan m = m ≡ (closer_view (has_closed plan (counts_in m)), [])

-- The seat of the members. It has the records of all lanes and workers from these on, and that of
-- the closer.
abbrev pub members_view : Plan → ℕ → ℕ → View
members_view plan lane worker =
    view (numbered_from (fresh_lane plan.sizes.capacity) lane (plan.sizes.lanes - lane)) (numbered_from (fresh_worker plan) worker (plan.sizes.workers - worker)) (fresh_closer plan ∷ [])

abbrev pub IsMembersSeat : Plan → ℕ → ℕ → Sat → Type 0
IsMembersSeat plan lane worker m = m ≡ (members_view plan lane worker, [])

abbrev pub IsEndSeat : Plan → Sat → Type 0
IsEndSeat plan m = m ≡ (view m.0.lanes m.0.workers (has_closed plan (counts_in m) ∷ []), [])

-- ---- the seat of a producer after a step

abbrev pub IsLaneNow : Sat → LaneRecord → Type 0
IsLaneNow m r = m ≡ (lane_view r, [])

abbrev pub reads_count_at : Play
reads_count_at st m found n =
    let r = lane_in m.0.lanes in
    (found < CLOSED → IsLaneNow n (after_count r) × (found ≡ length r.accepted))
    × (CLOSED ≤ found → IsLaneNow n (after_refusal (found - CLOSED) r))

abbrev pub looks_at : Play
looks_at st m found n =
    let r = lane_in m.0.lanes in
    (found ≤ length r.accepted)
    × (length r.accepted ≤ found + r.capacity)
    × (length r.accepted ≡ found + r.capacity → IsLaneNow n (after_full found r))
    × (length r.accepted < found + r.capacity → IsLaneNow n (after_room found r))

abbrev pub puts_payload_at : Play
puts_payload_at st m found n = IsLaneNow n (after_payload found (lane_in m.0.lanes))

abbrev pub puts_dim_at : Play
puts_dim_at st m found n = IsLaneNow n (after_dim found (lane_in m.0.lanes))

abbrev pub accepts_at : Play
accepts_at st m found n =
    let r = lane_in m.0.lanes in
    (found ≡ st.first → IsLaneNow n (after_accept (number_in r.payload) (number_in r.dim) r))
    × (found ≢ st.first → (CLOSED ≤ found) × IsLaneNow n (after_refusal (found - CLOSED) r))

-- ---- the seat of the closer after a step

abbrev pub closes_at : Play
closes_at st m found n =
    let r = closer_in m.0.closers in
    (found < CLOSED) × (n ≡ (closer_view (closer r.plan (slice_set r.closed (lane_of r.plan st.word) (Some found))), []))

-- ---- the seat of a worker after a step

-- the lane that has the word
abbrev pub lane_stepped : Step (Unit {0}) → Sat → ℕ
lane_stepped st m = lane_of (worker_in m.0.workers).plan st.word

-- what the worker did in this lane is now this
abbrev pub IsTakeNow : ℕ → Sat → Sat → (TakeRecord → TakeRecord) → Type 0
IsTakeNow l m n after =
    let r = worker_in m.0.workers in
    n ≡ (worker_view (with_take l (after (take_of l r)) r), [])

abbrev pub reads_head_at : Play
reads_head_at st m found n = IsTakeNow (lane_stepped st m) m n (after_head found)

-- the count without the mark
abbrev pub FindsCount : ℕ → Sat → Sat → ℕ → Bool → Type 0
FindsCount l m n count closed =
    let r = take_of l (worker_in m.0.workers) in
    (r.head ≤ count) × (count ≡ r.head → IsTakeNow l m n (after_empty count closed)) × (r.head < count → IsTakeNow l m n (after_tail count))

abbrev pub FindsTail : ℕ → Sat → ℕ → Sat → Type 0
FindsTail l m found n =
    (found < CLOSED → FindsCount l m n found false)
    × (CLOSED ≤ found → FindsCount l m n (found - CLOSED) true)

abbrev pub reads_tail_at : Play
reads_tail_at st m found n = FindsTail (lane_stepped st m) m found n

abbrev pub reads_payload_at : Play
reads_payload_at st m found n = IsTakeNow (lane_stepped st m) m n (after_cell found)

abbrev pub reads_dim_at : Play
reads_dim_at st m found n = IsTakeNow (lane_stepped st m) m n (after_dim_cell (found % 2 ^ 32))

abbrev pub TakesAt : ℕ → ℕ → Sat → ℕ → Sat → Type 0
TakesAt l expected m found n =
    let r = take_of l (worker_in m.0.workers) in
    (found ≡ expected → IsTakeNow l m n (after_take (number_in r.payload) (number_in r.dim)))
    × (found ≢ expected → IsTakeNow l m n after_loss)

abbrev pub takes_at : Play
takes_at st m found n = TakesAt (lane_stepped st m) st.first m found n

-- the first word of a lane has this count, with the mark or without
abbrev pub HasMark : ℕ → ℕ → Bool → Type 0
HasMark found count true = (CLOSED ≤ found) × (count ≡ found - CLOSED)
HasMark found count false = (found < CLOSED) × (count ≡ found)
