-- The history of a lane: the atomic steps in it of its producer, the workers and the closer in one
-- order, newest first.
use Rattle.std.specs.Prelude.{◌≡◌, ℕ, ◌+◌, ◌<◌, ◌^◌, Bool, true, false, cond, Option, Some, None, List, [], ◌∷◌, ◌==◌}
use Rattle.ghost_history.specs.History.{part, Legal}
use Rattle.lanes.specs.declared.record.LaneJob.{LaneJob}
use Rattle.lanes.specs.declared.record.LaneRecord.{LaneRecord}
use Rattle.lanes.specs.declared.record.TakeRecord.{TakeRecord}
use Rattle.lanes.specs.declared.sizes.TheConstants.{MAX_JOBS}
use Rattle.lanes.specs.declared.sizes.Sizes.{Sizes}
use Rattle.lanes.specs.Record.{job, fresh_lane, fresh_take, after_count, after_full, after_room, after_payload, after_dim, after_accept, after_refusal, after_head, after_empty, after_tail, after_cell, after_dim_cell, after_take, after_loss}

-- A step of the producer.
pub data LaneAct : Type 0 where
  -- It read the count of accepted jobs, with no mark.
  reads_count : ℕ → LaneAct
  -- It found the lane full, when this number of jobs was taken.
  finds_full : ℕ → LaneAct
  -- It found room, when this number of jobs was taken.
  finds_room : ℕ → LaneAct
  -- It put the payload in the cell of its next job.
  puts_payload : ℕ → LaneAct
  -- It put the dimension in the cell of its next job.
  puts_dim : ℕ → LaneAct
  -- That job was accepted, with this payload and this dimension.
  accepts : ℕ → ℕ → LaneAct
  -- It found the closed mark beside this count.
  finds_closed : ℕ → LaneAct

-- A step of a worker.
pub data TakeAct : Type 0 where
  -- It read how many jobs were taken.
  reads_head : ℕ → TakeAct
  -- It found as many accepted, and whether the closed mark was there.
  finds_none : ℕ → Bool → TakeAct
  -- It found more accepted.
  finds_some : ℕ → TakeAct
  -- It read the cell for the payload of the job at its head.
  reads_payload : ℕ → TakeAct
  -- It read the cell for the dimension of that job.
  reads_dim : ℕ → TakeAct
  -- It took that job, with this payload and this dimension.
  takes : ℕ → ℕ → TakeAct
  -- It found that another had taken that job.
  loses : TakeAct

-- A step of the producer, of the worker with this number, or of the closer.
pub data Deed : Type 0 where
  by_lane : LaneAct → Deed
  by_worker : ℕ → TakeAct → Deed
  -- The closer closed the lane at this count of jobs.
  closes : ℕ → Deed

-- ---- the lane after a history

-- The number of accepted jobs, after an act of the producer.
abbrev pub count_after : LaneAct → ℕ → ℕ
count_after (reads_count n) count = count
count_after (finds_full n) count = count
count_after (finds_room n) count = count
count_after (puts_payload p) count = count
count_after (puts_dim d) count = count
count_after (accepts p d) count = count + 1
count_after (finds_closed n) count = count

-- The number of accepted jobs.
abbrev pub count : List Deed → ℕ
count [] = 0
count (by_lane a ∷ h) = count_after a (count h)
count (by_worker k a ∷ h) = count h
count (closes n ∷ h) = count h

-- The number of taken jobs, after an act of a worker.
abbrev pub taken_after : TakeAct → ℕ → ℕ
taken_after (reads_head n) taken = taken
taken_after (finds_none n closed) taken = taken
taken_after (finds_some n) taken = taken
taken_after (reads_payload p) taken = taken
taken_after (reads_dim d) taken = taken
taken_after (takes p d) taken = taken + 1
taken_after loses taken = taken

-- The number of taken jobs.
abbrev pub taken : List Deed → ℕ
taken [] = 0
taken (by_lane a ∷ h) = taken h
taken (by_worker k a ∷ h) = taken_after a (taken h)
taken (closes n ∷ h) = taken h

-- The number of jobs whose payload has been in a cell, after an act of the producer.
abbrev pub filled_after : LaneAct → ℕ → ℕ → ℕ
filled_after (reads_count n) count filled = filled
filled_after (finds_full n) count filled = filled
filled_after (finds_room n) count filled = filled
filled_after (puts_payload p) count filled = count + 1
filled_after (puts_dim d) count filled = filled
filled_after (accepts p d) count filled = filled
filled_after (finds_closed n) count filled = filled

-- The number of jobs whose payload has been in a cell. It is one more than the count of accepted
-- jobs once the next job's payload is there.
abbrev pub filled : List Deed → ℕ
filled [] = 0
filled (by_lane a ∷ h) = filled_after a (count h) (filled h)
filled (by_worker k a ∷ h) = filled h
filled (closes n ∷ h) = filled h

-- The number of jobs whose dimension has been in a cell, after an act of the producer.
abbrev pub dims_after : LaneAct → ℕ → ℕ → ℕ
dims_after (reads_count n) count filled = filled
dims_after (finds_full n) count filled = filled
dims_after (finds_room n) count filled = filled
dims_after (puts_payload p) count filled = filled
dims_after (puts_dim d) count filled = count + 1
dims_after (accepts p d) count filled = filled
dims_after (finds_closed n) count filled = filled

-- The number of jobs whose dimension has been in a cell.
abbrev pub filled_dims : List Deed → ℕ
filled_dims [] = 0
filled_dims (by_lane a ∷ h) = dims_after a (count h) (filled_dims h)
filled_dims (by_worker k a ∷ h) = filled_dims h
filled_dims (closes n ∷ h) = filled_dims h

-- The payload of the job with the number `i`, after an act of the producer.
abbrev pub payload_after : LaneAct → ℕ → ℕ → ℕ → ℕ
payload_after (reads_count n) count i payload = payload
payload_after (finds_full n) count i payload = payload
payload_after (finds_room n) count i payload = payload
payload_after (puts_payload p) count i payload = cond (i == count) p payload
payload_after (puts_dim d) count i payload = payload
payload_after (accepts p d) count i payload = payload
payload_after (finds_closed n) count i payload = payload

-- The payload of the job with the number `i`.
abbrev pub payload_of : List Deed → ℕ → ℕ
payload_of [] i = 0
payload_of (by_lane a ∷ h) i = payload_after a (count h) i (payload_of h i)
payload_of (by_worker k a ∷ h) i = payload_of h i
payload_of (closes n ∷ h) i = payload_of h i

-- The dimension of the job with the number `i`, after an act of the producer.
abbrev pub dim_after : LaneAct → ℕ → ℕ → ℕ → ℕ
dim_after (reads_count n) count i dim = dim
dim_after (finds_full n) count i dim = dim
dim_after (finds_room n) count i dim = dim
dim_after (puts_payload p) count i dim = dim
dim_after (puts_dim d) count i dim = cond (i == count) d dim
dim_after (accepts p d) count i dim = dim
dim_after (finds_closed n) count i dim = dim

-- The dimension of the job with the number `i`.
abbrev pub dim_of : List Deed → ℕ → ℕ
dim_of [] i = 0
dim_of (by_lane a ∷ h) i = dim_after a (count h) i (dim_of h i)
dim_of (by_worker k a ∷ h) i = dim_of h i
dim_of (closes n ∷ h) i = dim_of h i

-- The job with this number.
abbrev pub job_of : List Deed → ℕ → LaneJob
job_of h i = job i (payload_of h i) (dim_of h i)

-- Where the lane was closed: the count of accepted jobs.
abbrev pub closed_at : List Deed → Option ℕ
closed_at [] = None
closed_at (by_lane a ∷ h) = closed_at h
closed_at (by_worker k a ∷ h) = closed_at h
closed_at (closes n ∷ h) = Some n

-- Whether the closed mark is there.
abbrev pub is_shut : List Deed → Bool
is_shut [] = false
is_shut (by_lane a ∷ h) = is_shut h
is_shut (by_worker k a ∷ h) = is_shut h
is_shut (closes n ∷ h) = true

-- ---- the records that a history makes

-- What an act of the producer makes of its record.
abbrev pub lane_after : LaneAct → LaneRecord → LaneRecord
lane_after (reads_count n) r = after_count r
lane_after (finds_full n) r = after_full n r
lane_after (finds_room n) r = after_room n r
lane_after (puts_payload p) r = after_payload p r
lane_after (puts_dim d) r = after_dim d r
lane_after (accepts p d) r = after_accept p d r
lane_after (finds_closed n) r = after_refusal n r

-- The record of the producer of the lane with this number.
abbrev pub lane_part : ℕ → ℕ → List Deed → LaneRecord
lane_part capacity number [] = fresh_lane capacity number
lane_part capacity number (by_lane a ∷ h) = lane_after a (lane_part capacity number h)
lane_part capacity number (by_worker k a ∷ h) = lane_part capacity number h
lane_part capacity number (closes n ∷ h) = lane_part capacity number h

-- What an act of a worker makes of its record of the lane.
abbrev pub take_after : TakeAct → TakeRecord → TakeRecord
take_after (reads_head n) r = after_head n r
take_after (finds_none n closed) r = after_empty n closed r
take_after (finds_some n) r = after_tail n r
take_after (reads_payload p) r = after_cell p r
take_after (reads_dim d) r = after_dim_cell d r
take_after (takes p d) r = after_take p d r
take_after loses r = after_loss r

-- Whether the deed is of the worker with this number.
abbrev pub is_by_worker : Deed → ℕ → Bool
is_by_worker (by_lane a) k = false
is_by_worker (by_worker j a) k = j == k
is_by_worker (closes n) k = false

-- What a deed of a worker makes of its record of the lane.
abbrev pub take_deed : Deed → TakeRecord → TakeRecord
take_deed (by_lane a) r = r
take_deed (by_worker j a) r = take_after a r
take_deed (closes n) r = r

-- The record of the worker with this number in the lane.
abbrev pub take_part : List Deed → ℕ → TakeRecord
take_part = part is_by_worker take_deed (λ _. fresh_take)

-- ---- which deeds a history allows

-- The producer finds the lane full exactly where as many jobs as its capacity are accepted and not
-- taken. It puts a job in its cells where it has found room since. What it put last is accepted,
-- before the close.
abbrev pub LaneMay : List Deed → LaneRecord → LaneAct → Type 0
LaneMay h r (reads_count n) = (n ≡ count h) × (is_shut h ≡ false)
LaneMay h r (finds_full n) = (n ≡ taken h) × (count h ≡ n + r.capacity)
LaneMay h r (finds_room n) = (n ≡ taken h) × (count h < n + r.capacity)
LaneMay h r (puts_payload p) = count h < r.seen + r.capacity
LaneMay h r (puts_dim d) = (count h < r.seen + r.capacity) × (d < 2 ^ 32)
LaneMay h r (accepts p d) =
    (r.payload ≡ Some p) × (r.dim ≡ Some d) × (is_shut h ≡ false) × (count h < MAX_JOBS)
LaneMay h r (finds_closed n) = (n ≡ count h) × (is_shut h ≡ true)

-- A worker finds no job exactly where all that were accepted are taken. It takes the job at the
-- head, with the payload and the dimension that the producer put there. It loses only a job that is
-- taken.
abbrev pub TakeMay : List Deed → TakeRecord → TakeAct → Type 0
TakeMay h r (reads_head n) = n ≡ taken h
TakeMay h r (finds_none n closed) = (n ≡ count h) × (n ≡ taken h) × (closed ≡ is_shut h)
TakeMay h r (finds_some n) = (n ≡ count h) × (r.head < n)
TakeMay h r (reads_payload p) = (r.head < r.tail) × (taken h ≡ r.head → payload_of h r.head ≡ p)
TakeMay h r (reads_dim d) = (r.head < r.tail) × (taken h ≡ r.head → dim_of h r.head ≡ d)
TakeMay h r (takes p d) =
    (taken h ≡ r.head) × (r.payload ≡ Some p) × (r.dim ≡ Some d) × (r.head < count h)
    × (payload_of h r.head ≡ p) × (dim_of h r.head ≡ d)
TakeMay h r loses = r.head < taken h

-- Whether the lane with this number may make this step after this history.
abbrev pub May : Sizes → ℕ → List Deed → Deed → Type 0
May sizes number h (by_lane a) = LaneMay h (lane_part sizes.capacity number h) a
May sizes number h (by_worker k a) = (k < sizes.workers) × TakeMay h (take_part h k) a
May sizes number h (closes n) = (n ≡ count h) × (is_shut h ≡ false)

-- Each step was allowed after the history before it.
abbrev pub IsLegal : Sizes → ℕ → List Deed → Type 0
IsLegal sizes number h = Legal (May sizes number) h
