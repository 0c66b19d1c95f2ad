-- What the steps of a seat on a locked queue's table do: the step, the seat before, the number
-- found and the seat after.
use Rattle.std.specs.Prelude.{◌≡◌, ℕ, ◌+◌, ◌*◌, ◌<◌, ◌≤◌, Bool, true, false, Option, Some, None, List, [], ◌∷◌, ◌++◌, length, slice_index, slice_set}
use Rattle.std.specs.List.{AllByRecursion as Each}
use Rattle.atomic_table.specs.Table.{Me}
use Rattle.locked_peers.specs.Cell.{IsIdle as IsIdleSeat, Took as TookValue}
use Rattle.cube_shape.specs.declared.limits.TheConstants.{MAX_ENTRIES, MAX_LANES}
use Rattle.job_queue.specs.declared.job_line.Sizes.{Sizes}
use Rattle.job_queue.specs.declared.record.QueuedJob.{QueuedJob}
use Rattle.job_queue.specs.declared.record.LaneRecord.{LaneRecord}
use Rattle.job_queue.specs.declared.record.PassRecord.{PassRecord}
use Rattle.locked_peers.specs.declared.store.Store.{Store}
use Rattle.locked_peers.specs.declared.line_view.View.{View}
use Rattle.job_queue.specs.Record.{accepted, entry, job_id, fresh_lane, fresh_pass, IsSettled}
use Rattle.job_queue.specs.Line.{IsMadeFor}
use Rattle.locked_peers.specs.InnerLine.View.{reading, lane_view, pass_view, closer_view, holding, members, found_in, KeepsMark}

-- What a seat of a locked queue knows.
abbrev pub Sat : Type 0
Sat = Me Store View

-- The seat of a member that is in no call.
abbrev pub IsIdle : Sat → Type 0
IsIdle = IsIdleSeat found_in members

-- What a seat learns of the state that it takes.
pub record Knows (v : View) (x : Store) : Type 0 where
  pub entries : x.entries ≤ MAX_LANES * MAX_ENTRIES
  pub lane_count : length x.accepted.items ≡ v.about.lanes
  pub lanes : Each (λ r. slice_index x.accepted.items r.number ≡ length (accepted r.entries))
      v.lanes
  pub made_for : Each (IsMadeFor v.about.machine) x.jobs.items

-- The seat has taken the slot, with the state that it found.
abbrev pub Took : Sat → Sat → Type 0
Took = TookValue holding Knows

-- ---- what the seat has and found, read from its view and its slot

-- The first of these lane records.
abbrev pub lane_in : List LaneRecord → LaneRecord
lane_in [] = fresh_lane 0
lane_in (r ∷ rs) = r

-- The first of these pass records.
abbrev pub pass_in : List PassRecord → PassRecord
pass_in [] = fresh_pass 0
pass_in (r ∷ rs) = r

-- The count of entries of a state, or 0.
abbrev pub entries_of : Option Store → ℕ
entries_of (Some x) = x.entries
entries_of None = 0

-- The jobs of a state, or none.
abbrev pub jobs_of : Option Store → List QueuedJob
jobs_of (Some x) = x.jobs.items
jobs_of None = []

-- Whether a state is closed.
abbrev pub mark_of : Option Store → Bool
mark_of (Some x) = x.closed
mark_of None = false

-- The jobs of the first state that a seat has taken.
abbrev pub jobs_held : List (ℕ × Store) → List QueuedJob
jobs_held [] = []
jobs_held (slot ∷ slots) = slot.1.jobs.items

-- The last of these jobs, if there is one.
abbrev pub last_of : List QueuedJob → Option QueuedJob
last_of [] = None
last_of (job ∷ []) = Some job
last_of (job ∷ next ∷ jobs) = last_of (next ∷ jobs)

-- The first of these jobs, if there is one.
abbrev pub front_of : List QueuedJob → List QueuedJob
front_of [] = []
front_of (job ∷ jobs) = job ∷ []

-- ---- the seat gives the slot back, and its record gains what its call did

-- The seat of a lane after an entry with its job.
abbrev pub after_entry : Sat → Sat
after_entry m = (
  lane_view m.0.about (record (lane_in m.0.lanes) {
    entries = (lane_in m.0.lanes).entries
        ++ entry (entries_of m.0.found) (last_of (jobs_held m.1)) ∷ [];
  }),
  [],
)

-- The seat of a lane after an entry that found the queue full.
abbrev pub after_full_entry : Sat → Sat
after_full_entry m = (
  lane_view m.0.about (record (lane_in m.0.lanes)
      { entries = (lane_in m.0.lanes).entries ++ entry (entries_of m.0.found) None ∷ [] }),
  [],
)

-- The seat of a lane after it found the queue closed.
abbrev pub after_seen : Sat → Sat
after_seen m = (
  lane_view m.0.about (record (lane_in m.0.lanes)
      { seen = (lane_in m.0.lanes).seen ++ entries_of m.0.found ∷ [] }),
  [],
)

-- The seat of a pass after it took the job at the front.
abbrev pub after_taken : Sat → Sat
after_taken m = (
  pass_view m.0.about (record (pass_in m.0.passes)
      { taken = (pass_in m.0.passes).taken ++ front_of (jobs_of m.0.found) }),
  [],
)

-- The seat of a pass after it found the queue empty.
abbrev pub after_reading : Sat → Sat
after_reading m = (
  pass_view m.0.about (record (pass_in m.0.passes) {
    readings = (pass_in m.0.passes).readings
        ++ reading (entries_of m.0.found) (entries_of m.0.found) (mark_of m.0.found) ∷ [];
  }),
  [],
)

-- The seat of the closer after the close.
abbrev pub after_close : Sat → Sat
after_close m = (closer_view m.0.about (Some (entries_of m.0.found)), [])

-- ---- what each step needs of the state `x` that was found and the state `y` that is given back

-- The seat of a lane that found the state `x` and is to give back the state `y`.
abbrev pub IsLaneOut : Sat → LaneRecord → Store → Store → Type 0
IsLaneOut m r x y = m ≡ (holding (lane_view m.0.about r) x, (0, y) ∷ [])

-- The seat of a pass that found the state `x` and is to give back the state `y`.
abbrev pub IsPassOut : Sat → PassRecord → Store → Store → Type 0
IsPassOut m r x y = m ≡ (holding (pass_view m.0.about r) x, (0, y) ∷ [])

-- The seat of the closer that found the state `x` and is to give back the state `y`.
abbrev pub IsCloserOut : Sat → Store → Store → Type 0
IsCloserOut m x y = m ≡ (holding (closer_view m.0.about None) x, (0, y) ∷ [])

-- The state `y` is `x` after an entry of the lane whose job came in.
pub record Accepts (about : Sizes) (r : LaneRecord) (x : Store) (job : QueuedJob)
    (y : Store) : Type 0 where
  pub open_line : x.closed ≡ false
  pub unspent : length r.entries < MAX_ENTRIES
  pub room : length x.jobs.items < x.capacity
  pub id : job.id ≡ job_id r.number (slice_index x.accepted.items r.number)
  pub made_for : IsMadeFor about.machine job
  pub jobs : y.jobs.items ≡ x.jobs.items ++ job ∷ []
  pub accepted_by : y.accepted.items ≡ slice_set x.accepted.items r.number
      (slice_index x.accepted.items r.number + 1)
  pub entries : y.entries ≡ x.entries + 1
  pub mark : KeepsMark x y

-- The state `y` is `x` after an entry of the lane that found it full.
pub record Fills (r : LaneRecord) (x y : Store) : Type 0 where
  pub open_line : x.closed ≡ false
  pub unspent : length r.entries < MAX_ENTRIES
  pub full : x.capacity ≤ length x.jobs.items
  pub jobs : y.jobs.items ≡ x.jobs.items
  pub accepted_by : y.accepted.items ≡ x.accepted.items
  pub entries : y.entries ≡ x.entries + 1
  pub mark : KeepsMark x y

-- The state `y` is `x` after the job at the front was taken.
pub record Hands (x : Store) (job : QueuedJob) (y : Store) : Type 0 where
  pub jobs : x.jobs.items ≡ job ∷ y.jobs.items
  pub accepted_by : y.accepted.items ≡ x.accepted.items
  pub entries : y.entries ≡ x.entries
  pub mark : KeepsMark x y

-- The state `y` is `x`.
pub record Same (x y : Store) : Type 0 where
  pub jobs : y.jobs.items ≡ x.jobs.items
  pub accepted_by : y.accepted.items ≡ x.accepted.items
  pub entries : y.entries ≡ x.entries
  pub mark : KeepsMark x y

-- The state `y` is `x` after the close.
pub record Closes (x y : Store) : Type 0 where
  pub jobs : y.jobs.items ≡ x.jobs.items
  pub accepted_by : y.accepted.items ≡ x.accepted.items
  pub entries : y.entries ≡ x.entries
  pub closed : y.closed ≡ true
  pub capacity : y.capacity ≡ x.capacity

-- ---- the seats of members

-- The seat of a lane in no call, with this number and this count of entries.
pub record IsLaneSeat (m : Sat) (number entries : ℕ) : Type 0 where
  pub alone : m ≡ (lane_view m.0.about (lane_in m.0.lanes), [])
  pub numbered : (lane_in m.0.lanes).number ≡ number
  pub counted : length (lane_in m.0.lanes).entries ≡ entries
  pub settled : IsSettled (lane_in m.0.lanes)
  pub within : number < m.0.about.lanes
