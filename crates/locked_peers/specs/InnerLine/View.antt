-- The state of a locked queue, what work on it changes, and what seats know.
use Rattle.std.specs.Prelude.{◌≡◌, ℕ, ◌+◌, ◌<◌, ◌≤◌, Bool, true, false, Option, Some, None, Result, Ok, Err, List, [], ◌∷◌, ◌++◌, length, slice_index, slice_set, replicate}
use Rattle.ghost_history.specs.Lists.{first_of, rest_of, numbered_from}
use Rattle.job_types.specs.Job.{JobData}
use Rattle.job_queue.specs.declared.job_line.Sizes.{Sizes}
use Rattle.job_queue.specs.declared.job_line.Receipt.{Receipt}
use Rattle.job_queue.specs.declared.record.QueuedJob.{QueuedJob}
use Rattle.job_queue.specs.declared.record.LaneRecord.{LaneRecord}
use Rattle.job_queue.specs.declared.record.PassRecord.{PassRecord}
use Rattle.job_queue.specs.declared.record.Reading.{Reading}
use Rattle.locked_peers.specs.declared.store.Store.{Store}
use Rattle.locked_peers.specs.declared.store.SawFull.{SawFull}
use Rattle.locked_peers.specs.declared.store.SawEmpty.{SawEmpty}
use Rattle.locked_peers.specs.declared.line_view.View.{View}
use Rattle.locked_peers.specs.declared.line_view.CloserRecord.{CloserRecord}
use Rattle.job_queue.specs.Record.{job_id, queued, fresh_lane, fresh_pass}

-- The state of a new queue of these sizes.
abbrev pub IsEmptyStore : Sizes → Store → Type 0
IsEmptyStore sizes x =
    (x.jobs.items ≡ []) × (x.accepted.items ≡ replicate sizes.lanes 0) × (x.entries ≡ 0)
    × (x.closed ≡ false) × (x.capacity ≡ sizes.capacity)

-- The closed mark and the capacity stay.
abbrev pub KeepsMark : Store → Store → Type 0
KeepsMark x y = (y.closed ≡ x.closed) × (y.capacity ≡ x.capacity)

-- An entry of the lane: its job comes in, or the state is full.
abbrev pub Pushes : Store → ℕ → JobData → Result Receipt (JobData × SawFull) → Store → Type 0
Pushes x lane job (Ok receipt) y =
    (receipt.number ≡ x.entries) × (receipt.id ≡ job_id lane (slice_index x.accepted.items lane))
    × (length x.jobs.items < x.capacity)
    × (y.jobs.items ≡ x.jobs.items ++ queued receipt.id job ∷ [])
    × (y.accepted.items ≡ slice_set x.accepted.items lane (slice_index x.accepted.items lane + 1))
    × (y.entries ≡ x.entries + 1) × KeepsMark x y
Pushes x lane job (Err r) y =
    (r.0 ≡ job) × (x.capacity ≤ length x.jobs.items) × (y.jobs.items ≡ x.jobs.items)
    × (y.accepted.items ≡ x.accepted.items) × (y.entries ≡ x.entries + 1) × KeepsMark x y

-- The job at the front is taken, or there is none.
abbrev pub Pops : Store → Result QueuedJob SawEmpty → Store → Type 0
Pops x (Ok job) y =
    (x.jobs.items ≡ job ∷ y.jobs.items) × (y.accepted.items ≡ x.accepted.items)
    × (y.entries ≡ x.entries) × KeepsMark x y
Pops x (Err saw) y =
    (x.jobs.items ≡ []) × (y.jobs.items ≡ x.jobs.items) × (y.accepted.items ≡ x.accepted.items)
    × (y.entries ≡ x.entries) × KeepsMark x y

-- The closed mark is set, and nothing else changes. The number is the count of entries.
abbrev pub Shuts : Store → ℕ → Store → Type 0
Shuts x number y =
    (number ≡ x.entries) × (y.jobs.items ≡ x.jobs.items) × (y.accepted.items ≡ x.accepted.items)
    × (y.entries ≡ x.entries) × (y.closed ≡ true) × (y.capacity ≡ x.capacity)

-- The reading of a take that found the queue empty.
abbrev pub reading : ℕ → ℕ → Bool → Reading
reading settled counted closed = record { settled = settled; counted = counted; closed = closed }

-- ---- what a seat knows

-- What a seat knows: the sizes, the records of lanes, of passes and of closers, and the state that
-- it found.
abbrev pub view : Sizes
    → List LaneRecord
    → List PassRecord
    → List CloserRecord
    → Option Store
    → View
view about lanes passes closers found =
    record { about = about; lanes = lanes; passes = passes; closers = closers; found = found }

-- What the seat of a lane in no call knows.
abbrev pub lane_view : Sizes → LaneRecord → View
lane_view about r = view about (r ∷ []) [] [] None

-- What the seat of a pass in no call knows.
abbrev pub pass_view : Sizes → PassRecord → View
pass_view about r = view about [] (r ∷ []) [] None

-- What the seat of a closer in no call knows.
abbrev pub closer_view : Sizes → Option ℕ → View
closer_view about closed_at = view about [] [] (record { closed_at = closed_at } ∷ []) None

-- The same view, of a seat that has taken the slot and found this state.
abbrev pub holding : View → Store → View
holding v x = view v.about v.lanes v.passes v.closers (Some x)

-- The number of records in a view.
abbrev pub members : View → ℕ
members v = length v.lanes + length v.passes + length v.closers

-- The state that the seat found, if it has taken the slot.
abbrev pub found_in : View → Option Store
found_in v = v.found

-- ---- views are dealt out, and come together again

-- The fresh records of a number of lanes, counted from the first number.
abbrev pub lanes_from : ℕ → ℕ → List LaneRecord
lanes_from = numbered_from fresh_lane

-- The fresh records of a number of passes, counted from the first number.
abbrev pub passes_from : ℕ → ℕ → List PassRecord
passes_from = numbered_from fresh_pass

-- What the first seat knows: the records of all members.
abbrev pub first_view : Sizes → View
first_view sizes =
    view sizes (lanes_from 0 sizes.lanes) (passes_from 0 sizes.passes)
    (record { closed_at = None } ∷ []) None

-- What is left after the first lane's record was given out.
abbrev pub without_lane : View → View
without_lane v = view v.about (rest_of v.lanes) v.passes v.closers None

-- The first lane's record alone.
abbrev pub lane_alone : View → View
lane_alone v = view v.about (first_of v.lanes) [] [] None

-- What is left after the first pass's record was given out.
abbrev pub without_pass : View → View
without_pass v = view v.about v.lanes (rest_of v.passes) v.closers None

-- The first pass's record alone.
abbrev pub pass_alone : View → View
pass_alone v = view v.about [] (first_of v.passes) [] None

-- What two seats know together.
abbrev pub joined : View → View → View
joined v w =
    view v.about (v.lanes ++ w.lanes) (v.passes ++ w.passes) (v.closers ++ w.closers) v.found

-- What a seat knows after its records moved to another one: nothing.
abbrev pub spent_view : View
spent_view = view (record { machine = 0; lanes = 0; passes = 0; capacity = 0 }) [] [] [] None
