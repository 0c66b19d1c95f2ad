-- The lanes and what their callers hold, as contracts see them, and what a call does to the record
-- of its caller.
use Rattle.std.specs.Prelude.{◌≡◌, ℕ, ◌+◌, ◌<◌, ◌≤◌, ◌-◌, ◌⊎◌, true, false, cond, nat_lt, List, ◌∷◌, [], ◌++◌, length}
use Rattle.atomic_table.specs.Seated.{TableId}
use Rattle.wake_calls.specs.declared.deed.WakeDeed.{WakeDeed}
use Rattle.lanes.specs.declared.sizes.Plan.{Plan}
use Rattle.lanes.specs.declared.sizes.TheConstants.{MAX_JOBS}
use Rattle.lanes.specs.declared.submits.Submitted.{Submitted}
use Rattle.lanes.specs.declared.submits.Submitted.TheVariants.{Accepted, Full, Closed, Spent}
use Rattle.lanes.specs.declared.takes.Taken.{Taken}
use Rattle.lanes.specs.declared.takes.Taken.TheVariants.{Job, Empty, Lost, Ended}
use Rattle.lanes.specs.declared.rounds.Looked.{Looked}
use Rattle.lanes.specs.declared.rounds.Looked.TheVariants.{Jobs, NoneLeft, AllTaken}
use Rattle.lanes.specs.declared.rounds.TakenAny.{TakenAny}
use Rattle.lanes.specs.declared.rounds.TakenAny.TheVariants.{AnyJob, NoJob, AllEnded}
use Rattle.lanes.specs.declared.record.LaneRecord.{LaneRecord}
use Rattle.lanes.specs.declared.record.TakeRecord.{TakeRecord}
use Rattle.lanes.specs.declared.record.WorkerRecord.{WorkerRecord}
use Rattle.lanes.specs.Record.{job, sight, take_of, with_take, after_head, after_empty, after_tail}

-- Which lanes they are: the table of their words, their sizes and their places.
pub record LanesId : Type 0 where
  pub table : TableId
  pub plan : Plan

-- The handles of new lanes: which lanes they are, and how many lanes and workers are dealt out.
pub record MembersOf : Type 0 where
  pub id : LanesId
  pub dealt_lanes : ℕ
  pub dealt_workers : ℕ

-- The handle of a producer: which lanes they are, and what it is known to have done.
pub record LaneOf : Type 0 where
  pub id : LanesId
  pub known : LaneRecord
  -- After an accepted job it has still to look at the words of sleepers from `next` on.
  pub next : ℕ
  -- The tokens that it gave, the latest first.
  pub deeds : List WakeDeed

-- The handle of a worker. It has what the worker did for other threads and with its calls, the
-- latest first.
pub record WorkerOf : Type 0 where
  pub id : LanesId
  pub known : WorkerRecord
  pub deeds : List WakeDeed

-- The handle of the closer.
pub record CloserOf : Type 0 where
  pub id : LanesId

-- The note of a close: the counts of accepted jobs at which the lanes were closed, in the order
-- of the lanes.
pub record NoteOf : Type 0 where
  pub id : LanesId
  pub counts : List ℕ

-- The handles that have come back, with the note.
pub record EndOf : Type 0 where
  pub id : LanesId
  pub lanes : List LaneRecord
  pub workers : List WorkerRecord
  pub counts : List ℕ

-- The number of atomic steps that a submit makes at most, and a take, and a look in one lane.
abbrev pub call_steps : ℕ
call_steps = 5

-- What stays the same in the record of a producer, whatever a submit returns.
pub record SubmitKeeps (old new : LaneRecord) : Type 0 where
  pub number : new.number ≡ old.number
  pub capacity : new.capacity ≡ old.capacity
  pub steps : new.steps ≤ old.steps + call_steps

-- What `submit` does to the producer's record. The job is accepted as the lane's next. Or the
-- producer found as many jobs accepted and not taken as the capacity. Or it found the closed mark.
-- Or the lane has no number left.
abbrev pub Submits : ℕ → ℕ → LaneRecord → Submitted → LaneRecord → Type 0
Submits payload dim old (Accepted seq) new =
    (seq ≡ length old.accepted) × (new.accepted ≡ old.accepted ++ job seq payload dim ∷ [])
    × (new.fulls ≡ old.fulls) × (new.refused ≡ old.refused)
Submits payload dim old Full new =
    (taken : ℕ) × (length old.accepted ≡ taken + old.capacity) × (new.accepted ≡ old.accepted)
    × (new.fulls ≡ old.fulls ++ taken ∷ []) × (new.refused ≡ old.refused)
Submits payload dim old Closed new =
    (count : ℕ) × (new.accepted ≡ old.accepted) × (new.fulls ≡ old.fulls)
    × (new.refused ≡ old.refused ++ count ∷ [])
Submits payload dim old Spent new =
    (MAX_JOBS ≤ length old.accepted) × (new.accepted ≡ old.accepted) × (new.fulls ≡ old.fulls)
    × (new.refused ≡ old.refused)

-- From which word of sleepers on the producer has to look after a submit: from the first, once the
-- job is accepted.
abbrev pub LooksNext : Submitted → ℕ → ℕ → Type 0
LooksNext (Accepted seq) old new = new ≡ 0
LooksNext Full old new = new ≡ old
LooksNext Closed old new = new ≡ old
LooksNext Spent old new = new ≡ old

-- What `take` does to the worker's record of the lane. It took the job at the head, and the lane
-- then had as many jobs left as are accepted and after it. Or another worker had taken that job. Or
-- as many jobs were taken as accepted, beside the closed mark or not.
abbrev pub Takes : TakeRecord → Taken → TakeRecord → Type 0
Takes old (Job j left) new =
    (new.taken ≡ old.taken ++ j ∷ []) × (new.tail ≡ j.seq + 1 + left) × (new.lost ≡ old.lost)
    × (new.empties ≡ old.empties)
Takes old Lost new =
    (seq : ℕ) × (new.taken ≡ old.taken) × (new.lost ≡ old.lost ++ seq ∷ [])
    × (new.empties ≡ old.empties)
Takes old Empty new =
    (count : ℕ) × (new.taken ≡ old.taken) × (new.lost ≡ old.lost)
    × (new.empties ≡ old.empties ++ sight count false ∷ [])
Takes old Ended new =
    (count : ℕ) × (new.taken ≡ old.taken) × (new.lost ≡ old.lost)
    × (new.empties ≡ old.empties ++ sight count true ∷ [])

-- What `look` does to the worker's record of the lane. It read how many jobs were taken. Then it
-- knew of more accepted jobs, by an earlier read or by one in this call. Or it read that no more
-- were accepted, beside the closed mark or not.
abbrev pub Looks : TakeRecord → Looked → TakeRecord → Type 0
Looks old (Jobs n) new =
    (0 < n) × (new.tail ≡ new.head + n)
    × ((new ≡ after_head new.head old) ⊎ (new ≡ after_tail new.tail (after_head new.head old)))
Looks old NoneLeft new = new ≡ after_empty new.head false (after_head new.head old)
Looks old AllTaken new = new ≡ after_empty new.head true (after_head new.head old)

-- A call changes nothing in the worker's record except what it did in this lane.
abbrev pub ChangesOnly : ℕ → WorkerRecord → WorkerRecord → Type 0
ChangesOnly lane old new = new ≡ with_take lane (take_of lane new) old

-- How many lanes are before this one, in a round of all lanes from `from` on.
abbrev pub distance : ℕ → ℕ → ℕ → ℕ
distance lanes from lane = cond (nat_lt lane from) ((lane + lanes) - from) (lane - from)

-- A take in the lane got no job.
abbrev pub Passes : TakeRecord → TakeRecord → Type 0
Passes old new = Takes old Empty new ⊎ Takes old Lost new ⊎ Takes old Ended new

-- What `take_any` does to the worker's record, from this lane on. It took the job at the head of
-- the first lane where it could, and got no job in the lanes before that one. Or it got none in any
-- lane, and not all of them had ended. Or all had ended.
abbrev pub TakesAny : ℕ → ℕ → WorkerRecord → TakenAny → WorkerRecord → Type 0
TakesAny lanes from old (AnyJob lane job left) new =
    (lane < lanes) × Takes (take_of lane old) (Job job left) (take_of lane new)
    × ((k : ℕ) → k < lanes → distance lanes from k < distance lanes from lane
    → Passes (take_of k old) (take_of k new))
    × ((k : ℕ) → k < lanes → distance lanes from lane < distance lanes from k
    → take_of k new ≡ take_of k old)
TakesAny lanes from old NoJob new = ((k : ℕ) → k < lanes → Passes (take_of k old) (take_of k new))
    × ((k : ℕ) × (k < lanes) × (Takes (take_of k old) Empty (take_of k new)
    ⊎ Takes (take_of k old) Lost (take_of k new)))
TakesAny lanes from old AllEnded new =
    (k : ℕ) → k < lanes → Takes (take_of k old) Ended (take_of k new)

-- What stays the same in the record of a worker, whatever `take_any` returns.
pub record TakeAnyKeeps (lanes : ℕ) (old new : WorkerRecord) : Type 0 where
  pub number : new.number ≡ old.number
  pub plan : new.plan ≡ old.plan
  pub long : length new.lanes ≡ length old.lanes
  pub steps : (k : ℕ) → k < lanes → (take_of k new).steps ≤ (take_of k old).steps + call_steps

-- The number of atomic steps that a worker makes at most when it looks at one lane.
abbrev pub look_steps : ℕ
look_steps = 2

-- A worker took no job in the lane, and made at most this number of atomic steps there.
abbrev pub TakesNothing : ℕ → TakeRecord → TakeRecord → Type 0
TakesNothing n old new = (new.taken ≡ old.taken) × (new.steps ≤ old.steps + n)
