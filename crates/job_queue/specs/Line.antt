-- Which queue it is, and what a call changes in the record of the lane or pass that makes it.
use Rattle.std.specs.Prelude.{◌≡◌, ℕ, ◌⊎◌, List, [], ◌∷◌, ◌++◌, Option, None, length}
use Rattle.atomic_table.specs.Seated.{TableId}
use Rattle.job_types.specs.Job.{JobData}
use Rattle.job_types.specs.declared.reply.JobId.{JobId}
use Rattle.job_queue.specs.declared.job_line.Sizes.{Sizes}
use Rattle.job_queue.specs.declared.job_line.Refused.{Refused}
use Rattle.job_queue.specs.declared.job_line.Refused.TheVariants.{Closed, Full, LaneSpent}
use Rattle.job_queue.specs.declared.job_line.Taken.{Taken}
use Rattle.job_queue.specs.declared.job_line.Taken.TheVariants.{Job, EmptyNow, Ended}
use Rattle.job_queue.specs.declared.record.QueuedJob.{QueuedJob}
use Rattle.job_queue.specs.declared.record.LaneRecord.{LaneRecord}
use Rattle.job_queue.specs.declared.record.Reading.{Reading}
use Rattle.job_queue.specs.Record.{job_id, queued, entry, accepted, Seals}

-- The identity of a queue: the tables of its atomic steps, and its sizes.
pub record LineId : Type 0 where
  pub tables : List TableId
  pub sizes : Sizes

-- The job was made for this machine and this lane.
abbrev pub IsFor : ℕ → ℕ → JobData → Type 0
IsFor machine lane job = (job.machine ≡ machine) × (job.lane ≡ lane)

-- The job was made for this machine, and for the lane of its id.
abbrev pub IsMadeFor : ℕ → QueuedJob → Type 0
IsMadeFor machine q = IsFor machine q.id.lane q.job

-- The id that the lane's next accepted job gets.
abbrev pub next_id : LaneRecord → JobId
next_id lane = job_id lane.number (length (accepted lane.entries))

-- The lane's record gains one entry, and nothing else changes.
abbrev pub GainsEntry : LaneRecord → ℕ → Option QueuedJob → LaneRecord → Type 0
GainsEntry old number job new = new ≡ record old { entries = old.entries ++ entry number job ∷ [] }

-- What a refusal adds to the lane's record. `Closed` adds a count that was read with the closed
-- mark, `Full` adds an entry without a job, and `LaneSpent` adds nothing.
abbrev pub GainsRefusal : LaneRecord → Refused → LaneRecord → Type 0
GainsRefusal old (Closed seen) new = new ≡ record old { seen = old.seen ++ seen ∷ [] }
GainsRefusal old Full new = (number : ℕ) × GainsEntry old number None new
GainsRefusal old LaneSpent new = new ≡ old

-- The jobs that a take returned: one or none.
abbrev pub taken_by : {E : Type 0} → Taken E → List QueuedJob
taken_by (Job id job) = queued id job ∷ []
taken_by EmptyNow = []
taken_by (Ended end) = []

-- What a take adds to the readings of its pass. A take that found no job adds one reading, and
-- returns `Ended` exactly if that reading seals the queue. A take that returned a job adds none, or
-- one that seals the queue. Its clauses do not say that an ended queue was found empty after that
-- reading. The value in `Ended` (`RuledEnd`, `LockedEnd`) carries this: only such a pop makes one.
abbrev pub GainsReading : {E : Type 0} → List Reading → Taken E → List Reading → Type 0
GainsReading old (Job id job) new = (new ≡ old) ⊎ ((r : Reading) × (new ≡ old ++ r ∷ []) × Seals r)
GainsReading old EmptyNow new = (r : Reading) × (new ≡ old ++ r ∷ []) × ¬ Seals r
GainsReading old (Ended end) new = (r : Reading) × (new ≡ old ++ r ∷ []) × Seals r

-- A job that was taken was made for this machine.
abbrev pub TakesMadeFor : {E : Type 0} → ℕ → Taken E → Type 0
TakesMadeFor machine (Job id job) = IsMadeFor machine (queued id job)
TakesMadeFor machine EmptyNow = Unit {0}
TakesMadeFor machine (Ended end) = Unit {0}
