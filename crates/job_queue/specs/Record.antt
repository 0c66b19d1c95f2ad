-- The records of lanes and passes, and the jobs in them.
use Rattle.std.specs.Prelude.{◌≡◌, ℕ, zero, suc, ◌+◌, ◌<◌, false, true, Option, Some, None, List, [], ◌∷◌, ◌++◌, map}
use Rattle.std.specs.List.{AllByRecursion as Each}
use Rattle.job_types.specs.Job.{JobData}
use Rattle.job_types.specs.declared.reply.JobId.{JobId}
use Rattle.job_queue.specs.declared.record.QueuedJob.{QueuedJob}
use Rattle.job_queue.specs.declared.record.Entry.{Entry}
use Rattle.job_queue.specs.declared.record.LaneRecord.{LaneRecord}
use Rattle.job_queue.specs.declared.record.Reading.{Reading}
use Rattle.job_queue.specs.declared.record.PassRecord.{PassRecord}

-- The id of a job: its lane, and its number in that lane (seq).
abbrev pub job_id : ℕ → ℕ → JobId
job_id lane seq = record { lane = lane; seq = seq }

-- A job with its id.
abbrev pub queued : JobId → JobData → QueuedJob
queued id job = record { id = id; job = job }

-- An entry of a lane: its number, and the job that it brought in, if any.
abbrev pub entry : ℕ → Option QueuedJob → Entry
entry number job = record { number = number; job = job }

-- The record of a lane that has done nothing.
abbrev pub fresh_lane : ℕ → LaneRecord
fresh_lane number =
    record { number = number; entries = []; pending = None; late = false; seen = [] }

-- The record of a pass that has done nothing.
abbrev pub fresh_pass : ℕ → PassRecord
fresh_pass number = record { number = number; taken = []; readings = [] }

-- The fresh records of the lanes with numbers below a count, in order.
abbrev pub fresh_lanes : ℕ → List LaneRecord
fresh_lanes zero = []
fresh_lanes (suc count) = fresh_lanes count ++ fresh_lane count ∷ []

-- The fresh records of the passes with numbers below a count, in order.
abbrev pub fresh_passes : ℕ → List PassRecord
fresh_passes zero = []
fresh_passes (suc count) = fresh_passes count ++ fresh_pass count ∷ []

-- The job of an entry, if it has one, followed by these jobs.
abbrev pub accepted_with : Option QueuedJob → List QueuedJob → List QueuedJob
accepted_with (Some job) jobs = job ∷ jobs
accepted_with None jobs = jobs

-- The jobs that these entries brought in, in order.
abbrev pub accepted : List Entry → List QueuedJob
accepted [] = []
accepted (e ∷ entries) = accepted_with e.job (accepted entries)

-- The job without its id.
abbrev pub job_of : QueuedJob → JobData
job_of q = q.job

-- The accepted jobs of a lane, in order and without their ids.
abbrev pub accepted_jobs : LaneRecord → List JobData
accepted_jobs lane = map job_of (accepted lane.entries)

-- The lane has no unsettled entry, and no entry after the close that it has not undone.
abbrev pub IsSettled : LaneRecord → Type 0
IsSettled lane = (lane.pending ≡ None) × (lane.late ≡ false)

-- The jobs are consecutive jobs of one lane, in order: the first one has the number `seq`.
abbrev pub AreSeqs : ℕ → ℕ → List QueuedJob → Type 0
AreSeqs lane seq [] = Unit {0}
AreSeqs lane seq (job ∷ jobs) = (job.id ≡ job_id lane seq) × AreSeqs lane (seq + 1) jobs

-- Of two jobs of one lane, the later one has the greater number (seq).
abbrev pub Rises : List QueuedJob → Type 0
Rises [] = Unit {0}
Rises (job ∷ jobs) =
    Each (λ later. later.id.lane ≡ job.id.lane → job.id.seq < later.id.seq) jobs × Rises jobs

-- Each number is less than all that follow it.
abbrev pub Ascend : List ℕ → Type 0
Ascend [] = Unit {0}
Ascend (number ∷ numbers) = Each (λ later. number < later) numbers × Ascend numbers

-- The number of an entry.
abbrev pub number_of : Entry → ℕ
number_of e = e.number

-- The reading shows the queue closed, and as many entries settled as counted.
abbrev pub Seals : Reading → Type 0
Seals r = (r.closed ≡ true) × (r.settled ≡ r.counted)
