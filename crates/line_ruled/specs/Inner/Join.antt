-- The records of a lane or pass at the gate and in the ring, joined.
use Rattle.std.specs.Prelude.{◌≡◌, ℕ, ◌+◌, ◌≤◌, Bool, true, false, Option, Some, None, Result, Ok, Err, List, [], ◌∷◌, ◌++◌, map, length}
use Rattle.cube_shape.specs.declared.limits.TheConstants.{MAX_ENTRIES}
use Rattle.line_gate.specs.declared.record.SettledEntry.{SettledEntry}
use Rattle.line_gate.specs.declared.record.LaneEntries.{LaneEntries}
use Rattle.line_gate.specs.declared.record.PassReadings.{PassReadings}
use Rattle.line_gate.specs.declared.record.Reading.{Reading as GateReading}
use Rattle.line_gate.specs.Record.{IsSettled, after_settle}
use Rattle.line_ring.specs.declared.record.LaneRecord.{LaneRecord as RingLaneRecord}
use Rattle.line_ring.specs.declared.record.PassRecord.{PassRecord as RingPassRecord}
use Rattle.job_types.specs.Job.{JobData}
use Rattle.job_queue.specs.declared.job_line.Receipt.{Receipt}
use Rattle.job_queue.specs.declared.record.QueuedJob.{QueuedJob}
use Rattle.job_queue.specs.declared.record.Entry.{Entry}
use Rattle.job_queue.specs.declared.record.LaneRecord.{LaneRecord}
use Rattle.job_queue.specs.declared.record.PassRecord.{PassRecord}
use Rattle.job_queue.specs.declared.record.Reading.{Reading}
use Rattle.job_queue.specs.Record.{job_id, queued, entry}

-- 1 if the condition is true, else 0.
abbrev pub one_if : Bool → ℕ
one_if true = 1
one_if false = 0

-- The number of accepted entries.
abbrev pub accepted_count : List SettledEntry → ℕ
accepted_count [] = 0
accepted_count (e ∷ entries) = one_if e.accepted + accepted_count entries

-- The job of an entry: the first of these jobs if it was accepted, else none.
abbrev pub job_of_entry : Bool → List QueuedJob → Option QueuedJob
job_of_entry true (job ∷ jobs) = Some job
job_of_entry true [] = None
job_of_entry false jobs = None

-- The jobs of the later entries: all but the first if the entry was accepted, else all.
abbrev pub jobs_after : Bool → List QueuedJob → List QueuedJob
jobs_after true (job ∷ jobs) = jobs
jobs_after true [] = []
jobs_after false jobs = jobs

-- The entries with their jobs: the first accepted entry has the first job, and so on.
abbrev pub with_jobs : List SettledEntry → List QueuedJob → List Entry
with_jobs [] jobs = []
with_jobs (e ∷ entries) jobs =
    entry e.number (job_of_entry e.accepted jobs) ∷ with_jobs entries (jobs_after e.accepted jobs)

-- The record of a lane, made of its records at the gate and in the ring.
abbrev pub joined_lane : LaneEntries → RingLaneRecord QueuedJob → LaneRecord
joined_lane gate ring =
    record {
      number = ring.number;
      entries = with_jobs gate.entries ring.accepted;
      pending =
          gate.pending;
      late = gate.late;
      seen = gate.seen;
    }

-- The lane is in no call. It has made this many entries, all settled, at most `MAX_ENTRIES`. As
-- many of them were accepted as the ring has jobs of the lane.
pub record IsJoined (gate : LaneEntries) (ring : RingLaneRecord QueuedJob)
    (entries : ℕ) : Type 0 where
  pub numbered : gate.number ≡ ring.number
  pub paired : accepted_count gate.entries ≡ length ring.accepted
  pub settled : IsSettled gate
  pub counted : length gate.entries ≡ entries
  pub few : entries ≤ MAX_ENTRIES

-- A reading at the gate, as a reading of the queue.
abbrev pub reading_of : GateReading → Reading
reading_of r = record { settled = r.settled; counted = r.counted; closed = r.closed }

-- The record of a pass, made of its records at the gate and in the ring.
abbrev pub joined_pass : PassReadings → RingPassRecord QueuedJob → PassRecord
joined_pass gate ring =
    record { number = ring.number; taken = ring.taken; readings = map reading_of gate.readings }

-- The job was put in with the pending entry, which is settled as accepted. Or the ring was full:
-- the job came back, and the entry is settled as full.
abbrev pub Puts : ℕ
    → JobData
    → LaneEntries
    → RingLaneRecord QueuedJob
    → Result Receipt JobData
    → LaneEntries
    → RingLaneRecord QueuedJob
    → Type 0
Puts number job gate ring (Ok receipt) gate' ring' =
    (receipt.number ≡ number) × (receipt.id ≡ job_id ring.number (length ring.accepted))
    × (gate' ≡ after_settle number true gate)
    × (ring' ≡ record ring { accepted = ring.accepted ++ queued receipt.id job ∷ [] })
Puts number job gate ring (Err back) gate' ring' =
    (back ≡ job) × (gate' ≡ after_settle number false gate) × (ring' ≡ ring)
