-- The history of a queue: what its lanes, its passes and its closer did, in one order, newest
-- first.
use Rattle.std.specs.Prelude.{◌≡◌, ℕ, ◌+◌, ◌<◌, ◌⊎◌, Option, Some, None, List, [], ◌∷◌, ◌++◌, length, cond, ◌==◌}
use Rattle.std.specs.List.{AllByRecursion as Each}
use Rattle.ghost_history.specs.History.{Legal}
use Rattle.ghost_history.specs.Lists.{rest_of}
use Rattle.job_queue.specs.declared.record.QueuedJob.{QueuedJob}
use Rattle.job_queue.specs.declared.record.Entry.{Entry}
use Rattle.job_queue.specs.declared.record.LaneRecord.{LaneRecord}
use Rattle.job_queue.specs.declared.record.PassRecord.{PassRecord}
use Rattle.job_queue.specs.Record.{job_id, entry, accepted}

-- A step in the history of a queue. Lanes and passes are named by their numbers.
pub data Deed : Type 0 where
  -- The lane made the entry with this number.
  enters : ℕ → ℕ → Deed
  -- The job of the lane's entry with this number came in at the back.
  accepts_job : ℕ → ℕ → QueuedJob → Deed
  -- The pass took the job at the front.
  takes_first : ℕ → QueuedJob → Deed
  -- The queue was closed at this count of entries.
  closes_line : ℕ → Deed
  -- The job at the front came out at the queue's end.
  comes_out : QueuedJob → Deed

-- The number of entries that a history made.
abbrev pub entered : List Deed → ℕ
entered [] = 0
entered (enters lane number ∷ history) = entered history + 1
entered (accepts_job lane number job ∷ history) = entered history
entered (takes_first pass job ∷ history) = entered history
entered (closes_line number ∷ history) = entered history
entered (comes_out job ∷ history) = entered history

-- The count of entries at which a history closed the queue, or `None` if it did not close it.
abbrev pub closed_at : List Deed → Option ℕ
closed_at [] = None
closed_at (enters lane number ∷ history) = closed_at history
closed_at (accepts_job lane number job ∷ history) = closed_at history
closed_at (takes_first pass job ∷ history) = closed_at history
closed_at (closes_line number ∷ history) = Some number
closed_at (comes_out job ∷ history) = closed_at history

-- The jobs that wait in the queue after a history, front first.
abbrev pub waiting : List Deed → List QueuedJob
waiting [] = []
waiting (enters lane number ∷ history) = waiting history
waiting (accepts_job lane number job ∷ history) = waiting history ++ job ∷ []
waiting (takes_first pass job ∷ history) = rest_of (waiting history)
waiting (closes_line number ∷ history) = waiting history
waiting (comes_out job ∷ history) = rest_of (waiting history)

-- ---- the parts of a history

-- These entries, after the one with this number has received its job.
abbrev pub with_job : ℕ → QueuedJob → List Entry → List Entry
with_job number job [] = []
with_job number job (e ∷ entries) =
    cond (e.number == number) (entry number (Some job) ∷ entries) (e ∷ with_job number job entries)

-- The entries of a lane in order, each with its job if that has come in.
abbrev pub entries_by : List Deed → ℕ → List Entry
entries_by [] k = []
entries_by (enters lane number ∷ history) k =
    cond (lane == k) (entries_by history k ++ entry number None ∷ []) (entries_by history k)
entries_by (accepts_job lane number job ∷ history) k =
    cond (lane == k) (with_job number job (entries_by history k)) (entries_by history k)
entries_by (takes_first pass job ∷ history) k = entries_by history k
entries_by (closes_line number ∷ history) k = entries_by history k
entries_by (comes_out job ∷ history) k = entries_by history k

-- The jobs that a pass took, in order.
abbrev pub taken_in : List Deed → ℕ → List QueuedJob
taken_in [] k = []
taken_in (enters lane number ∷ history) k = taken_in history k
taken_in (accepts_job lane number job ∷ history) k = taken_in history k
taken_in (takes_first pass job ∷ history) k =
    cond (pass == k) (taken_in history k ++ job ∷ []) (taken_in history k)
taken_in (closes_line number ∷ history) k = taken_in history k
taken_in (comes_out job ∷ history) k = taken_in history k

-- The jobs that came out at the queue's end, in order.
abbrev pub left_in : List Deed → List QueuedJob
left_in [] = []
left_in (enters lane number ∷ history) = left_in history
left_in (accepts_job lane number job ∷ history) = left_in history
left_in (takes_first pass job ∷ history) = left_in history
left_in (closes_line number ∷ history) = left_in history
left_in (comes_out job ∷ history) = left_in history ++ job ∷ []

-- ---- which deeds a history allows

-- The entry with this number has no job yet, and no later entry has one.
abbrev pub AwaitsJob : ℕ → List Entry → Type 0
AwaitsJob number [] = ⊥
AwaitsJob number (e ∷ entries) =
    ((e ≡ entry number None) × Each (λ later. later.job ≡ None) entries) ⊎ AwaitsJob number entries

-- Which step may follow a history of a queue with this many lanes and passes. Entries have the
-- numbers 0, 1, 2 and so on. None comes after the close, and the close is at their count. A job
-- comes in by an entry that its lane made for it, after the lane's earlier jobs, with the lane's
-- next seq. The job that goes out is the one at the front.
abbrev pub May : ℕ → ℕ → List Deed → Deed → Type 0
May lanes passes history (enters lane number) =
    (lane < lanes) × (number ≡ entered history) × (closed_at history ≡ None)
May lanes passes history (accepts_job lane number job) =
    AwaitsJob number (entries_by history lane)
    × (job.id ≡ job_id lane (length (accepted (entries_by history lane))))
May lanes passes history (takes_first pass job) =
    (pass < passes) × (waiting history ≡ job ∷ rest_of (waiting history))
May lanes passes history (closes_line number) =
    (number ≡ entered history) × (closed_at history ≡ None)
May lanes passes history (comes_out job) = waiting history ≡ job ∷ rest_of (waiting history)

-- One legal history explains all records. The entries of each lane, and what each pass took, are
-- its own parts of that history. The history closed the queue at the number of the close note. What
-- came out at its end are the jobs that are left, and then no job waits.
pub record Lists (lanes : List LaneRecord) (passes : List PassRecord) (rest : List QueuedJob)
    (note : ℕ) : Type 0 where
  pub history : List Deed
  pub legal : Legal (May (length lanes) (length passes)) history
  pub each_lane : Each (λ l. l.entries ≡ entries_by history l.number) lanes
  pub each_pass : Each (λ p. p.taken ≡ taken_in history p.number) passes
  pub closed : closed_at history ≡ Some note
  pub end : left_in history ≡ rest
  pub none_waits : waiting history ≡ []
