-- The history of a locked queue: what its calls did, newest first, and the records that follow from
-- it.
use Rattle.std.specs.Prelude.{◌≡◌, ℕ, zero, suc, ◌+◌, ◌<◌, ◌≤◌, Bool, true, false, Option, Some, None, List, [], ◌∷◌, ◌++◌, length, ◌==◌}
use Rattle.ghost_history.specs.History.{part, Legal}
use Rattle.cube_shape.specs.declared.limits.TheConstants.{MAX_ENTRIES}
use Rattle.job_queue.specs.declared.job_line.Sizes.{Sizes}
use Rattle.job_queue.specs.declared.record.QueuedJob.{QueuedJob}
use Rattle.job_queue.specs.declared.record.LaneRecord.{LaneRecord}
use Rattle.job_queue.specs.declared.record.PassRecord.{PassRecord}
use Rattle.locked_peers.specs.declared.line_view.CloserRecord.{CloserRecord}
use Rattle.job_queue.specs.Record.{entry, fresh_lane, fresh_pass, accepted, job_id}
use Rattle.job_queue.specs.Line.{IsMadeFor}
use Rattle.ghost_history.specs.Lists.{rest_of}
use Rattle.locked_peers.specs.InnerLine.View.{reading}

-- A step in the history of a locked queue. Lanes and passes are named by their numbers.
pub data Deed : Type 0 where
  -- The lane made the entry with this number, and its job came in.
  accepts : ℕ → ℕ → QueuedJob → Deed
  -- The lane made the entry with this number, and the queue was full.
  fills : ℕ → ℕ → Deed
  -- The lane found the queue closed, with this count of entries.
  finds_closed : ℕ → ℕ → Deed
  -- The pass took the job at the front.
  takes_job : ℕ → QueuedJob → Deed
  -- The pass found the queue empty, with this count of entries, and closed or not.
  finds_empty : ℕ → ℕ → Bool → Deed
  -- The closer closed the queue at this count of entries.
  closes : ℕ → Deed

-- ---- the line after a history

-- The number of entries that a history made.
abbrev pub entered : List Deed → ℕ
entered [] = 0
entered (accepts lane number job ∷ history) = entered history + 1
entered (fills lane number ∷ history) = entered history + 1
entered (finds_closed lane seen ∷ history) = entered history
entered (takes_job pass job ∷ history) = entered history
entered (finds_empty pass count closed ∷ history) = entered history
entered (closes number ∷ history) = entered history

-- The jobs that wait in the queue after a history, front first.
abbrev pub waiting : List Deed → List QueuedJob
waiting [] = []
waiting (accepts lane number job ∷ history) = waiting history ++ job ∷ []
waiting (fills lane number ∷ history) = waiting history
waiting (finds_closed lane seen ∷ history) = waiting history
waiting (takes_job pass job ∷ history) = rest_of (waiting history)
waiting (finds_empty pass count closed ∷ history) = waiting history
waiting (closes number ∷ history) = waiting history

-- Whether a history closed the queue.
abbrev pub is_closed : List Deed → Bool
is_closed [] = false
is_closed (accepts lane number job ∷ history) = is_closed history
is_closed (fills lane number ∷ history) = is_closed history
is_closed (finds_closed lane seen ∷ history) = is_closed history
is_closed (takes_job pass job ∷ history) = is_closed history
is_closed (finds_empty pass count closed ∷ history) = is_closed history
is_closed (closes number ∷ history) = true

-- ---- the records that a history makes

-- Whether the lane with this number made the step.
abbrev pub is_by_lane : Deed → ℕ → Bool
is_by_lane (accepts lane number job) k = lane == k
is_by_lane (fills lane number) k = lane == k
is_by_lane (finds_closed lane seen) k = lane == k
is_by_lane (takes_job pass job) k = false
is_by_lane (finds_empty pass count closed) k = false
is_by_lane (closes number) k = false

-- The record of the lane that made a step, after it.
abbrev pub lane_after : Deed → LaneRecord → LaneRecord
lane_after (accepts lane number job) r =
    record r { entries = r.entries ++ entry number (Some job) ∷ [] }
lane_after (fills lane number) r = record r { entries = r.entries ++ entry number None ∷ [] }
lane_after (finds_closed lane seen) r = record r { seen = r.seen ++ seen ∷ [] }
lane_after (takes_job pass job) r = r
lane_after (finds_empty pass count closed) r = r
lane_after (closes number) r = r

-- The record of a lane after a history.
abbrev pub lane_part : List Deed → ℕ → LaneRecord
lane_part = part is_by_lane lane_after fresh_lane

-- Whether the pass with this number made the step.
abbrev pub is_by_pass : Deed → ℕ → Bool
is_by_pass (accepts lane number job) k = false
is_by_pass (fills lane number) k = false
is_by_pass (finds_closed lane seen) k = false
is_by_pass (takes_job pass job) k = pass == k
is_by_pass (finds_empty pass count closed) k = pass == k
is_by_pass (closes number) k = false

-- The record of the pass that made a step, after it.
abbrev pub pass_after : Deed → PassRecord → PassRecord
pass_after (accepts lane number job) r = r
pass_after (fills lane number) r = r
pass_after (finds_closed lane seen) r = r
pass_after (takes_job pass job) r = record r { taken = r.taken ++ job ∷ [] }
pass_after (finds_empty pass count closed) r =
    record r { readings = r.readings ++ reading count count closed ∷ [] }
pass_after (closes number) r = r

-- The record of a pass after a history.
abbrev pub pass_part : List Deed → ℕ → PassRecord
pass_part = part is_by_pass pass_after fresh_pass

-- The count of entries at which a history closed the queue, or `None` if it did not close it.
abbrev pub closed_at : List Deed → Option ℕ
closed_at [] = None
closed_at (accepts lane number job ∷ history) = closed_at history
closed_at (fills lane number ∷ history) = closed_at history
closed_at (finds_closed lane seen ∷ history) = closed_at history
closed_at (takes_job pass job ∷ history) = closed_at history
closed_at (finds_empty pass count closed ∷ history) = closed_at history
closed_at (closes number ∷ history) = Some number

-- The record of the closer after a history. There is one closer, with the number 0.
abbrev pub closer_part : List Deed → ℕ → CloserRecord
closer_part history zero = record { closed_at = closed_at history }
closer_part history (suc k) = record { closed_at = None }

-- ---- which deeds a history allows

-- Which entry may follow a history. It is made by one of the lanes, has the next number, and comes
-- before the close. The lane has entries left.
abbrev pub MayEnter : Sizes → List Deed → ℕ → ℕ → Type 0
MayEnter sizes history lane number =
    (lane < sizes.lanes) × (number ≡ entered history) × (is_closed history ≡ false)
    × (length (lane_part history lane).entries < MAX_ENTRIES)

-- Which step may follow a history of a queue of these sizes.
abbrev pub May : Sizes → List Deed → Deed → Type 0
May sizes history (accepts lane number job) =
    MayEnter sizes history lane number × (length (waiting history) < sizes.capacity)
    × (job.id ≡ job_id lane (length (accepted (lane_part history lane).entries)))
    × IsMadeFor sizes.machine job
May sizes history (fills lane number) =
    MayEnter sizes history lane number × (sizes.capacity ≤ length (waiting history))
May sizes history (finds_closed lane seen) =
    (lane < sizes.lanes) × (is_closed history ≡ true) × (seen ≡ entered history)
May sizes history (takes_job pass job) =
    (pass < sizes.passes) × (waiting history ≡ job ∷ rest_of (waiting history))
May sizes history (finds_empty pass count closed) =
    (pass < sizes.passes) × (waiting history ≡ []) × (count ≡ entered history)
    × (closed ≡ is_closed history)
May sizes history (closes number) = (is_closed history ≡ false) × (number ≡ entered history)

-- Each step in the history was allowed by the history before it.
abbrev pub IsLegal : Sizes → List Deed → Type 0
IsLegal sizes history = Legal (May sizes) history
