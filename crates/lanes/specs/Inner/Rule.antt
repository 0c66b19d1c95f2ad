-- The rule of the table. A legal history of each lane leads to these words. Each record in a view
-- is its member's part of the histories.
use Rattle.std.specs.Prelude.{◌≡◌, ℕ, zero, suc, ◌+◌, ◌<◌, ◌≤◌, Bool, cond, List, ◌∷◌, ◌==◌, length, slice_index}
use Rattle.atomic_table.specs.Table.{State}
use Rattle.ghost_history.specs.Lists.{numbered_from}
use Rattle.ghost_history.specs.Views.{Tied}
use Rattle.lanes.specs.declared.sizes.TheConstants.{CLOSED, TAIL, HEAD}
use Rattle.lanes.specs.declared.sizes.Plan.{Plan}
use Rattle.lanes.specs.declared.record.LaneRecord.{LaneRecord}
use Rattle.lanes.specs.declared.record.TakeRecord.{TakeRecord}
use Rattle.lanes.specs.declared.record.WorkerRecord.{WorkerRecord}
use Rattle.lanes.specs.declared.view.View.{View}
use Rattle.lanes.specs.declared.view.CloserRecord.{CloserRecord}
use Rattle.lanes.specs.Layout.{lane_start, all_words, cell_of}
use Rattle.lanes.specs.History.{Deed, count, taken, filled, filled_dims, payload_of, dim_of, closed_at, is_shut, lane_part, take_part, IsLegal}
use Rattle.lanes.specs.Inner.View.{closer, fresh_closer}

-- the history of each lane
abbrev pub Histories : Type 0
Histories = ℕ → List Deed

-- the same with one deed more in one lane
abbrev pub with_deed : ℕ → Deed → Histories → Histories
with_deed lane d hs j = cond (j == lane) (d ∷ hs j) (hs j)

-- The first word of a lane: its count, and above it the closed mark.
abbrev pub tail_word : ℕ → Bool → ℕ
tail_word count closed = count + cond closed CLOSED 0

-- The record of the producer of a lane.
abbrev pub lane_at : Plan → Histories → ℕ → LaneRecord
lane_at plan hs l = lane_part plan.sizes.capacity l (hs l)

-- The record of a worker with these records of the lanes.
abbrev pub worker_of : Plan → ℕ → List TakeRecord → WorkerRecord
worker_of plan number lanes = record { number = number; plan = plan; lanes = lanes }

-- The record of the worker with this number.
abbrev pub worker_at : Plan → Histories → ℕ → WorkerRecord
worker_at plan hs w = worker_of plan w (numbered_from (λ l. take_part (hs l) w) 0 plan.sizes.lanes)

-- there is one closer, with the number 0
abbrev pub closer_at : Plan → Histories → ℕ → CloserRecord
closer_at plan hs zero = closer plan (numbered_from (λ l. closed_at (hs l)) 0 plan.sizes.lanes)
closer_at plan hs (suc k) = fresh_closer plan

-- The words of one lane, read by their places in it: both counts, and in the cells the jobs that
-- are not taken.
pub record LaneWords (capacity : ℕ) (h : List Deed) (read : ℕ → ℕ) : Type 0 where
  pub tail : read TAIL ≡ tail_word (count h) (is_shut h)
  pub head : read HEAD ≡ taken h
  pub payloads : (i : ℕ) → taken h ≤ i → i < filled h → read (cell_of capacity i) ≡ payload_of h i
  pub dims : (i : ℕ) → taken h ≤ i → i < filled_dims h → read (cell_of capacity i + 1) ≡ dim_of h i

-- what the words of the lane are, by their places in it
abbrev pub reads : Plan → List ℕ → ℕ → ℕ → ℕ
reads plan words l o = slice_index words (lane_start plan l + o)

-- The part of the rule on lanes.
pub record LanesKept (plan : Plan) (s : State (Unit {0}) View) : Type 0 where
  pub histories : Histories
  pub legal : (l : ℕ) → IsLegal plan.sizes l (histories l)
  pub some_room : 0 < plan.sizes.capacity
  pub long : length s.words ≡ all_words plan
  pub words : (l : ℕ)
      → l < plan.sizes.lanes
      → LaneWords plan.sizes.capacity (histories l) (reads plan s.words l)
  pub lanes : Tied (λ (v : View). v.lanes) (λ r. r.number) plan.sizes.lanes
      (lane_at plan histories) s.views
  pub workers : Tied (λ (v : View). v.workers) (λ r. r.number) plan.sizes.workers
      (worker_at plan histories) s.views
  pub closers : Tied (λ (v : View). v.closers) (λ r. 0) 1 (closer_at plan histories) s.views

-- The whole part on lanes.
pub record Keeps (plan : Plan) (s : State (Unit {0}) View) : Type 0 where
  pub kept : LanesKept plan s
