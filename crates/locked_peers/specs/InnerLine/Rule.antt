-- The rule of a locked queue's table. Its one word is 1 while a seat has taken the slot with the
-- state.
use Rattle.std.specs.Prelude.{◌≡◌, ℕ, ◌<◌, ◌≤◌, List, length, slice_index}
use mathlib.Core.Option.{some}
use lib.ListN.{get_elem?}
use Rattle.atomic_table.specs.Table.{State}
use Rattle.ghost_history.specs.Views.{Tied}
use Rattle.locked_peers.specs.Cell.{IsCell}
use Rattle.cube_shape.specs.declared.limits.TheConstants.{MAX_LANES}
use Rattle.job_queue.specs.declared.job_line.Sizes.{Sizes}
use Rattle.locked_peers.specs.declared.store.Store.{Store}
use Rattle.locked_peers.specs.declared.line_view.View.{View}
use Rattle.job_queue.specs.Record.{accepted}
use Rattle.locked_peers.specs.InnerLine.View.{found_in, members}
use Rattle.locked_peers.specs.InnerLine.Deed.{Deed, entered, waiting, is_closed, lane_part, pass_part, closer_part, IsLegal}

-- The state is the one that the history leaves.
pub record Fits (sizes : Sizes) (history : List Deed) (x : Store) : Type 0 where
  pub jobs : x.jobs.items ≡ waiting history
  pub lane_count : length x.accepted.items ≡ sizes.lanes
  pub accepted_by : (lane : ℕ)
      → lane < sizes.lanes
      → slice_index x.accepted.items lane ≡ length (accepted (lane_part history lane).entries)
  pub entries : x.entries ≡ entered history
  pub closed : x.closed ≡ is_closed history
  pub capacity : x.capacity ≡ sizes.capacity

-- Some legal history leads to this table. Each record in a view is its member's part of it.
pub record Keeps (sizes : Sizes) (s : State Store View) : Type 0 where
  pub history : List Deed
  pub legal : IsLegal sizes history
  pub few : sizes.lanes ≤ MAX_LANES
  pub lanes : Tied (λ (v : View). v.lanes) (λ r. r.number) sizes.lanes (lane_part history) s.views
  pub passes : Tied (λ (v : View). v.passes) (λ r. r.number) sizes.passes (pass_part history)
      s.views
  pub closers : Tied (λ (v : View). v.closers) (λ r. 0) 1 (closer_part history) s.views
  pub about : (id : ℕ) (v : View) → get_elem? s.views id ≡ some v → 0 < members v → v.about ≡ sizes
  -- The state in its slot, and a state that a seat found, are what the history leaves.
  pub cell : IsCell found_in members (Fits sizes history) s
