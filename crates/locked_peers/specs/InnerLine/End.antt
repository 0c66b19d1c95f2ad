-- The state of a locked queue after all its members have come back.
use Rattle.std.specs.Prelude.{◌≡◌, ℕ, ◌<◌, ◌≤◌, Some, None, [], ◌∷◌, length, slice_index}
use Rattle.std.specs.List.{AllByRecursion as Each}
use Rattle.ghost_history.specs.Sums.{total, is_at}
use Rattle.job_queue.specs.declared.job_line.Sizes.{Sizes}
use Rattle.locked_peers.specs.declared.store.Store.{Store}
use Rattle.locked_peers.specs.declared.line_view.View.{View}
use Rattle.job_queue.specs.Record.{accepted}
use Rattle.job_queue.specs.Line.{IsMadeFor}
use Rattle.job_queue.specs.Run.{WholeRun}

-- The view has the records of all lanes and passes of the queue, and of the closer, which closed it
-- at this number.
pub record IsWhole (sizes : Sizes) (v : View) (number : ℕ) : Type 0 where
  pub lanes : length v.lanes ≡ sizes.lanes
  pub passes : length v.passes ≡ sizes.passes
  pub closers : v.closers ≡ record { closed_at = Some number } ∷ []
  pub found : v.found ≡ None

-- What the state and the records of all members say at the end of the queue.
pub record IsEnd (sizes : Sizes) (v : View) (number : ℕ) (x : Store) : Type 0 where
  pub run : WholeRun v.lanes v.passes x.jobs.items number
  pub numbers : (k : ℕ) → k < sizes.lanes → total (λ r. is_at k r.number) v.lanes ≡ 1
  pub lane_count : length x.accepted.items ≡ sizes.lanes
  pub accepted_by : Each (λ r. slice_index x.accepted.items r.number ≡ length (accepted r.entries))
      v.lanes
  pub fits : length x.jobs.items ≤ sizes.capacity
  pub made_for : Each (IsMadeFor sizes.machine) x.jobs.items
