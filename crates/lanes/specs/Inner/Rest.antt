-- What the words of ended lanes say of the jobs that are left.
use Rattle.std.specs.Prelude.{ℕ, ◌+◌, ◌-◌, ◌%◌, ◌^◌, ◌<◌, ◌≤◌, List}
use Rattle.ghost_history.specs.Lists.{numbered_from}
use Rattle.lanes.specs.declared.sizes.TheConstants.{CLOSED, TAIL, HEAD, MAX_BASE, MAX_CAPACITY, MAX_LANES}
use Rattle.lanes.specs.declared.sizes.Plan.{Plan}
use Rattle.lanes.specs.declared.record.LaneJob.{LaneJob}
use Rattle.lanes.specs.Layout.{cell_of}
use Rattle.lanes.specs.Record.{job}
use Rattle.lanes.specs.Inner.Rule.{reads}

-- the sizes are within the limits
pub record IsSmall (plan : Plan) : Type 0 where
  pub some_room : 0 < plan.sizes.capacity
  pub capacity : plan.sizes.capacity ≤ MAX_CAPACITY
  pub lanes : plan.sizes.lanes ≤ MAX_LANES
  pub base : plan.base ≤ MAX_BASE

-- the job with this number, in the cells of the lane
abbrev pub left_job : Plan → List ℕ → ℕ → ℕ → LaneJob
left_job plan words l i =
    job i (reads plan words l (cell_of plan.sizes.capacity i)) (reads plan words l (cell_of plan.sizes.capacity i + 1) % 2 ^ 32)

-- the number of taken jobs, and that of accepted jobs
abbrev pub first_left : Plan → List ℕ → ℕ → ℕ
first_left plan words l = reads plan words l HEAD

abbrev pub end_left : Plan → List ℕ → ℕ → ℕ
end_left plan words l = reads plan words l TAIL - CLOSED

-- the jobs of the lane that are left
abbrev pub left_in : Plan → List ℕ → ℕ → List LaneJob
left_in plan words l =
    numbered_from (left_job plan words l) (first_left plan words l) (end_left plan words l - first_left plan words l)

-- each lane is closed, and has no more jobs than it can hold
abbrev pub InRange : Plan → List ℕ → Type 0
InRange plan words =
    (l : ℕ) → l < plan.sizes.lanes → (CLOSED ≤ reads plan words l TAIL)
    × (first_left plan words l ≤ end_left plan words l)
    × (end_left plan words l ≤ first_left plan words l + plan.sizes.capacity)
