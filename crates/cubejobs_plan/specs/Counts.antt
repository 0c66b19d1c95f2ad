-- What an answer counts.
use Rattle.std.specs.Prelude.{◌≡◌, ℕ, ◌^◌, ◌<◌, ◌≤◌, ◌⊎◌, ◌↔◌}
use Rattle.cube_shape.specs.Falling.{IsHeld}
use Rattle.alloc_bits.specs.Count.{IsCount}
use Rattle.sched_law.specs.State.{Sched, IsVacant, held}
use Rattle.sched_law.specs.Policy.{HasNone}
use Rattle.sched_jobs.specs.Counts.{DoesRun, DoesWait}
use Rattle.sched_jobs.specs.Sums.{asked}
use Rattle.sched_core.specs.declared.scheduler.Core.{Core}
use Rattle.sched_core.specs.Shows.{ShowsCore}
use Rattle.cubejobs_plan.specs.declared.answer.PlanCounts.{PlanCounts}

-- No block of a dimension is vacant exactly if the dimension is above this one.
abbrev pub IsLargestDim : Sched → ℕ → Type 0
IsLargestDim w largest = (k : ℕ) → k ≤ w.dim → HasNone w.dim k (IsVacant w) ↔ (largest < k)

-- The number of processors of the largest vacant block, or 0 if no processor is vacant.
abbrev pub IsLargest : Sched → ℕ → Type 0
IsLargest w count =
    ((count ≡ 0) × ((k : ℕ) → k ≤ w.dim → HasNone w.dim k (IsVacant w)))
    ⊎ ((largest : ℕ) × (count ≡ 2 ^ largest) × (largest ≤ w.dim) × IsLargestDim w largest)

-- The answer has the counts of the state.
pub record IsCounted (w : Sched) (answer : PlanCounts) : Type 0 where
  pub waiting : IsCount (DoesWait w) w.next answer.waiting
  pub running : IsCount (DoesRun w) w.next answer.running
  pub held : IsCount (IsHeld (held w)) (2 ^ w.dim) answer.held
  pub asked : answer.asked ≡ asked w
  pub occupied : IsCount (IsHeld w.occupied) (2 ^ w.dim) answer.occupied
  pub largest : IsLargest w answer.largest

-- The answer counts nothing: all but the code is 0.
pub record CountsNothing (answer : PlanCounts) : Type 0 where
  pub waiting : answer.waiting ≡ 0
  pub running : answer.running ≡ 0
  pub held : answer.held ≡ 0
  pub asked : answer.asked ≡ 0
  pub occupied : answer.occupied ≡ 0
  pub largest : answer.largest ≡ 0

-- The answer has the counts of each state that the scheduler shows.
abbrev pub HasCounts : PlanCounts → Core → Type 0
HasCounts answer core = (w : Sched) → ShowsCore w core → IsCounted w answer
