-- What holds of each schedule.
use Rattle.std.specs.Prelude.{◌≡◌, ℕ, zero, suc, ◌+◌, ◌^◌, ◌<◌, ◌≤◌, ◌⊎◌, Some}
use Rattle.cube_shape.specs.declared.region.Region.{Region}
use Rattle.cube_shape.specs.Region.{AreApart, IsAligned}
use Rattle.cube_shape.specs.Machine.{IsLawful}
use Rattle.sched_law.specs.declared.job.TheConstants.{NEVER}
use Rattle.sched_law.specs.declared.job.SchedJob.{SchedJob}
use Rattle.sched_law.specs.declared.job.SchedWait.{SchedWait}
use Rattle.sched_law.specs.declared.job.SchedRun.{SchedRun}
use Rattle.sched_law.specs.declared.job.Place.{Place}
use Rattle.sched_law.specs.declared.job.Place.TheVariants.{Absent, Waiting}
use Rattle.sched_law.specs.declared.job.Reservation.{Reservation}
use Rattle.sched_law.specs.State.{Sched, Runs, Waits, IsUsable, held, end_after}
use Rattle.sched_law.specs.Policy.{IsLatest}

-- The job can be had from a machine of this dimension, and its dimension is the least one.
pub record IsSound (n : ℕ) (job : SchedJob) : Type 0 where
  pub some : 0 < job.processors
  pub enough : job.processors ≤ 2 ^ job.dim
  pub least : (k : ℕ) → job.processors ≤ 2 ^ k → job.dim ≤ k
  pub fits : job.dim ≤ n

-- What holds of each state.
pub record IsSafe (w : Sched) : Type 0 where
  -- running jobs hold aligned blocks, which do not overlap
  pub lawful : IsLawful w.dim (held w)
  -- so are the blocks out of service
  pub out : IsLawful w.dim w.occupied
  pub base : (b : ℕ) (r : Region) → w.occupied b ≡ Some r → r.base ≡ b
  pub apart : (j b : ℕ) (r s : Region) → held w j ≡ Some r → w.occupied b ≡ Some s → AreApart r s
  -- each job is sound, and each running one has a block of its size
  pub waiting : (j : ℕ) (wait : SchedWait) → Waits w j wait → IsSound w.dim wait.job
  pub running : (j : ℕ) (run : SchedRun) → Runs w j run → IsSound w.dim run.job
  pub sized : (j : ℕ) (run : SchedRun) → Runs w j run → run.block.dim ≡ run.job.dim
  pub ends : (j : ℕ) (run : SchedRun) → Runs w j run → (0 < run.end) × (run.end ≤ NEVER)
  -- only jobs that were submitted are somewhere
  pub absent : (j : ℕ) → w.next ≤ j → w.place j ≡ Absent
  -- an aligned block of the right size is reserved for a waiting job, and is in service
  pub kept_for : (reserved : Reservation) → w.reserved ≡ Some reserved
      → (wait : SchedWait) × Waits w reserved.job wait × (reserved.block.dim ≡ wait.job.dim)
  pub kept : (reserved : Reservation) → w.reserved ≡ Some reserved
      → IsAligned w.dim reserved.block × IsUsable w reserved.block
  -- an older job that waits is of a higher class number, or needs a larger block
  pub order : (reserved : Reservation) (i : ℕ) (wait other : SchedWait) → w.reserved ≡ Some reserved
      → Waits w reserved.job wait → Waits w i other → i < reserved.job
      → (wait.job.class < other.job.class) ⊎ (wait.job.dim < other.job.dim)

-- The first estimate is at most the second one. To have none is to be longest.
abbrev pub IsNoLonger : SchedJob → SchedJob → Type 0
IsNoLonger first second = end_after 0 first.estimate ≤ end_after 0 second.estimate

-- The first job needs no more processors than the second one, is of no higher class number, and has
-- no longer estimate.
pub record IsNoLarger (first second : SchedJob) : Type 0 where
  pub narrow : first.processors ≤ second.processors
  pub class : first.class ≤ second.class
  pub short : IsNoLonger first second

-- The job would end after the promise of the block, or one of them is not known.
abbrev pub IsLate : Sched → SchedJob → Region → Type 0
IsLate w job r =
    (t : ℕ) → IsLatest w r t → (NEVER ≤ t) ⊎ (t < end_after w.now job.estimate)

-- No running job's estimated end is before now.
abbrev pub IsPunctual : Sched → Type 0
IsPunctual w = (j : ℕ) (run : SchedRun) → Runs w j run → w.now ≤ run.end

-- Whether a job waits, as a number.
abbrev pub one_waits : Place → ℕ
one_waits (Waiting wait) = 1
one_waits _ = 0

-- The number of waiting jobs below `n`.
abbrev pub waiting_below : (ℕ → Place) → ℕ → ℕ
waiting_below place zero = 0
waiting_below place (suc n) = one_waits (place n) + waiting_below place n

-- The number of waiting jobs.
abbrev pub waiting : Sched → ℕ
waiting w = waiting_below w.place w.next
