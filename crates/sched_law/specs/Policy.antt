-- What the scheduler decides.
use Rattle.std.specs.Prelude.{◌≡◌, ◌≢◌, ℕ, ◌+◌, ◌-◌, ◌*◌, ◌^◌, ◌<◌, ◌≤◌, ◌⊎◌, Option, Some, None}
use Rattle.cube_shape.specs.declared.region.Region.{Region}
use Rattle.cube_shape.specs.Region.{AreApart, Covers, IsAligned, block}
use Rattle.cube_shape.specs.Falling.{IsHeld}
use Rattle.alloc_bits.specs.Count.{IsCount}
use Rattle.fit_tree.specs.Halves.{lower_half, upper_half}
use Rattle.sched_law.specs.declared.job.TheConstants.{NEVER}
use Rattle.sched_law.specs.declared.job.SchedJob.{SchedJob}
use Rattle.sched_law.specs.declared.job.SchedWait.{SchedWait}
use Rattle.sched_law.specs.declared.job.SchedRun.{SchedRun}
use Rattle.sched_law.specs.declared.job.Reservation.{Reservation}
use Rattle.sched_law.specs.State.{Sched, Runs, Waits, IsUsable, IsVacant, held, end_after, start, pass, reserve}

-- ---- order

-- Job `i` comes before job `j`: it is of a lower class, or of the same class and arrived before.
abbrev pub Precedes : ℕ → SchedJob → ℕ → SchedJob → Type 0
Precedes i first j second = (first.class < second.class) ⊎ ((first.class ≡ second.class) × (i < j))

-- An aligned block of dimension `k` has no part out of service.
abbrev pub HasUsable : Sched → ℕ → Type 0
HasUsable w k = (r : Region) × IsAligned w.dim r × (r.dim ≡ k) × IsUsable w r

-- The job waits, and there is a usable block for it.
abbrev pub IsServable : Sched → ℕ → SchedWait → Type 0
IsServable w j wait = Waits w j wait × HasUsable w wait.job.dim

-- The head: the job that a block is reserved for, else the first servable one. So a reservation is
-- not withdrawn for a job that arrives later.
abbrev pub IsHeadBy : Option Reservation → Sched → ℕ → SchedWait → Type 0
IsHeadBy None w h head =
    IsServable w h head
    × ((i : ℕ) (other : SchedWait) → IsServable w i other → Precedes i other.job h head.job → ⊥)
IsHeadBy (Some reserved) w h head = (reserved.job ≡ h) × Waits w h head

-- The head, by the reservation of the state.
abbrev pub IsHead : Sched → ℕ → SchedWait → Type 0
IsHead w h head = IsHeadBy w.reserved w h head

-- ---- blocks

-- The number `m` is the least such that block `(m, k)` is as it must be.
pub record IsFirst (n k : ℕ) (P : Region → Type 0) (m : ℕ) : Type 0 where
  pub in_cube : m < 2 ^ (n - k)
  pub right : P (block k m)
  pub least : (i : ℕ) → i < m → P (block k i) → ⊥

-- No block `(m, k)` is so.
abbrev pub HasNone : ℕ → ℕ → (Region → Type 0) → Type 0
HasNone n k P = (m : ℕ) → m < 2 ^ (n - k) → P (block k m) → ⊥

-- The block is vacant, and apart from one that is to be avoided.
abbrev pub IsVacantBeside : Sched → Region → Region → Type 0
IsVacantBeside w avoid r = IsVacant w r × AreApart avoid r

-- Job `j` runs, and its block has a part of `r`.
abbrev pub RunsIn : Sched → Region → ℕ → SchedRun → Type 0
RunsIn w r j run = Runs w j run × (AreApart run.block r → ⊥)

-- Each job that runs in the block has an estimated end of at most `t`.
abbrev pub AllEndBy : Sched → Region → ℕ → Type 0
AllEndBy w r t = (j : ℕ) (run : SchedRun) → RunsIn w r j run → run.end ≤ t

-- The latest end of a block: the greatest end of the jobs that hold a part of it. It is `NEVER` if
-- the end of one is not known, and 0 if no job holds a part: ends are from 1 on.
pub record IsLatest (w : Sched) (r : Region) (t : ℕ) : Type 0 where
  pub all : AllEndBy w r t
  pub reached : (t ≡ 0) ⊎ ((j : ℕ) × (run : SchedRun) × RunsIn w r j run × (run.end ≡ t))

-- ---- the choice of the block that is reserved

-- A block of dimension `k` in `r` has no part out of service.
abbrev pub HasUsableIn : Sched → ℕ → Region → Type 0
HasUsableIn w k r =
    (s : Region) × IsAligned w.dim s × (s.dim ≡ k) × IsUsable w s × ((p : ℕ) → Covers s p → Covers r p)

-- A processor is held, or out of service.
abbrev pub IsBusy : Sched → ℕ → Type 0
IsBusy w p = IsHeld (held w) p ⊎ IsHeld w.occupied p

-- How many processors of a block are held or out of service.
abbrev pub IsBusyCount : Sched → Region → ℕ → Type 0
IsBusyCount w r count = IsCount (λ i. IsBusy w (r.base + i)) (2 ^ r.dim) count

-- Block `a` is the better one: its latest end is earlier, or it is the same and less is busy.
abbrev pub IsBetter : Sched → Region → Region → Type 0
IsBetter w a b =
    (s : ℕ) × (t : ℕ) × IsLatest w a s × IsLatest w b t
    × ((s < t) ⊎ ((s ≡ t) × ((c : ℕ) × (d : ℕ) × IsBusyCount w a c × IsBusyCount w b d × (c < d))))

-- The way down from a block to one of dimension `k`. It goes to a half with a usable block of this
-- dimension: to the better one, or else to the lower one.
pub data Chooses (w : Sched) (k : ℕ) : Region → Region → Type 0 where
  arrives : (r : Region) → r.dim ≡ k → Chooses w k r r
  goes_lower : (r s : Region) → k < r.dim → HasUsableIn w k (lower_half r)
      → (HasUsableIn w k (upper_half r) → IsBetter w (upper_half r) (lower_half r) → ⊥)
      → Chooses w k (lower_half r) s → Chooses w k r s
  goes_upper : (r s : Region) → k < r.dim → HasUsableIn w k (upper_half r)
      → (HasUsableIn w k (lower_half r) → IsBetter w (upper_half r) (lower_half r))
      → Chooses w k (upper_half r) s → Chooses w k r s

-- ---- one decision

-- No block is free for the head.
abbrev pub IsBlocked : Sched → ℕ → SchedWait → Type 0
IsBlocked w h head = IsHead w h head × HasNone w.dim head.job.dim (IsVacant w)

-- A block is reserved for the head, unless one is. It is the chosen one. Its latest end must be
-- known, or enough must have passed the head.
pub data Prepares (w : Sched) (h : ℕ) (head : SchedWait) : Sched → Type 0 where
  keeps : (reserved : Reservation) → w.reserved ≡ Some reserved → Prepares w h head w
  defers : (r : Region) → w.reserved ≡ None → Chooses w head.job.dim (block w.dim 0) r
      → IsLatest w r NEVER → head.passed < w.patience * 2 ^ w.dim → Prepares w h head w
  reserves : (r : Region) (t : ℕ) → w.reserved ≡ None → Chooses w head.job.dim (block w.dim 0) r
      → IsLatest w r t → (t < NEVER) ⊎ (w.patience * 2 ^ w.dim ≤ head.passed)
      → Prepares w h head (reserve h r w)

-- The job's end would be at most the promise of the reserved block, which is known.
abbrev pub IsBrief : Sched → SchedJob → Region → Type 0
IsBrief w job r = (t : ℕ) × IsLatest w r t × (t < NEVER) × (end_after w.now job.estimate ≤ t)

-- The block of a job that passes the head: the first vacant one if no block is reserved. Else it is
-- the first one apart from the reserved block, or, for a brief job, the first vacant one.
abbrev pub IsPassBlockBy : Option Reservation → Sched → SchedJob → ℕ → Type 0
IsPassBlockBy None w job m = IsFirst w.dim job.dim (IsVacant w) m
IsPassBlockBy (Some reserved) w job m =
    IsFirst w.dim job.dim (IsVacantBeside w reserved.block) m
    ⊎ (HasNone w.dim job.dim (IsVacantBeside w reserved.block)
    × IsBrief w job reserved.block × IsFirst w.dim job.dim (IsVacant w) m)

-- The same, by the reservation of the state.
abbrev pub IsPassBlock : Sched → SchedJob → ℕ → Type 0
IsPassBlock w job m = IsPassBlockBy w.reserved w job m

-- Another job than the head may start.
abbrev pub MayPass : Sched → ℕ → ℕ → SchedWait → Type 0
MayPass w h j wait = (j ≢ h) × Waits w j wait × ((m : ℕ) × IsPassBlock w wait.job m)

-- One decision: which job starts, and the state after it.
pub data Decides (w : Sched) : Option ℕ → Sched → Type 0 where
  -- there is no head
  idles : ((j : ℕ) (wait : SchedWait) → IsHead w j wait → ⊥) → Decides w None w
  -- the head starts
  starts : (h m : ℕ) (head : SchedWait) → IsHead w h head
      → IsFirst w.dim head.job.dim (IsVacant w) m
      → Decides w (Some h) (start h head.job (block head.job.dim m) w)
  -- another job starts: the first that may
  passes : (h j m : ℕ) (head wait : SchedWait) (v : Sched) → IsBlocked w h head → Prepares w h head v
      → MayPass v h j wait
      → ((i : ℕ) (other : SchedWait) → MayPass v h i other → Precedes i other.job j wait.job → ⊥)
      → IsPassBlock v wait.job m
      → Decides w (Some j)
      (start j wait.job (block wait.job.dim m) (pass h head wait.job.dim v))
  -- none may start
  waits : (h : ℕ) (head : SchedWait) (v : Sched) → IsBlocked w h head → Prepares w h head v
      → ((j : ℕ) (wait : SchedWait) → MayPass v h j wait → ⊥)
      → Decides w None v

-- No job may start, and no block is to be reserved.
abbrev pub IsSettled : Sched → Type 0
IsSettled w = Decides w None w
