-- What contracts see of a pool.
use Rattle.std.specs.Prelude.{◌≡◌, ◌≢◌, ℕ, ◌+◌, ◌<◌, ◌≤◌, List, length}
use Rattle.sched_law.specs.declared.job.Place.TheVariants.{Running}
use Rattle.sched_law.specs.declared.job.SchedRun.{SchedRun}
use Rattle.sched_core.specs.declared.scheduler.Core.{Core}
use Rattle.sched_core.specs.Shows.{core_words, job_place, slots_of}
use Rattle.sched_board.specs.declared.workers.TheConstants.{MAX_WORKERS}
use Rattle.sched_board.specs.declared.workers.PoolWorker.{PoolWorker}
use Rattle.sched_board.specs.declared.workers.PoolWorker.TheVariants.{Waiting, Busy}
use Rattle.sched_board.specs.Workers.{does, none_waits_in}

-- The scheduler, what each worker does, and a number below which no worker waits.
pub record PoolData : Type 0 where
  pub core : Core
  pub workers : List PoolWorker
  pub first : ℕ

-- How many workers a pool has.
abbrev pub workers_of : PoolData → ℕ
workers_of pool = length pool.workers

-- What a worker does.
abbrev pub worker_in : PoolData → ℕ → PoolWorker
worker_in pool u = does pool.workers u

-- The other workers do the same as before.
abbrev pub KeepsWorkers : PoolData → PoolData → ℕ → Type 0
KeepsWorkers old new worker =
    (u : ℕ) → u ≢ worker → worker_in new u ≡ worker_in old u

-- All workers do the same as before.
abbrev pub HasSameWorkers : PoolData → PoolData → Type 0
HasSameWorkers old new = new.workers ≡ old.workers

-- The scheduler is as before.
abbrev pub HasSameCore : PoolData → PoolData → Type 0
HasSameCore old new = new.core ≡ old.core

-- No worker waits.
abbrev pub HasNoneIdle : PoolData → Type 0
HasNoneIdle pool = none_waits_in pool.workers 0 (workers_of pool)

-- Of the workers that wait, this is the first.
abbrev pub IsFirstIdle : PoolData → ℕ → Type 0
IsFirstIdle pool u =
    (u < workers_of pool) × (worker_in pool u ≡ Waiting) × none_waits_in pool.workers 0 u

-- The job in a slot runs.
abbrev pub RunsIn : Core → ℕ → Type 0
RunsIn core slot = (slot < slots_of core) × ((run : SchedRun) × (job_place core slot ≡ Running run))

-- Each job that a worker has runs. Each job that runs has exactly one worker.
pub record IsStaffed (core : Core) (workers : List PoolWorker) : Type 0 where
  pub runs : (u slot : ℕ) → does workers u ≡ Busy slot → RunsIn core slot
  pub apart : (u v slot : ℕ) → does workers u ≡ Busy slot → does workers v ≡ Busy slot → u ≡ v
  pub all : (slot : ℕ) → RunsIn core slot → (u : ℕ) × (does workers u ≡ Busy slot)

-- What is always true of a pool.
pub record IsPool (pool : PoolData) : Type 0 where
  pub limit : workers_of pool ≤ MAX_WORKERS
  pub staffed : IsStaffed pool.core pool.workers
  pub none_before : none_waits_in pool.workers 0 pool.first

-- How many words of 8 bytes a pool takes.
abbrev pub pool_words : ℕ → ℕ → ℕ → ℕ
pool_words dim capacity workers = core_words dim capacity + workers
