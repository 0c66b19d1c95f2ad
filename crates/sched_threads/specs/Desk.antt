-- The board with what each worker's thread knows.
use Rattle.std.specs.Prelude.{◌≡◌, ◌≢◌, ℕ, ◌≤◌, List, length, slice_index_or}
use Rattle.sched_board.specs.declared.workers.TheConstants.{MAX_WORKERS}
use Rattle.sched_board.specs.declared.workers.PoolWorker.{PoolWorker}
use Rattle.sched_board.specs.declared.workers.PoolWorker.TheVariants.{Away, Busy, Waiting}
use Rattle.sched_board.specs.Pool.{worker_in, workers_of}
use Rattle.sched_board.specs.declared.board.JobBoard.{JobBoard}
use Rattle.sched_board.specs.declared.serving.WorkerStage.{WorkerStage}
use Rattle.sched_board.specs.declared.serving.WorkerStage.TheVariants.{Out as IsOut, Asked as Waits, Has as Works}
use Rattle.sched_board.specs.JobBoard.{IsUnchanged}
use Rattle.sched_threads.specs.declared.chair.Chair.{Chair}
use Rattle.sched_threads.specs.declared.chair.Chair.TheVariants.{Free, Out, Asked, Has}

-- The board, and what is known of each worker's thread.
pub record DeskData : Type 0 where
  pub board : JobBoard
  pub chairs : List Chair

-- What is known of a worker's thread. A number that no worker has is no thread's.
abbrev pub chair_of : DeskData → ℕ → Chair
chair_of desk u = slice_index_or desk.chairs u Free

-- What is known of a worker's thread fits what the worker does.
abbrev pub FitsChair : Chair → PoolWorker → Type 0
FitsChair Free now = now ≡ Away
FitsChair Out now = now ≡ Away
FitsChair Asked now = now ≢ Away
FitsChair Has now = (slot : ℕ) × (now ≡ Busy slot)

-- What is always true of a desk.
pub record IsDesk (desk : DeskData) : Type 0 where
  pub count : length desk.chairs ≡ workers_of desk.board.pool
  pub limit : length desk.chairs ≤ MAX_WORKERS
  pub fits : (u : ℕ) → FitsChair (chair_of desk u) (worker_in desk.board.pool u)

-- What the handle of a worker knows.
abbrev pub stage_of : Chair → WorkerStage
stage_of Free = IsOut
stage_of Out = IsOut
stage_of Asked = Waits
stage_of Has = Works

-- What is known of the threads of the other workers is the same.
abbrev pub HasOtherChairs : DeskData → DeskData → ℕ → Type 0
HasOtherChairs old new worker = (u : ℕ) → u ≢ worker → chair_of new u ≡ chair_of old u

-- Nothing has changed.
abbrev pub IsSameDesk : DeskData → DeskData → Type 0
IsSameDesk old new =
    IsUnchanged old.board new.board × ((u : ℕ) → chair_of new u ≡ chair_of old u)

-- What ends what a worker does whose thread is gone. Also a job ends that the thread has not seen.
abbrev pub stage_to_end : Chair → PoolWorker → WorkerStage
stage_to_end Free now = IsOut
stage_to_end Out now = IsOut
stage_to_end Asked Away = Waits
stage_to_end Asked Waiting = Waits
stage_to_end Asked (Busy slot) = Works
stage_to_end Has now = Works

-- The worker got a job that its thread has not seen.
abbrev pub HasUnseen : DeskData → ℕ → Type 0
HasUnseen desk u =
    (chair_of desk u ≡ Asked) × ((slot : ℕ) × (worker_in desk.board.pool u ≡ Busy slot))
