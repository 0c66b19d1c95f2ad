-- What workers and other threads get of a board.
use Rattle.std.specs.Prelude.{◌≡◌, ◌≢◌, ℕ, ◌<◌, ◌≤◌, ◌⊎◌, List, [], ◌∷◌}
use Rattle.cube_shape.specs.declared.region.Region.{Region}
use Rattle.cube_shape.specs.Region.{IsAligned}
use Rattle.alloc_bits.specs.Count.{IsCount}
use Rattle.sched_law.specs.declared.job.Place.TheVariants.{Absent, Running, Waiting as Queued}
use Rattle.sched_law.specs.declared.job.SchedJob.{SchedJob}
use Rattle.sched_law.specs.declared.job.SchedRun.{SchedRun}
use Rattle.sched_law.specs.declared.job.SchedWait.{SchedWait}
use Rattle.sched_law.specs.Law.{IsSound}
use Rattle.sched_law.specs.State.{Sched}
use Rattle.sched_jobs.specs.Counts.{DoesRun}
use Rattle.sched_core.specs.declared.scheduler.Core.{Core}
use Rattle.sched_core.specs.Shows.{IsTaken, KeepsGenerations, KeepsOthers, ShowsCore, dim_of, job_arrival, job_place, job_ticket, slots_of, submitted_of}
use Rattle.sched_board.specs.declared.workers.PoolWorker.{PoolWorker}
use Rattle.sched_board.specs.declared.workers.PoolWorker.TheVariants.{Away, Busy, Waiting}
use Rattle.sched_board.specs.Pool.{worker_in}
use Rattle.sched_law.specs.Team.{Deed}
use Rattle.sched_law.specs.Team.Deed.{asks, cancels, ends, leaves, submits}
use Rattle.sched_core.specs.declared.request.JobRequest.{JobRequest}
use Rattle.sched_core.specs.Request.{IsAskable, IsAsked}
use Rattle.sched_board.specs.declared.board.JobBoard.{JobBoard}
use Rattle.sched_board.specs.declared.board.BoardPhase.TheVariants.{Closing, Stopped}
use Rattle.sched_board.specs.declared.board.BoardRefusal.TheVariants.{Closed as IsShut, Full as HasNoRoom}
use Rattle.sched_board.specs.declared.calls.BlockError.{BlockError}
use Rattle.sched_board.specs.declared.calls.BlockError.TheVariants.{OutOfRange as NoBlock, WrongState}
use Rattle.sched_board.specs.declared.calls.CancelError.{CancelError}
use Rattle.sched_board.specs.declared.calls.CancelError.TheVariants.{NoJob, Runs}
use Rattle.sched_board.specs.declared.calls.RestJob.{RestJob}
use Rattle.sched_board.specs.declared.calls.SubmitError.{SubmitError}
use Rattle.sched_board.specs.declared.calls.SubmitError.TheVariants.{OutOfRange, Closed, Full}
use Rattle.sched_board.specs.declared.serving.WorkerStage.{WorkerStage}
use Rattle.sched_board.specs.declared.serving.WorkerStage.TheVariants.{Out, Asked, Has as HasJob}
use Rattle.sched_board.specs.declared.start.ThreadStart.{ThreadStart}
use Rattle.sched_board.specs.declared.woken.TheConstants.{MOST_WOKEN}
use Rattle.sched_board.specs.declared.woken.Woken.{Woken}
use Rattle.sched_board.specs.JobBoard.{FollowsAt, HasReason, IsInUse, IsNotOut, Leads}
use Rattle.sched_board.specs.Woken.{AreApart, Has}

-- ---- workers

-- What the worker's handle knows fits what the worker does.
abbrev pub FitsStage : WorkerStage → PoolWorker → Type 0
FitsStage Out now = now ≡ Away
FitsStage Asked now = now ≢ Away
FitsStage HasJob now = (slot : ℕ) × (now ≡ Busy slot)

-- The deeds by which a worker asks for its next job, the newest first.
abbrev pub deeds_of : WorkerStage → ℕ → List Deed
deeds_of Out u = asks u ∷ []
deeds_of Asked u = []
deeds_of HasJob u = asks u ∷ ends u ∷ []

-- The deeds by which a worker stops, the newest first. A job that it has not seen does not end.
abbrev pub deeds_to_stop : WorkerStage → PoolWorker → ℕ → List Deed
deeds_to_stop Out now u = []
deeds_to_stop Asked Waiting u = leaves u ∷ []
deeds_to_stop Asked _ u = []
deeds_to_stop HasJob now u = ends u ∷ []

-- The worker is away now, or it asked before and has the job that it got.
abbrev pub HasStopped : WorkerStage → PoolWorker → PoolWorker → Type 0
HasStopped stage before now =
    (now ≡ Away) ⊎ ((stage ≡ Asked) × ((slot : ℕ) × (before ≡ Busy slot) × (now ≡ Busy slot)))

-- The job of a slot runs, and this says how.
abbrev pub IsStart : Core → ℕ → ThreadStart → Type 0
IsStart core slot start =
    (run : SchedRun) × (job_place core slot ≡ Running run)
    × (start.ticket ≡ job_ticket core slot) × (start.payload ≡ run.job.payload)
    × (start.base ≡ run.block.base) × (start.processors ≡ run.job.processors)

-- The other workers that waited and have a job now are those that are named, each once.
pub record NamesOthers (me : ℕ) (x y : JobBoard) (woken : Woken) : Type 0 where
  pub all : (u slot : ℕ) → u ≢ me → worker_in x.pool u ≡ Waiting
      → worker_in y.pool u ≡ Busy slot → Has woken u
  pub only : (u : ℕ) → u ≢ me → Has woken u
      → (worker_in x.pool u ≡ Waiting) × ((slot : ℕ) × (worker_in y.pool u ≡ Busy slot))
  pub apart : AreApart woken
  pub limit : woken.count ≤ MOST_WOKEN

-- No job may come, and none runs or none may start.
abbrev pub IsOver : JobBoard → Type 0
IsOver x =
    (x.phase ≡ Stopped) ⊎ ((x.phase ≡ Closing)
    × ((w : Sched) → ShowsCore w x.pool.core → IsCount (DoesRun w) w.next 0))

-- ---- other threads

-- The job that was asked for was submitted, and its ticket is this. Decisions at this time came
-- after it.
pub record IsSubmitted (now : ℕ) (request : JobRequest) (ticket : ℕ) (x y : JobBoard) : Type 0 where
  pub job : SchedJob
  pub asked : IsAsked request job
  pub sound : IsSound (dim_of x.pool.core) job
  pub follows : FollowsAt now x (submits job ∷ []) y
  pub slot : ℕ
  pub inside : slot < slots_of y.pool.core
  pub taken : IsTaken y.pool.core slot
  pub arrival : job_arrival y.pool.core slot ≡ submitted_of x.pool.core
  pub named : ticket ≡ job_ticket y.pool.core slot

-- Why a job is not submitted.
abbrev pub IsRefusal : JobRequest → JobBoard → SubmitError → Type 0
IsRefusal request x OutOfRange = IsAskable (dim_of x.pool.core) request → ⊥
IsRefusal request x Closed = HasReason x IsShut
IsRefusal request x Full = HasReason x HasNoRoom

-- The waiting job with this ticket was removed. This number came with it. Decisions at this time
-- came after that.
pub record IsCancelled (now ticket payload : ℕ) (x y : JobBoard) : Type 0 where
  pub slot : ℕ
  pub inside : slot < slots_of x.pool.core
  pub named : ticket ≡ job_ticket x.pool.core slot
  pub wait : SchedWait
  pub waited : job_place x.pool.core slot ≡ Queued wait
  pub payload_of : payload ≡ wait.job.payload
  pub follows : FollowsAt now x (cancels (job_arrival x.pool.core slot) ∷ []) y
  pub stopped : x.phase ≡ Stopped → Leads x (cancels (job_arrival x.pool.core slot) ∷ []) y

-- Why a job is not cancelled.
abbrev pub IsNotCancelled : ℕ → JobBoard → CancelError → Type 0
IsNotCancelled ticket x NoJob =
    (slot : ℕ) → slot < slots_of x.pool.core → IsTaken x.pool.core slot
    → ticket ≡ job_ticket x.pool.core slot → ⊥
IsNotCancelled ticket x Runs =
    (slot : ℕ) × (slot < slots_of x.pool.core) × (ticket ≡ job_ticket x.pool.core slot)
    × ((run : SchedRun) × (job_place x.pool.core slot ≡ Running run))

-- ---- blocks

-- The block of this dimension that begins at this processor.
abbrev pub block_at : ℕ → ℕ → Region
block_at base dim = record { base = base; dim = dim }

-- Why a block is not taken out of service.
abbrev pub IsNotTakenOut : Region → JobBoard → BlockError → Type 0
IsNotTakenOut r x NoBlock = IsAligned (dim_of x.pool.core) r → ⊥
IsNotTakenOut r x WrongState = IsAligned (dim_of x.pool.core) r × IsInUse r x.pool.core

-- Why a block is not put back into service.
abbrev pub IsNotPutBack : Region → JobBoard → BlockError → Type 0
IsNotPutBack r x NoBlock = IsAligned (dim_of x.pool.core) r → ⊥
IsNotPutBack r x WrongState = IsAligned (dim_of x.pool.core) r × IsNotOut r x.pool.core

-- ---- the jobs that wait when jobs may come no more

-- The job of a slot waits.
abbrev pub WaitsIn : Core → ℕ → Type 0
WaitsIn core slot = (wait : SchedWait) × (job_place core slot ≡ Queued wait)

-- Of the slots from one on, this is the first whose job waits.
pub record IsNextWaiting (core : Core) (from slot : ℕ) : Type 0 where
  pub after : from ≤ slot
  pub inside : slot < slots_of core
  pub waits : WaitsIn core slot
  pub first : (u : ℕ) → from ≤ u → u < slot → WaitsIn core u → ⊥

-- No slot from one on has a waiting job.
abbrev pub HasNoneWaiting : Core → ℕ → Type 0
HasNoneWaiting core from = (u : ℕ) → from ≤ u → WaitsIn core u → ⊥

-- The first waiting job in slots from one on was removed. It had this slot and this ticket, and
-- this number came with it. Each other slot has the job that it had.
pub record IsTakenBack (from : ℕ) (rest : RestJob) (x y : JobBoard) : Type 0 where
  pub slot : IsNextWaiting x.pool.core from rest.slot
  pub named : rest.ticket ≡ job_ticket x.pool.core rest.slot
  pub wait : SchedWait
  pub waited : job_place x.pool.core rest.slot ≡ Queued wait
  pub payload_of : rest.payload ≡ wait.job.payload
  pub leads : Leads x (cancels (job_arrival x.pool.core rest.slot) ∷ []) y
  pub place : job_place y.pool.core rest.slot ≡ Absent
  pub others : KeepsOthers x.pool.core y.pool.core rest.slot
  pub slots : slots_of y.pool.core ≡ slots_of x.pool.core
  pub generations : KeepsGenerations x.pool.core y.pool.core
