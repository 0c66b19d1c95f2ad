-- What a turn does, and what its call answers.
use Rattle.std.specs.Prelude.{◌≡◌, ℕ, Bool, Option, Some, None, Result, Ok, Err, List, [], ◌∷◌, IfSome, IfNone, IsNone, IsTrue, IsFalse}
use Rattle.sched_board.specs.declared.workers.PoolWorker.TheVariants.{Away, Busy, Waiting}
use Rattle.sched_board.specs.Pool.{worker_in, workers_of}
use Rattle.sched_board.specs.declared.board.JobBoard.{JobBoard}
use Rattle.sched_law.specs.Team.{Deed}
use Rattle.sched_law.specs.Team.Deed.{closes, occupies, vacates}
use Rattle.sched_board.specs.declared.board.BoardPhase.TheVariants.{Stopped}
use Rattle.sched_board.specs.declared.woken.TheConstants.{MOST_WOKEN}
use Rattle.sched_board.specs.declared.calls.BlockError.{BlockError}
use Rattle.sched_board.specs.declared.calls.CancelError.{CancelError}
use Rattle.sched_board.specs.declared.calls.Effect.{Effect}
use Rattle.sched_board.specs.declared.calls.RestJob.{RestJob}
use Rattle.sched_board.specs.declared.calls.SubmitError.{SubmitError}
use Rattle.sched_board.specs.declared.serving.Served.{Served}
use Rattle.sched_board.specs.declared.serving.WorkerStage.{WorkerStage}
use Rattle.sched_board.specs.declared.serving.WorkerStage.TheVariants.{Asked}
use Rattle.sched_core.specs.declared.request.JobRequest.{JobRequest}
use Rattle.sched_board.specs.JobBoard.{FollowsAt, IsAtRest, IsClosed, IsUnchanged, Leads, Serves, NamesWoken, phase_after}
use Rattle.sched_board.specs.Served.{HasNoneWaiting, IsCancelled, IsNotCancelled, IsNotPutBack, IsNotTakenOut, IsOver, IsRefusal, IsStart, IsSubmitted, IsTakenBack, NamesOthers, block_at, deeds_of, deeds_to_stop}

-- Workers other than one, if there is one, do the same as before, or got a job for which they
-- waited. There are as many as before.
abbrev pub Moves : Option ℕ → JobBoard → JobBoard → Type 0
Moves by x y = Serves by x y × (workers_of y.pool ≡ workers_of x.pool)

-- A turn at a time, by which a worker asks for a job, and what it gets.
pub record IsServing (now : ℕ) (stage : WorkerStage) (u : ℕ) (served : Served) (x y : JobBoard)
    : Type 0 where
  pub follows : FollowsAt now x (deeds_of stage u) y
  pub stopped : x.phase ≡ Stopped → Leads x (deeds_of stage u) y
  pub start : IfSome served.start (λ start. (slot : ℕ) × ((worker_in y.pool u ≡ Busy slot)
      × IsStart y.pool.core slot start))
  pub none : IfNone served.start (worker_in y.pool u ≡ Waiting)
  pub woken : NamesOthers u x y served.woken
  pub more : IsTrue served.more → served.woken.count ≡ MOST_WOKEN
  pub rest : IsFalse served.more → IsAtRest y
  pub over : IsTrue served.over → IsOver y × IsAtRest y
  pub told : IsNone served.start → IsFalse served.more → IsOver y → IsTrue served.over

-- A turn at a time, by which a worker stops, and what it gets.
pub record IsStopping (now : ℕ) (stage : WorkerStage) (u : ℕ) (served : Served) (x y : JobBoard)
    : Type 0 where
  pub follows : FollowsAt now x (deeds_to_stop stage (worker_in x.pool u) u) y
  pub stopped : x.phase ≡ Stopped → Leads x (deeds_to_stop stage (worker_in x.pool u) u) y
  pub start : IfSome served.start (λ start. (slot : ℕ) × ((worker_in x.pool u ≡ Busy slot)
      × (stage ≡ Asked) × (worker_in y.pool u ≡ Busy slot) × IsStart y.pool.core slot start))
  pub none : IfNone served.start (worker_in y.pool u ≡ Away)
  pub woken : NamesOthers u x y served.woken
  pub more : IsTrue served.more → served.woken.count ≡ MOST_WOKEN
  pub rest : IsFalse served.more → IsAtRest y
  pub over : IsTrue served.over → IsOver y × IsAtRest y
  pub told : IsNone served.start → IsFalse served.more → IsOver y → IsTrue served.over

-- The workers that got a job are named. If no more may start, none may, and the answer says whether
-- all is over.
pub record HasEffect (effect : Effect) (x y : JobBoard) : Type 0 where
  pub woken : NamesWoken x y effect.woken
  pub more : IsTrue effect.more → effect.woken.count ≡ MOST_WOKEN
  pub rest : IsFalse effect.more → IsAtRest y
  pub over : IsTrue effect.over → IsOver y × IsAtRest y
  pub told : IsFalse effect.more → IsOver y → IsTrue effect.over

-- These deeds lead from one board to another, and then decisions at this time. A stopped board
-- makes no decision.
abbrev pub Makes : ℕ → List Deed → JobBoard → JobBoard → Type 0
Makes now own x y = FollowsAt now x own y × (x.phase ≡ Stopped → Leads x own y)

-- What a submit answers.
abbrev pub IsSubmitAnswer : ℕ → JobRequest → Result (ℕ × Effect) SubmitError → JobBoard → JobBoard → Type 0
IsSubmitAnswer now request (Ok answer) x y =
    IsSubmitted now request answer.0 x y × HasEffect answer.1 x y
IsSubmitAnswer now request (Err why) x y = IsRefusal request x why × IsUnchanged x y

-- What a cancel answers.
abbrev pub IsCancelAnswer : ℕ → ℕ → Result (ℕ × Effect) CancelError → JobBoard → JobBoard → Type 0
IsCancelAnswer now ticket (Ok answer) x y =
    IsCancelled now ticket answer.0 x y × HasEffect answer.1 x y
IsCancelAnswer now ticket (Err why) x y = IsNotCancelled ticket x why × IsUnchanged x y

-- What it answers to take a block out of service.
abbrev pub IsTakeOutAnswer : ℕ → ℕ → ℕ → Result Effect BlockError → JobBoard → JobBoard → Type 0
IsTakeOutAnswer now base dim (Ok effect) x y =
    Makes now (occupies (block_at base dim) ∷ []) x y × HasEffect effect x y
IsTakeOutAnswer now base dim (Err why) x y = IsNotTakenOut (block_at base dim) x why × IsUnchanged x y

-- What it answers to put a block back into service.
abbrev pub IsPutBackAnswer : ℕ → ℕ → ℕ → Result Effect BlockError → JobBoard → JobBoard → Type 0
IsPutBackAnswer now base dim (Ok effect) x y =
    Makes now (vacates (block_at base dim) ∷ []) x y × HasEffect effect x y
IsPutBackAnswer now base dim (Err why) x y = IsNotPutBack (block_at base dim) x why × IsUnchanged x y

-- What a close answers.
abbrev pub IsCloseAnswer : ℕ → Bool → Option Effect → JobBoard → JobBoard → Type 0
IsCloseAnswer now do_start (Some effect) x y =
    (IsClosed x → ⊥) × FollowsAt now x (closes ∷ []) y
    × (IsFalse do_start → Leads x (closes ∷ []) y) × (y.phase ≡ phase_after do_start)
    × HasEffect effect x y
IsCloseAnswer now do_start None x y = IsClosed x × IsUnchanged x y

-- What it answers to take a job back.
abbrev pub IsRestAnswer : ℕ → Option RestJob → JobBoard → JobBoard → Type 0
IsRestAnswer from (Some rest) x y = IsClosed x × IsTakenBack from rest x y
IsRestAnswer from None x y =
    (IsClosed x → HasNoneWaiting x.pool.core from) × IsUnchanged x y

-- What it answers to start jobs for workers that wait.
abbrev pub IsSettled : ℕ → Effect → JobBoard → JobBoard → Type 0
IsSettled now effect x y =
    FollowsAt now x [] y × (x.phase ≡ Stopped → y ≡ x) × HasEffect effect x y
