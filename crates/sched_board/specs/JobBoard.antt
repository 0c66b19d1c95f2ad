-- What threads share, and how a turn changes it.
use Rattle.std.specs.Prelude.{◌≡◌, ℕ, ◌<◌, ◌≤◌, ◌⊎◌, Bool, true, false, Option, Some, List, [], ◌∷◌, ◌++◌}
use Rattle.cube_shape.specs.declared.region.Region.{Region}
use Rattle.sched_core.specs.declared.scheduler.Core.{Core}
use Rattle.sched_law.specs.declared.job.TheConstants.{NEVER}
use Rattle.sched_law.specs.State.{Sched, IsVacant}
use Rattle.sched_law.specs.Policy.{IsSettled}
use Rattle.sched_core.specs.Shows.{IsSpent, IsTaken, ShowsCore, job_arrival, slots_of, submitted_of}
use Rattle.sched_board.specs.declared.workers.PoolWorker.{PoolWorker}
use Rattle.sched_board.specs.declared.workers.PoolWorker.TheVariants.{Away, Waiting, Busy}
use Rattle.sched_board.specs.Pool.{HasNoneIdle, HasSameCore, HasSameWorkers, worker_in, workers_of}
use Rattle.sched_law.specs.Team.{Deed, Does, May, Team, after, opened}
use Rattle.sched_law.specs.Team.Deed.{settles, starts}
use Rattle.sched_law.specs.Team.Does.{away, has, waits}
use Rattle.sched_board.specs.declared.board.JobBoard.{JobBoard}
use Rattle.sched_board.specs.declared.board.BoardPhase.{BoardPhase}
use Rattle.sched_board.specs.declared.board.BoardPhase.TheVariants.{Open, Closing, Stopped}
use Rattle.sched_board.specs.declared.board.BoardRefusal.{BoardRefusal}
use Rattle.sched_board.specs.declared.board.BoardRefusal.TheVariants.{Closed, Full}
use Rattle.sched_board.specs.declared.sizes.ThreadSizes.{ThreadSizes}
use Rattle.sched_board.specs.declared.woken.TheConstants.{MOST_WOKEN}
use Rattle.sched_board.specs.declared.woken.Woken.{Woken}
use Rattle.sched_board.specs.Woken.{AreApart, Has}

-- ---- the team that a board shows

-- Whether jobs may come no more.
abbrev pub is_closed : BoardPhase → Bool
is_closed Open = false
is_closed Closing = true
is_closed Stopped = true

-- What a worker does, by the number of its job.
abbrev pub does_in : Core → PoolWorker → Does
does_in core Away = away
does_in core Waiting = waits
does_in core (Busy slot) = has (job_arrival core slot)

-- The board has the scheduler, the workers and the mark of the team.
pub record ShowsTeam (t : Team) (x : JobBoard) : Type 0 where
  pub core : ShowsCore t.sched x.pool.core
  pub workers : (u : ℕ) → t.does u ≡ does_in x.pool.core (worker_in x.pool u)
  pub closed : t.closed ≡ is_closed x.phase

-- The board of a new scheduler of these sizes.
pub record IsFresh (sizes : ThreadSizes) (x : JobBoard) : Type 0 where
  pub shows : ShowsTeam (opened sizes.dim sizes.patience) x
  pub workers : workers_of x.pool ≡ sizes.workers
  pub slots : slots_of x.pool.core ≡ sizes.jobs
  pub away : (u : ℕ) → worker_in x.pool u ≡ Away

-- ---- deeds

-- The team after some deeds, the newest first.
abbrev pub after_all : Team → List Deed → Team
after_all t [] = t
after_all t (deed ∷ deeds) = after (after_all t deeds) deed

-- Each of these deeds is allowed after those before it.
abbrev pub MayAll : ℕ → Team → List Deed → Type 0
MayAll workers t [] = Unit {0}
MayAll workers t (deed ∷ deeds) =
    May workers (after_all t deeds) deed × MayAll workers t deeds

-- The deed is a decision.
abbrev pub IsDecision : Deed → Type 0
IsDecision (starts now u j v) = Unit {0}
IsDecision (settles now v) = Unit {0}
IsDecision _ = ⊥

-- All of these deeds are decisions.
abbrev pub AreDecisions : List Deed → Type 0
AreDecisions [] = Unit {0}
AreDecisions (deed ∷ deeds) = IsDecision deed × AreDecisions deeds

-- From each team that the first board shows, these deeds, the newest first, lead to one that the
-- second shows.
abbrev pub Leads : JobBoard → List Deed → JobBoard → Type 0
Leads x own y =
    (t : Team) → ShowsTeam t x
    → MayAll (workers_of x.pool) t own × ShowsTeam (after_all t own) y

-- From each team that the first board shows, some deeds lead to one that the second shows. They are
-- those that are named, the newest first, and then decisions.
abbrev pub Follows : JobBoard → List Deed → JobBoard → Type 0
Follows x own y =
    (t : Team) → ShowsTeam t x → (decided : List Deed) × AreDecisions decided
    × MayAll (workers_of x.pool) t (decided ++ own) × ShowsTeam (after_all t (decided ++ own)) y

-- The deed is a decision at this time.
abbrev pub IsDecisionAt : ℕ → Deed → Type 0
IsDecisionAt time (starts now u j v) = now ≡ time
IsDecisionAt time (settles now v) = now ≡ time
IsDecisionAt time _ = ⊥

-- All of these deeds are decisions at this time.
abbrev pub AreDecisionsAt : ℕ → List Deed → Type 0
AreDecisionsAt time [] = Unit {0}
AreDecisionsAt time (deed ∷ deeds) = IsDecisionAt time deed × AreDecisionsAt time deeds

-- From each team that the first board shows, decisions at this time lead to one that the second
-- shows.
abbrev pub DecidesAt : ℕ → JobBoard → JobBoard → Type 0
DecidesAt time x y =
    (t : Team) → ShowsTeam t x → (decided : List Deed) × AreDecisionsAt time decided
    × MayAll (workers_of x.pool) t decided × ShowsTeam (after_all t decided) y

-- From each team that the first board shows, some deeds lead to one that the second shows. They are
-- those that are named, the newest first, and then decisions at this time.
abbrev pub FollowsAt : ℕ → JobBoard → List Deed → JobBoard → Type 0
FollowsAt now x own y =
    (t : Team) → ShowsTeam t x → (decided : List Deed) × AreDecisionsAt now decided
    × MayAll (workers_of x.pool) t (decided ++ own) × ShowsTeam (after_all t (decided ++ own)) y

-- ---- workers

-- A worker does the same as before, or it waited and has a job now.
abbrev pub IsServed : PoolWorker → PoolWorker → Type 0
IsServed before now =
    (now ≡ before) ⊎ ((before ≡ Waiting) × ((slot : ℕ) × (now ≡ Busy slot)))

-- All workers but one, if there is one, do the same as before, or got a job for which they waited.
abbrev pub Serves : Option ℕ → JobBoard → JobBoard → Type 0
Serves me x y =
    (u : ℕ) → (me ≡ Some u → ⊥) → IsServed (worker_in x.pool u) (worker_in y.pool u)

-- The workers that waited and have a job now are those that are named, each once.
pub record NamesWoken (x y : JobBoard) (woken : Woken) : Type 0 where
  pub all : (u slot : ℕ) → worker_in x.pool u ≡ Waiting → worker_in y.pool u ≡ Busy slot
      → Has woken u
  pub only : (u : ℕ) → Has woken u
      → (worker_in x.pool u ≡ Waiting) × ((slot : ℕ) × (worker_in y.pool u ≡ Busy slot))
  pub apart : AreApart woken
  pub limit : woken.count ≤ MOST_WOKEN

-- ---- the phase

-- Jobs may come no more.
abbrev pub IsClosed : JobBoard → Type 0
IsClosed x = is_closed x.phase ≡ true

-- The phase of a board that was closed: whether the jobs that wait may start.
abbrev pub phase_after : Bool → BoardPhase
phase_after true = Closing
phase_after false = Stopped

-- Whether jobs may come, and start, is as before.
abbrev pub KeepsPhase : JobBoard → JobBoard → Type 0
KeepsPhase x y = y.phase ≡ x.phase

-- The scheduler, what the workers do, and whether jobs may come, are as before.
abbrev pub IsUnchanged : JobBoard → JobBoard → Type 0
IsUnchanged x y = HasSameCore x.pool y.pool × HasSameWorkers x.pool y.pool × KeepsPhase x y

-- No job may start for a worker that waits.
abbrev pub IsAtRest : JobBoard → Type 0
IsAtRest x =
    (x.phase ≡ Stopped) ⊎ (HasNoneIdle x.pool
    ⊎ ((v : Sched) × (IsSettled v × ShowsCore v x.pool.core)))

-- Why a job is refused: jobs may come no more, or no slot can have it.
abbrev pub HasReason : JobBoard → BoardRefusal → Type 0
HasReason x Closed = IsClosed x
HasReason x Full =
    (submitted_of x.pool.core ≡ NEVER) ⊎ ((slot : ℕ) → slot < slots_of x.pool.core
    → IsTaken x.pool.core slot ⊎ IsSpent x.pool.core slot)

-- ---- blocks

-- A part of the block is held or out of service.
abbrev pub IsInUse : Region → Core → Type 0
IsInUse r core = (w : Sched) → ShowsCore w core → IsVacant w r → ⊥

-- The block is not out of service as one block.
abbrev pub IsNotOut : Region → Core → Type 0
IsNotOut r core = (w : Sched) → ShowsCore w core → w.occupied r.base ≡ Some r → ⊥
