-- A desk after a turn.
use Rattle.std.proofs.Common.{◌≡◌, ◌≢◌, ℕ, ◌≤◌, inl, inr, Option, Some, None, IfSome, IfNone, List, length, take, drop, ◌++◌, sym, refl, ap, ◌∙◌, subst}
use Rattle.std.specs.List.{refill, slice_index_or}
use Rattle.std.proofs.Math.Seq.{take-append_seam}
use mathlib.Core.Logic.{dite}
use native.Mathlib.Decide.{ℕ_discrete}
use Rattle.sched_board.specs.declared.workers.TheConstants.{MAX_WORKERS}
use Rattle.sched_board.specs.declared.workers.PoolWorker.{PoolWorker}
use Rattle.sched_board.specs.declared.workers.PoolWorker.TheVariants.{Away, Busy, Waiting}
use Rattle.sched_board.specs.Pool.{worker_in, workers_of}
use Rattle.sched_board.specs.declared.board.JobBoard.{JobBoard}
use Rattle.sched_board.specs.JobBoard.{IsServed, Serves}
use Rattle.sched_threads.specs.declared.chair.Chair.{Chair}
use Rattle.sched_threads.specs.declared.chair.Chair.TheVariants.{Free, Out, Asked, Has}
use Rattle.sched_board.specs.declared.serving.WorkerStage.{WorkerStage}
use Rattle.sched_board.specs.declared.serving.WorkerStage.TheVariants.{Asked as Waits}
use Rattle.sched_threads.specs.Desk.{DeskData, FitsChair, IsDesk, chair_of, stage_of, stage_to_end}

-- A worker that waits may get a job. What is known of its thread fits then too.
fits_served : (chair : Chair) (before now : PoolWorker)
    → FitsChair chair before
    → IsServed before now
    → FitsChair chair now
fits_served chair before now fits (inl same) = subst (FitsChair chair) (sym same) fits
fits_served Free before now fits (inr got) = let no_way : Away ≡ Waiting = sym fits ∙ got.0 in cc
fits_served Out before now fits (inr got) = let no_way : Away ≡ Waiting = sym fits ∙ got.0 in cc
fits_served Asked before now fits (inr got) = λ e. let no_way : Away ≡ Busy got.1.0 = sym e ∙ got.1.1 in cc
fits_served Has before now fits (inr got) = let no_way : Busy fits.0 ≡ Waiting = sym fits.1 ∙ got.0 in cc

rewritten : (board : JobBoard) (old new : List Chair)
    → length new ≡ length old
    → IsDesk (record { board = board; chairs = new })
    → IsDesk (record { board = board; chairs = refill (length old) old new })
rewritten board old new count is =
    subst (λ (cs : List Chair). IsDesk (record { board = board; chairs = cs }))
    (sym (ap (λ k. take k (new ++ drop (length new) old)) (sym count) ∙ take-append_seam new (drop (length new) old))) is

-- The turn of a worker.
pub desk_after : (old : DeskData) (board : JobBoard) (chairs : List Chair) (u : ℕ)
    → IsDesk old
    → length chairs ≡ length old.chairs
    → ((v : ℕ) → v ≢ u → slice_index_or chairs v Free ≡ chair_of old v)
    → Serves (Some u) old.board board
    → workers_of board.pool ≡ workers_of old.board.pool
    → FitsChair (slice_index_or chairs u Free) (worker_in board.pool u)
    → IsDesk (record { board = board; chairs = refill (length old.chairs) old.chairs chairs })
desk_after old board chairs u is count others serves workers here = rewritten board old.chairs chairs count record {
  count = count ∙ (is.count ∙ sym workers);
  limit = subst (λ (k : ℕ). k ≤ MAX_WORKERS) (sym count) is.limit;
  fits = λ v. dite (ℕ_discrete v u)
      (λ e. subst (λ (w : ℕ). FitsChair (slice_index_or chairs w Free) (worker_in board.pool w)) (sym e) here)
      (λ ne. subst (λ (c : Chair). FitsChair c (worker_in board.pool v)) (sym (others v ne))
      (fits_served (chair_of old v) (worker_in old.board.pool v) (worker_in board.pool v) (is.fits v)
      (serves v (λ same. let some : Some u ≡ Some v = same in let eq : u ≡ v = cc in ne (sym eq)))));
}

-- The turn of a thread that is no worker.
pub desk_same : (old : DeskData) (board : JobBoard)
    → IsDesk old
    → Serves None old.board board
    → workers_of board.pool ≡ workers_of old.board.pool
    → IsDesk (record { board = board; chairs = old.chairs })
desk_same old board is serves workers = record {
  count = is.count ∙ sym workers;
  limit = is.limit;
  fits = λ v. fits_served (chair_of old v) (worker_in old.board.pool v) (worker_in board.pool v) (is.fits v) (serves v (λ same. let no_way : None ≡ Some v = same in cc));
}

-- A thread is a worker from now on, or no longer.
pub desk_seated : (old : DeskData) (chairs : List Chair) (u : ℕ)
    → IsDesk old
    → length chairs ≡ length old.chairs
    → ((v : ℕ) → v ≢ u → slice_index_or chairs v Free ≡ chair_of old v)
    → FitsChair (slice_index_or chairs u Free) (worker_in old.board.pool u)
    → IsDesk (record { board = old.board; chairs = refill (length old.chairs) old.chairs chairs })
desk_seated old chairs u is count others here = desk_after old old.board chairs u is count others (λ v ne. inl refl) refl here

-- What is known of a worker's thread after a turn: it has a job, if it got one.
pub fits_with : {A : Type 0} (start : Option A) (Got : A → Type 0) (chair other : Chair)
    (now : PoolWorker)
    → IfSome start (λ _. chair ≡ Has)
    → IfNone start (chair ≡ other)
    → IfSome start Got
    → ((it : A) → Got it → FitsChair Has now)
    → (start ≡ None → FitsChair other now)
    → FitsChair chair now
fits_with (Some it) Got chair other now has no_job got gets waits = subst (λ (c : Chair). FitsChair c now) (sym has) (gets it got)
fits_with None Got chair other now has no_job got gets waits = subst (λ (c : Chair). FitsChair c now) (sym no_job) (waits refl)

-- ---- a worker whose thread is gone

-- A worker that has a job does not just cease to wait.
ends_job : (chair : Chair) (now : PoolWorker) (slot : ℕ)
    → now ≡ Busy slot
    → stage_to_end chair now ≡ Waits
    → ⊥
ends_job Free now slot busy waits = cc
ends_job Out now slot busy waits = cc
ends_job Asked Away slot busy waits = cc
ends_job Asked Waiting slot busy waits = cc
ends_job Asked (Busy other) slot busy waits = cc
ends_job Has now slot busy waits = cc

-- So it gets no job.
pub gets_none : {A : Type 0} (start : Option A) (Got : A → Type 0) (chair : Chair)
    (before now : PoolWorker) (stage : WorkerStage)
    → before ≡ now
    → stage ≡ stage_to_end chair before
    → IfSome start Got
    → ((it : A) → Got it → (slot : ℕ) × ((now ≡ Busy slot) × (stage ≡ Waits)))
    → start ≡ None
gets_none (Some it) Got chair before now stage same is got had =
    let job = had it got in
    absurd (ends_job chair before job.0 (same ∙ (job.1).0) (sym is ∙ (job.1).1))
gets_none None Got chair before now stage same is got had = refl

pub if_none : {A : Type 0} (start : Option A) (P : Type 0) → start ≡ None → IfNone start P → P
if_none start P none is = subst (λ o. IfNone o P) none is

-- If the thread has seen the worker's job, it knows what ends what the worker does.
pub ends_seen : (chair : Chair) (now : PoolWorker)
    → ((chair ≡ Asked) × ((slot : ℕ) × (now ≡ Busy slot)) → ⊥)
    → stage_to_end chair now ≡ stage_of chair
ends_seen Free now seen = refl
ends_seen Out now seen = refl
ends_seen Asked Away seen = refl
ends_seen Asked Waiting seen = refl
ends_seen Asked (Busy slot) seen = absurd (seen (refl, (slot, refl)))
ends_seen Has now seen = refl
