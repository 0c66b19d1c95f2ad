-- The team that a board shows after a call.
use Rattle.std.proofs.Common.{◌≡◌, ◌≢◌, ℕ, inl, inr, Bool, true, false, List, refl, sym, ◌∙◌, ap}
use Rattle.std.proofs.lemmas.Bool.{cases_eq}
use Rattle.sched_law.specs.State.{Sched, set}
use Rattle.sched_law.proofs.SetLemmas.{set_else, set_here}
use Rattle.sched_core.specs.declared.scheduler.Core.{Core}
use Rattle.sched_core.specs.Shows.{HasSameJobs, IsTaken, ShowsCore, job_arrival, job_place}
use Rattle.sched_core.proofs.JobLemmas.{running_present}
use Rattle.sched_board.specs.declared.workers.PoolWorker.{PoolWorker}
use Rattle.sched_board.specs.declared.workers.PoolWorker.TheVariants.{Away, Waiting, Busy}
use Rattle.sched_board.specs.Workers.{does}
use Rattle.sched_board.specs.Pool.{IsStaffed, KeepsWorkers, worker_in}
use Rattle.sched_law.specs.Team.{Does, Team}
use Rattle.sched_law.specs.Team.Does.{away, waits, has}
use Rattle.sched_board.specs.declared.board.JobBoard.{JobBoard}
use Rattle.sched_board.specs.JobBoard.{ShowsTeam, does_in, is_closed}

-- ---- what a worker does

away_waits : away ≡ waits → ⊥
away_waits e = cc

has_waits : {j : ℕ} → has j ≡ waits → ⊥
has_waits e = cc

pub waits_waiting : (core : Core) (p : PoolWorker) → does_in core p ≡ waits → p ≡ Waiting
waits_waiting core Away e = absurd (away_waits e)
waits_waiting core Waiting e = refl
waits_waiting core (Busy slot) e = absurd (has_waits e)

-- a job that keeps its number is the same one
pub does_kept : (old new : Core) (p : PoolWorker) → ((slot : ℕ) → p ≡ Busy slot → job_arrival new slot ≡ job_arrival old slot)
    → does_in new p ≡ does_in old p
does_kept old new Away kept = refl
does_kept old new Waiting kept = refl
does_kept old new (Busy slot) kept = ap has (kept slot refl)

-- the same jobs have the same numbers
pub same_arrival : (old new : Core) → HasSameJobs old new → (slot : ℕ) → job_arrival new slot ≡ job_arrival old slot
same_arrival old new same slot = cc

-- the job of a worker is in its slot
pub busy_taken : (core : Core) (workers : List PoolWorker) (u slot : ℕ) → IsStaffed core workers → does workers u ≡ Busy slot → IsTaken core slot
busy_taken core workers u slot staffed busy =
    let runs = staffed.runs u slot busy in
    running_present (job_place core slot) (runs.1).0 (runs.1).1

-- ---- the team

-- what each worker does, as the board says it
pub shown : (t : Team) (x : JobBoard) (u : ℕ) (p : PoolWorker) → ShowsTeam t x → worker_in x.pool u ≡ p → t.does u ≡ does_in x.pool.core p
shown t x u p k is = k.workers u ∙ ap (does_in x.pool.core) is

-- the workers do the same
pub shows_same : (t : Team) (w : Sched) (x y : JobBoard) → ShowsTeam t x → ShowsCore w y.pool.core → y.pool.workers ≡ x.pool.workers → y.phase ≡ x.phase
    → ((u slot : ℕ) → worker_in x.pool u ≡ Busy slot → job_arrival y.pool.core slot ≡ job_arrival x.pool.core slot)
    → ShowsTeam (record t { sched = w }) y
shows_same t w x y k core same phase kept = record {
  core = core;
  workers = λ u. k.workers u ∙ sym (does_kept x.pool.core y.pool.core (worker_in x.pool u) (kept u))
      ∙ ap (λ (ws : List PoolWorker). does_in y.pool.core (does ws u)) (sym same);
  closed = k.closed ∙ ap is_closed (sym phase);
}

-- one worker does something else
pub shows_set : (t : Team) (w : Sched) (n : ℕ) (d : Does) (x y : JobBoard) → ShowsTeam t x → ShowsCore w y.pool.core
    → d ≡ does_in y.pool.core (worker_in y.pool n) → KeepsWorkers x.pool y.pool n → y.phase ≡ x.phase
    → ((u slot : ℕ) → u ≢ n → worker_in x.pool u ≡ Busy slot → job_arrival y.pool.core slot ≡ job_arrival x.pool.core slot)
    → ShowsTeam (record t { sched = w; does = set t.does n d }) y
shows_set t w n d x y k core is others phase kept = record {
  core = core;
  workers = λ u. elim (cases_eq u n) [
    | inl here ↦ ap (set t.does n d) here ∙ set_here t.does n d ∙ is ∙ ap (λ m. does_in y.pool.core (worker_in y.pool m)) (sym here)
    | inr other ↦ set_else t.does n d u other ∙ k.workers u
        ∙ sym (does_kept x.pool.core y.pool.core (worker_in x.pool u) (λ slot busy. kept u slot other busy))
        ∙ ap (does_in y.pool.core) (sym (others u other))
  ];
  closed = k.closed ∙ ap is_closed (sym phase);
}

-- ---- phases

not_true : (b : Bool) → (b ≡ true → ⊥) → b ≡ false
not_true true opens = absurd (opens refl)
not_true false opens = refl

pub open_team : (t : Team) (x : JobBoard) → ShowsTeam t x → (is_closed x.phase ≡ true → ⊥) → t.closed ≡ false
open_team t x k opens = k.closed ∙ not_true (is_closed x.phase) opens
