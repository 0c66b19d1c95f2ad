-- The job that is found waits or runs. The decisions come after it was removed.
use Rattle.std.proofs.Common.{◌≡◌, ℕ, ◌<◌, inl, [], ◌∷◌, List, length, refl, sym, ◌∙◌, ap, subst}
use Rattle.sched_law.specs.declared.job.Place.{Place}
use Rattle.sched_law.specs.declared.job.Place.TheVariants.{Absent, Waiting, Running}
use Rattle.sched_law.specs.declared.job.SchedRun.{SchedRun}
use Rattle.sched_law.specs.declared.job.SchedWait.{SchedWait}
use Rattle.sched_jobs.specs.Slots.{IsPresent}
use Rattle.sched_core.specs.declared.scheduler.Core.{Core}
use Rattle.sched_core.specs.Shows.{IsTaken, job_arrival, job_place, job_ticket, slots_of}
use Rattle.sched_board.specs.declared.workers.PoolWorker.{PoolWorker}
use Rattle.sched_law.specs.Team.Deed.{cancels}
use Rattle.sched_board.specs.declared.board.JobBoard.{JobBoard}
use Rattle.sched_board.proofs.FollowLemmas.{at_then, leads_stopped}
use Rattle.sched_board.proofs.ServeLemmas.{names_after}
use Rattle.sched_board.proofs.board.JobBoard.recall.Goals as goal

-- a job that is not over, and does not wait, runs
found_runs : (p : Place) → IsPresent p → ((wait : SchedWait) → p ≡ Waiting wait → ⊥) → (run : SchedRun) × (p ≡ Running run)
found_runs Absent present waits = absurd present
found_runs (Waiting wait) present waits = absurd (waits wait refl)
found_runs (Running run) present waits = (run, refl)

-- what `find` says of a slot
abbrev IsFound : ℕ → ℕ → Core → Type 0
IsFound ticket slot core = slot < slots_of core × IsTaken core slot × (ticket ≡ job_ticket core slot)

pub returns-in_default-place : goal.returns-in_default-place
returns-in_default-place c =
    let core = c.args.self.now.pool.core in
    let slot = c.in-Some.slot in
    let found = subst (IsFound c.args.ticket c.in-Some.slot) c.scheduler.ensures c.in-Some.ensures.found in
    let at : c.place.result ≡ job_place core slot = c.place.ensures ∙ ap (λ (core : Core). job_place core slot) c.scheduler-2.ensures in
    record {
      cancelled = tt;
      serves = λ u other. inl refl;
      woken = tt;
      more = tt;
      rest = tt;
      over = tt;
      told = tt;
      why = (slot, found.0, found.2, found_runs (job_place core slot) found.1 (λ wait e. c.in_default-place.not-Waiting wait (at ∙ e)));
      unchanged = (refl, refl, refl);
      count = refl;
      phase = refl;
    }

pub returns-clause-cancelled : goal.returns-clause-cancelled
returns-clause-cancelled c =
    let x : JobBoard = c.args.self.now in
    let y : JobBoard = c.cancel.new.self in
    let slot = c.in-Some.slot in
    let found = subst (IsFound c.args.ticket c.in-Some.slot) c.scheduler.ensures c.in-Some.ensures.found in
    let count = ap (λ (ws : List PoolWorker). length ws) c.cancel.ensures.workers in
    record {
      slot = slot;
      inside = found.0;
      named = found.2;
      wait = c.in-Waiting.wait;
      waited = sym (c.in-Waiting.ensures ∙ ap (λ (core : Core). job_place core slot) c.scheduler-2.ensures);
      payload_of = refl;
      follows = at_then c.args.now x y c.settle.new.self (cancels (job_arrival x.pool.core slot) ∷ []) [] count c.cancel.ensures.leads
          c.settle.ensures.follows;
      stopped = leads_stopped x y c.settle.new.self (cancels (job_arrival x.pool.core slot) ∷ []) c.cancel.ensures.phase c.cancel.ensures.leads
          c.settle.ensures.stopped;
    }

pub returns-clause-woken : goal.returns-clause-woken
returns-clause-woken c =
    names_after c.args.self.now c.cancel.new.self c.settle.new.self c.settle.result.woken c.cancel.ensures.workers c.settle.ensures.woken
