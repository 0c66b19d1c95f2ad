-- The decisions come after the job. They change no generation, so its ticket is still its own.
use Rattle.std.proofs.Common.{◌≡◌, ℕ, ◌<◌, [], ◌∷◌, List, length, sym, ◌∙◌, ap, subst}
use Rattle.sched_law.specs.Law.{IsSound}
use Rattle.sched_core.specs.declared.scheduler.Core.{Core}
use Rattle.sched_core.specs.Shows.{KeepsGenerations, dim_of, job_place, job_ticket}
use Rattle.sched_core.proofs.JobLemmas.{waiting_present}
use Rattle.sched_board.specs.declared.workers.PoolWorker.{PoolWorker}
use Rattle.sched_law.specs.Team.Deed.{submits}
use Rattle.sched_board.specs.declared.board.JobBoard.{JobBoard}
use Rattle.sched_board.proofs.FollowLemmas.{at_then}
use Rattle.sched_board.proofs.ServeLemmas.{names_after}
use Rattle.sched_board.proofs.board.JobBoard.accept.Goals as goal

-- a job of as many before it has the same ticket
kept_ticket : (old new : Core) (slot : ℕ) → KeepsGenerations old new → job_ticket new slot ≡ job_ticket old slot
kept_ticket old new slot kept = let same = kept slot in cc

pub returns-in-Ok-clause-accepted : goal.returns-in-Ok-clause-accepted
returns-in-Ok-clause-accepted c =
    let x : JobBoard = c.args.self.now in
    let y : JobBoard = c.submit.new.self in
    let job = c.job_of.result in
    let slot = c.in-Ok.slot in
    let count = ap (λ (ws : List PoolWorker). length ws) c.in-Ok.ensures.workers in
    let kept = c.settle.ensures.keeps slot (waiting_present (job_place y.pool.core slot) (record { job = job; passed = 0 }) c.in-Ok.ensures.place) in
    record {
      job = job;
      asked = c.job_of.ensures.asked;
      sound = subst (λ n. IsSound n job) (c.dim-n.ensures.dim ∙ ap dim_of c.scheduler.ensures) c.job_of.ensures.sound;
      follows = at_then c.args.now x y c.settle.new.self (submits job ∷ []) [] count c.in-Ok.ensures.leads c.settle.ensures.follows;
      slot = slot;
      inside = subst (λ n. slot < n) (sym c.settle.ensures.slots) c.in-Ok.ensures.inside;
      taken = kept.0;
      arrival = kept.1 ∙ c.in-Ok.ensures.arrival;
      named = c.ticket-ticket.ensures.ticket ∙ ap (λ (core : Core). job_ticket core slot) c.scheduler-in-Ok.ensures
          ∙ sym (kept_ticket y.pool.core c.settle.new.self.pool.core slot c.settle.ensures.generations);
    }

pub returns-in-Ok-clause-woken : goal.returns-in-Ok-clause-woken
returns-in-Ok-clause-woken c =
    names_after c.args.self.now c.submit.new.self c.settle.new.self c.settle.result.woken c.in-Ok.ensures.workers c.settle.ensures.woken
