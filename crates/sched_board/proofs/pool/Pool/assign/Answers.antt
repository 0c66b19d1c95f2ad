-- The jobs that ran run on. The worker gets the one that starts, if one does.
use Rattle.std.proofs.Common.{◌≡◌, ◌≢◌, ℕ, inl, inr, refl, sym, ◌∙◌, ◌≤◌, ap, length, subst, Some, None, List, arith}
use Rattle.sched_law.proofs.SetLemmas.{none_is_some, same}
use Rattle.sched_core.specs.Shows.{IsTaken, job_place}
use Rattle.sched_core.proofs.JobLemmas.{running_present}
use Rattle.sched_board.specs.declared.workers.TheConstants.{MAX_WORKERS}
use Rattle.sched_board.specs.declared.workers.PoolWorker.{PoolWorker}
use Rattle.sched_board.specs.declared.workers.PoolWorker.TheVariants.{Waiting}
use Rattle.sched_board.specs.Workers.{does, none_waits_in}
use Rattle.sched_board.proofs.RunLemmas.{slot_ran, slot_runs_on, slot_waited}
use Rattle.sched_board.proofs.PoolLemmas.{kept_staffed, none_below, none_joined, rewritten, started_staffed, waiting_has_none}
use Rattle.sched_board.proofs.pool.Pool.assign.Goals as goal

pub invariant_of-self : goal.invariant_of-self
invariant_of-self c =
    let w = c.shows_a_state.ensures.0 in
    let k = c.shows_a_state.ensures.1 in
    let after = c.in_default-next.ensures.decides w k in
    let old = c.self.inside.scheduler in
    let new = c.next.new.self in
    record {
      limit = c.self.invariant.limit;
      staffed = kept_staffed old new c.self.inside.workers.items
          (slot_runs_on w after.0 c.args.now old new None k after.2 c.next.ensures.slots c.next.ensures.keeps after.1)
          (λ s runs. elim (slot_ran w after.0 c.args.now old new None k after.2 c.next.ensures.slots c.next.ensures.keeps after.1 (λ t some. absurd (none_is_some some)) s runs) [
            | inl starts ↦ absurd (none_is_some starts)
            | inr ran ↦ ran
          ])
          c.self.invariant.staffed;
      none_before = c.self.invariant.none_before;
    }

pub invariant_of-self-2 : goal.invariant_of-self-2
invariant_of-self-2 c =
    let w = c.shows_a_state.ensures.0 in
    let k = c.shows_a_state.ensures.1 in
    let after = c.in-Some-next.ensures.decides w k in
    let before = c.self.inside.scheduler in
    let now = c.next.new.self in
    let slot = c.in-Some-next.slot in
    let run = c.in-Some-next.ensures.runs in
    let old = c.self.inside.workers.items in
    let new = c.put_state.new.workers in
    let n = c.in-Some.worker in
    let count : length new ≡ length old = c.put_state.ensures.count ∙ ap length c.deref_mut.ensures.value in
    let others = λ (u : ℕ) (other : u ≢ n). c.put_state.ensures.others u other ∙ ap (λ (ws : List PoolWorker). does ws u) c.deref_mut.ensures.value in
    let waits : does old n ≡ Waiting = ap (λ (ws : List PoolWorker). does ws n) (sym c.deref.ensures.value) ∙ c.in-Some.ensures.waits in
    let first : none_waits_in old c.self.inside.first n = subst (λ (ws : List PoolWorker). none_waits_in ws c.self.inside.first n) c.deref.ensures.value c.in-Some.ensures.first in
    let taken = λ (t : ℕ) (some : Some slot ≡ Some t). subst (IsTaken now) (same some) (running_present (job_place now slot) run.0 run.1) in
    rewritten now old new n count (record {
      limit = subst (λ m. m ≤ MAX_WORKERS) (sym count) c.self.invariant.limit;
      staffed = started_staffed old new n others before now slot (waiting_has_none waits) c.put_state.ensures.here
          (slot_runs_on w after.0 c.args.now before now (Some slot) k after.2 c.next.ensures.slots c.next.ensures.keeps after.1)
          (λ s runs. elim (slot_ran w after.0 c.args.now before now (Some slot) k after.2 c.next.ensures.slots c.next.ensures.keeps after.1 taken s runs) [
            | inl starts ↦ inl (same starts)
            | inr ran ↦ inr ran
          ])
          (slot_waited w after.0 c.args.now before now (Some slot) k after.2 c.next.ensures.slots c.next.ensures.keeps after.1 slot refl)
          (c.in-Some-next.ensures.inside, run)
          c.self.invariant.staffed;
      none_before = none_below old new n others 0 n (omega arith) (none_joined old c.self.inside.first n c.self.invariant.none_before first);
    })
