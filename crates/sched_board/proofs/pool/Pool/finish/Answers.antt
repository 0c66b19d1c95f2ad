-- The job of the worker is over, and the worker has none. The other workers have their jobs.
use Rattle.std.proofs.Common.{◌≡◌, ◌≢◌, ℕ, sym, ◌∙◌, ◌≤◌, ap, length, subst, List}
use Rattle.sched_board.specs.declared.workers.TheConstants.{MAX_WORKERS}
use Rattle.sched_board.specs.declared.workers.PoolWorker.{PoolWorker}
use Rattle.sched_board.specs.declared.workers.PoolWorker.TheVariants.{Busy}
use Rattle.sched_board.specs.Workers.{does}
use Rattle.sched_board.proofs.PoolLemmas.{away_has_none, away_waits_not, none_more, over_staffed, rewritten}
use Rattle.sched_board.proofs.pool.Pool.finish.Goals as goal

pub invariant_of-self : goal.invariant_of-self
invariant_of-self c =
    let old = c.self.inside.workers.items in
    let new = c.put_state.new.workers in
    let count : length new ≡ length old = c.put_state.ensures.count ∙ ap length c.deref_mut.ensures.value in
    let others = λ (u : ℕ) (other : u ≢ c.args.worker). c.put_state.ensures.others u other ∙ ap (λ (ws : List PoolWorker). does ws u) c.deref_mut.ensures.value in
    let had : does old c.args.worker ≡ Busy c.in-Busy.slot = ap (λ (ws : List PoolWorker). does ws c.args.worker) (sym c.deref.ensures.value) ∙ sym c.in-Busy.ensures in
    rewritten c.finish.new.self old new c.self.inside.first count (record {
      limit = subst (λ k. k ≤ MAX_WORKERS) (sym count) c.self.invariant.limit;
      staffed = over_staffed old new c.args.worker others c.self.inside.scheduler c.finish.new.self c.in-Busy.slot had (away_has_none c.put_state.ensures.here)
          c.finish.ensures.slots c.finish.ensures.place c.finish.ensures.others c.self.invariant.staffed;
      none_before = none_more old new c.args.worker others 0 c.self.inside.first (away_waits_not c.put_state.ensures.here) c.self.invariant.none_before;
    })
