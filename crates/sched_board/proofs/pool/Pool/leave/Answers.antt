-- The worker had no job and has none, and no more workers wait.
use Rattle.std.proofs.Common.{◌≡◌, ◌≢◌, ℕ, sym, ◌∙◌, ◌≤◌, ap, length, subst, List}
use Rattle.sched_board.specs.declared.workers.TheConstants.{MAX_WORKERS}
use Rattle.sched_board.specs.declared.workers.PoolWorker.{PoolWorker}
use Rattle.sched_board.specs.Workers.{does}
use Rattle.sched_board.specs.Pool.{PoolData}
use Rattle.sched_board.proofs.PoolLemmas.{away_has_none, away_waits_not, idle_staffed, none_more, rewritten, waiting_has_none}
use Rattle.sched_board.proofs.pool.Pool.leave.Goals as goal

pub invariant_of-self : goal.invariant_of-self
invariant_of-self c =
    let old = c.self.inside.workers.items in
    let new = c.put_state.new.workers in
    let count : length new ≡ length old = c.put_state.ensures.count ∙ ap length c.deref_mut.ensures.value in
    let others = λ (u : ℕ) (other : u ≢ c.args.worker). c.put_state.ensures.others u other ∙ ap (λ (ws : List PoolWorker). does ws u) c.deref_mut.ensures.value in
    let waits = ap (λ (x : PoolData). does x.workers c.args.worker) c.self.view_is ∙ c.requires.waits in
    rewritten c.self.inside.scheduler old new c.self.inside.first count (record {
      limit = subst (λ k. k ≤ MAX_WORKERS) (sym count) c.self.invariant.limit;
      staffed = idle_staffed old new c.args.worker others c.self.inside.scheduler (waiting_has_none waits) (away_has_none c.put_state.ensures.here) c.self.invariant.staffed;
      none_before = none_more old new c.args.worker others 0 c.self.inside.first (away_waits_not c.put_state.ensures.here) c.self.invariant.none_before;
    })
