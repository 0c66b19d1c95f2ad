-- The worker had no job and has none. No worker below it or below the old mark waits.
use Rattle.std.proofs.Common.{◌≡◌, ◌≢◌, ℕ, sym, ◌∙◌, ◌≤◌, ap, length, subst, arith, List}
use Rattle.sched_board.specs.declared.workers.TheConstants.{MAX_WORKERS}
use Rattle.sched_board.specs.declared.workers.PoolWorker.{PoolWorker}
use Rattle.sched_board.specs.Workers.{does}
use Rattle.sched_board.specs.Pool.{PoolData}
use Rattle.sched_board.proofs.PoolLemmas.{away_has_none, idle_staffed, none_below, rewritten, waiting_has_none}
use Rattle.sched_board.proofs.pool.Pool.ask.Goals as goal

pub invariant_of-self : goal.invariant_of-self
invariant_of-self c =
    let old = c.self.inside.workers.items in
    let new = c.put_state.new.workers in
    let count : length new ≡ length old = c.put_state.ensures.count ∙ ap length c.deref_mut.ensures.value in
    let others = λ (u : ℕ) (other : u ≢ c.args.worker). c.put_state.ensures.others u other ∙ ap (λ (ws : List PoolWorker). does ws u) c.deref_mut.ensures.value in
    let away = ap (λ (x : PoolData). does x.workers c.args.worker) c.self.view_is ∙ c.requires.away in
    rewritten c.self.inside.scheduler old new c.min-self-inside.result count (record {
      limit = subst (λ k. k ≤ MAX_WORKERS) (sym count) c.self.invariant.limit;
      staffed = idle_staffed old new c.args.worker others c.self.inside.scheduler (away_has_none away) (waiting_has_none c.put_state.ensures.here) c.self.invariant.staffed;
      none_before = none_below old new c.args.worker others 0 c.min-self-inside.result (omega (arith, c.min-self-inside.ensures)) (λ u low high. c.self.invariant.none_before u low (omega (arith, high, c.min-self-inside.ensures)));
    })
