-- All workers are away, and no job runs.
use Rattle.std.proofs.Common.{List, ◌≤◌, ap, subst, sym, ◌∙◌, arith}
use Rattle.fixed_vec.proofs.Spending.{others, both}
use Rattle.sched_core.specs.Shows.{core_words}
use Rattle.sched_board.specs.declared.workers.TheConstants.{MAX_WORKERS}
use Rattle.sched_board.specs.declared.workers.PoolWorker.{PoolWorker}
use Rattle.sched_board.specs.Workers.{does}
use Rattle.sched_board.proofs.PoolLemmas.{away_first, first_staffed}
use Rattle.sched_board.proofs.pool.Pool.new.Goals as goal

pub returns-in_err-workers-clause-enough : goal.returns-in_err-workers-clause-enough
returns-in_err-workers-clause-enough c = λ h.
    let none = c.in_err-workers.ensures.enough (others (core_words c.args.dim c.args.capacity) c.args.workers _ _ c.in_ok-scheduler.ensures.spends h) in
    absurd (cc)

pub returns-clause-spends : goal.returns-clause-spends
returns-clause-spends c = both (core_words c.args.dim c.args.capacity) c.args.workers _ _ _ c.in_ok-scheduler.ensures.spends c.in_ok-workers.ensures.spends

pub returns-clause-away : goal.returns-clause-away
returns-clause-away c = λ u. ap (λ (ws : List PoolWorker). does ws u) c.in_ok-workers.ensures.items ∙ away_first c.args.workers u

pub invariant_of-result : goal.invariant_of-result
invariant_of-result c = record {
  limit = subst (λ n. n ≤ MAX_WORKERS) (sym c.in_ok-workers.ensures.count) c.requires.workers;
  staffed = first_staffed c.args.dim c.args.patience c.in_ok-scheduler.scheduler c.in_ok-workers.workers.items c.in_ok-scheduler.ensures.shows
      (λ u. ap (λ (ws : List PoolWorker). does ws u) c.in_ok-workers.ensures.items ∙ away_first c.args.workers u);
  none_before = λ u low high waits. omega (arith, high);
}
