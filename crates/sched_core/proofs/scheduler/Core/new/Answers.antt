-- Nothing runs, waits or is reserved.
use Rattle.std.proofs.Common.{refl, sym, subst, ◌≤◌}
use Rattle.cube_shape.specs.declared.limits.TheConstants.{MAX_BITMAP_DIM}
use Rattle.fixed_vec.proofs.Spending.{others, both}
use Rattle.sched_blocks.specs.Shows.{block_words}
use Rattle.sched_jobs.specs.Shows.{job_words}
use Rattle.sched_core.proofs.scheduler.Core.new.Goals as goal

pub returns-clause-shows : goal.returns-clause-shows
returns-clause-shows c = record {
  limit = subst (λ n. n ≤ MAX_BITMAP_DIM) (sym c.in_ok-blocks.ensures.dim) c.requires.dim;
  machine = c.in_ok-blocks.ensures.shows c.args.patience;
  jobs = c.in_ok-jobs.ensures.shows c.args.dim c.args.patience;
  time = refl;
  patience = refl;
  kept = refl;
}

pub returns-in_err-jobs-clause-enough : goal.returns-in_err-jobs-clause-enough
returns-in_err-jobs-clause-enough c = λ h.
    let none = c.in_err-jobs.ensures.enough (others (block_words c.args.dim) (job_words c.args.capacity) _ _ c.in_ok-blocks.ensures.spends h) in
    absurd (cc)

pub returns-clause-spends : goal.returns-clause-spends
returns-clause-spends c = both (block_words c.args.dim) (job_words c.args.capacity) _ _ _ c.in_ok-blocks.ensures.spends c.in_ok-jobs.ensures.spends
