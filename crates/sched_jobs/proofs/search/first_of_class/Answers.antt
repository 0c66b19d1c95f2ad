-- One more dimension, until there is none.
use Rattle.std.proofs.Common.{◌≡◌, ℕ, subst, arith}
use Rattle.sched_jobs.specs.Inner.Search.{IsFitBelow, IsLeast}
use Rattle.sched_jobs.proofs.AlikeLemmas.{line_inside}
use Rattle.sched_jobs.proofs.FitLemmas.{below_all, best_inside, least_inside, one_more}
use Rattle.sched_jobs.proofs.search.first_of_class.Goals as goal

pub older-best-requires-clause-other : goal.older-best-requires-clause-other
older-best-requires-clause-other c =
    least_inside c.args.nodes.now c.args.queues.now c.requires.lines.0 c.args.wanted.now c.args.class c.loop-dim.dim c.first_fit-one.result
    (line_inside c.args.class c.loop-dim.dim _ c.requires.class (omega (arith, c.loop-dim-test.true, c.min-past.ensures)) c.requires.queues) c.requires.lines.1 (c.first_fit-one.ensures c.requires.lines.0 c.requires.lines.1)

pub loop-dim-preserved : goal.loop-dim-preserved
loop-dim-preserved c = record {
  bound = omega (arith, c.loop-dim-test.true);
  inside = best_inside c.args.nodes.now c.loop-dim.best c.first_fit-one.result c.older-best.result c.loop-dim.invariant.inside
      (least_inside c.args.nodes.now c.args.queues.now c.requires.lines.0 c.args.wanted.now c.args.class c.loop-dim.dim c.first_fit-one.result
      (line_inside c.args.class c.loop-dim.dim _ c.requires.class (omega (arith, c.loop-dim-test.true, c.min-past.ensures)) c.requires.queues) c.requires.lines.1 (c.first_fit-one.ensures c.requires.lines.0 c.requires.lines.1))
      c.older-best.ensures;
  least = λ line are. one_more c.args.nodes.now line c.args.wanted.now c.args.class c.loop-dim.dim c.loop-dim.best c.first_fit-one.result c.older-best.result (c.loop-dim.invariant.least line are)
      (c.first_fit-one.ensures line are) c.older-best.ensures;
}

pub returns : goal.returns
returns c = λ line are.
    let done : c.loop-dim.dim ≡ c.min-past.result = omega (arith, c.loop-dim.invariant.bound, c.loop-dim-test.false) in
    below_all c.args.nodes.now line c.args.wanted.now c.args.class c.min-past.result c.loop-dim.best (omega (arith, c.min-past.ensures)) (λ d low less. omega (arith, less, low, c.max.ensures, c.min-past.ensures)) (λ d low less. omega (arith, less, low, c.max.ensures, c.min-past.ensures))
    (subst (λ (n : ℕ). IsLeast c.args.nodes.now (IsFitBelow c.args.nodes.now line c.args.wanted.now c.args.class n) c.loop-dim.best) done (c.loop-dim.invariant.least line are))
