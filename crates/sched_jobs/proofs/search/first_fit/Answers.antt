-- The first slot of the line, or the first one with a rank below the limit.
use Rattle.std.proofs.Common.{arith, rules}
use Rattle.sched_jobs.proofs.FitLemmas.{front_fits, within_fits}
use Rattle.sched_jobs.proofs.search.first_fit.Goals as goal

pub returns-then-dim-wanted : goal.returns-then-dim-wanted
returns-then-dim-wanted c = λ line are.
    front_fits c.args.nodes.now line c.args.wanted.now c.args.class c.args.dim c.first_in_line.result (search rules) (c.first_in_line.ensures.first line are) (c.first_in_line.ensures.none line are)

pub returns : goal.returns
returns c = λ line are.
    within_fits c.args.nodes.now line c.args.wanted.now c.args.class c.args.dim c.first_within.result (omega (arith, c.if-dim-wanted.false)) (omega (arith, c.if-dim-wanted-2.false)) (omega (arith, c.if-wanted-eq0.false))
    (c.first_within.ensures.first line are) (c.first_within.ensures.none line are)
