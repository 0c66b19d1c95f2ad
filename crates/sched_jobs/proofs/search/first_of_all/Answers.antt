-- One more class, until one has a slot that is wanted.
use Rattle.std.proofs.Common.{arith, rules}
use Rattle.sched_jobs.proofs.FitLemmas.{chosen, none_more}
use Rattle.sched_jobs.proofs.search.first_of_all.Goals as goal

pub returns-in-Some : goal.returns-in-Some
returns-in-Some c = λ line shown.
    chosen c.args.nodes.now line c.args.wanted.now c.loop-class.class c.in-Some.slot c.first_if_used.result c.in-Some.is (omega (arith, c.loop-class-test.true))
    (c.first_if_used.ensures line shown) (c.loop-class.invariant.none line shown)

pub loop-class-preserved : goal.loop-class-preserved
loop-class-preserved c = record {
  bound = omega (arith, c.loop-class-test.true);
  none = λ line shown. none_more c.args.nodes.now line c.args.wanted.now c.loop-class.class c.first_if_used.result (search rules) (c.first_if_used.ensures line shown) (c.loop-class.invariant.none line shown);
}

pub returns : goal.returns
returns c = λ line shown class u within has. c.loop-class.invariant.none line shown class u (omega (arith, within, c.loop-class-test.false)) has
