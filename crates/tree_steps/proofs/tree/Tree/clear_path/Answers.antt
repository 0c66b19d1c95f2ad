use Rattle.std.proofs.Common.{rules, arith, ◌∙◌}
use Rattle.tree_steps.proofs.EventLemmas.{walks_on}
use Rattle.tree_steps.proofs.WalkLemmas.{station_of_walk}
use Rattle.tree_steps.proofs.tree.Tree.clear_path.Goals as goal

pub clear_ancestor-requires-clause-station : goal.clear_ancestor-requires-clause-station
clear_ancestor-requires-clause-station c = station_of_walk c.loop-at.invariant.walks ∙ c.requires.station

pub returns-then-not-clear_ancestor-clause-walks : goal.returns-then-not-clear_ancestor-clause-walks
returns-then-not-clear_ancestor-clause-walks c = walks_on c.loop-at.invariant.walks c.clear_ancestor.ensures.walks

pub loop-at-preserved : goal.loop-at-preserved
loop-at-preserved c = record {
  same = search rules;
  walks = walks_on c.loop-at.invariant.walks c.clear_ancestor.ensures.walks;
  phase = c.if-not-clear_ancestor.ensures.phase;
  positive = omega (arith, c.loop-at-test.true);
  in_cube = omega (arith, c.loop-at.invariant.in_cube);
}
