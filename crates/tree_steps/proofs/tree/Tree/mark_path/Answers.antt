use Rattle.std.proofs.Common.{rules, sym, subst, arith}
use Rattle.tree_steps.proofs.EventLemmas.{walks_on, path_up}
use Rattle.tree_steps.proofs.WalkLemmas.{answered_before}
use Rattle.tree_steps.proofs.AloneLemmas.{others_before, alone_after}
use Rattle.tree_steps.specs.Alone.{HasHolder}
use Rattle.cube_shape.specs.Node.{OnPath}
use Rattle.cube_shape.proofs.PathLemmas.{OnPath-le}
use Rattle.tree_steps.proofs.tree.Tree.mark_path.Goals as goal

pub mark_ancestor-requires-clause-on_path : goal.mark_ancestor-requires-clause-on_path
mark_ancestor-requires-clause-on_path c = subst (λ at. OnPath at c.args.node.0) (sym c.parent-at.ensures) (path_up c.loop-at.at.0 c.args.node.0 c.loop-at-test.true c.loop-at.invariant.on_path)

pub returns-then-not-mark_ancestor-clause-walks : goal.returns-then-not-mark_ancestor-clause-walks
returns-then-not-mark_ancestor-clause-walks c = walks_on c.loop-at.invariant.walks c.mark_ancestor.ensures.walks

pub returns-then-not-mark_ancestor-clause-refused : goal.returns-then-not-mark_ancestor-clause-refused
returns-then-not-mark_ancestor-clause-refused c = answered_before c.loop-at.invariant.walks c.if-not-mark_ancestor.ensures.refused

pub returns-then-not-mark_ancestor-clause-names : goal.returns-then-not-mark_ancestor-clause-names
returns-then-not-mark_ancestor-clause-names c =
    let le = OnPath-le c.loop-at.at.0 c.args.node.0 c.loop-at.invariant.on_path in
    (subst (λ at. OnPath at c.args.node.0) (sym c.parent-at.ensures) (path_up c.loop-at.at.0 c.args.node.0 c.loop-at-test.true c.loop-at.invariant.on_path), omega (arith, le, c.parent-at.ensures, c.loop-at-test.true))

pub loop-at-preserved : goal.loop-at-preserved
loop-at-preserved c = record {
  same = search rules;
  walks = walks_on c.loop-at.invariant.walks c.mark_ancestor.ensures.walks;
  phase = c.if-not-mark_ancestor.ensures.phase;
  positive = omega (arith, c.parent-at.ensures, c.loop-at-test.true);
  on_path = subst (λ at. OnPath at c.args.node.0) (sym c.parent-at.ensures) (path_up c.loop-at.at.0 c.args.node.0 c.loop-at-test.true c.loop-at.invariant.on_path);
}

pub returns-then-not-mark_ancestor-clause-holder : goal.returns-then-not-mark_ancestor-clause-holder
returns-then-not-mark_ancestor-clause-holder c = λ alone. others_before (HasHolder c.parent-at.result.0) c.loop-at.invariant.walks (c.if-not-mark_ancestor.ensures.holder (alone_after c.loop-at.invariant.walks alone))
