use Rattle.tree_steps.proofs.EventLemmas.{walks_on, on_false_so}
use Rattle.tree_steps.proofs.WalkLemmas.{answered_before}
use Rattle.tree_steps.proofs.AloneLemmas.{others_before, alone_after}
use Rattle.tree_steps.specs.Alone.{HasHolder}
use Rattle.tree_steps.proofs.tree.Tree.mark_ancestor.Goals as goal

pub returns-clause-walks : goal.returns-clause-walks
returns-clause-walks c = walks_on c.sweep.ensures.walks c.raise.ensures.walks

pub returns-clause-refused : goal.returns-clause-refused
returns-clause-refused c = on_false_so c.raise.result (answered_before c.sweep.ensures.walks) c.raise.ensures.refused

pub returns-clause-holder : goal.returns-clause-holder
returns-clause-holder c = λ alone. on_false_so c.raise.result (others_before (HasHolder c.args.at.0) c.sweep.ensures.walks) (c.raise.ensures.holder (alone_after c.sweep.ensures.walks alone))
