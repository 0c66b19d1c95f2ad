use Rattle.std.proofs.Common.{rules, refl, ap}
use Rattle.cube_core.specs.Event.{Transition}
use Rattle.cube_core.proofs.RunningLemmas.{clears}
use Rattle.tree_steps.proofs.EventLemmas.{steps, walks_once, clear_writes}
use Rattle.tree_steps.proofs.TreeLemmas.{node_word}
use Rattle.tree_steps.proofs.tree.Tree.clear.Goals as goal

pub compare_exchange-found-requires : goal.compare_exchange-found-requires
compare_exchange-found-requires c = (
  search rules,
  node_word c.args.self.now c.args.at.0 c.requires.node.1,
  steps _ _ _ _ _ _ _ c.requires.phase refl (ap (λ (d : Transition). d.node) (clears _ c.args.at.0 c.args.word c.args.left c.args.right c.requires.left c.requires.right))
      (λ w. clear_writes _ c.args.at.0 c.args.word _ w c.args.left c.args.right _ _ c.requires.left c.requires.right c.is_free.ensures c.is_free-2.ensures c.cleared-cleared.ensures.value),
)

pub returns-clause-walks : goal.returns-clause-walks
returns-clause-walks c = walks_once _ c.compare_exchange-found.ensures.2
