use Rattle.std.proofs.Common.{rules, refl}
use Rattle.tree_steps.proofs.EventLemmas.{steps, walks_once}
use Rattle.tree_steps.proofs.TreeLemmas.{node_word}
use Rattle.tree_steps.proofs.tree.Tree.unmark.Goals as goal

pub fetch_and-requires : goal.fetch_and-requires
fetch_and-requires c = (search rules, node_word c.args.self.now c.args.at.0 c.requires.node.1, steps _ _ _ _ _ _ _ c.requires.phase refl refl (λ w. refl))

pub returns-clause-walks : goal.returns-clause-walks
returns-clause-walks c = walks_once _ c.fetch_and.ensures.2
