use Rattle.std.proofs.Common.{rules}
use Rattle.tree_steps.proofs.EventLemmas.{gives_up, walks_once}
use Rattle.tree_steps.proofs.TreeLemmas.{node_word}
use Rattle.tree_steps.proofs.tree.Tree.zero_back.Goals as goal

pub store-requires : goal.store-requires
store-requires c = (search rules, node_word c.args.self.now c.args.node.0 c.requires.node.1, gives_up _ _ _ _ c.args.node.0 _ c.requires.phase)

pub returns-clause-walks : goal.returns-clause-walks
returns-clause-walks c = walks_once _ c.store.ensures.2
