use Rattle.std.proofs.Common.{rules}
use Rattle.tree_steps.proofs.PeekLemmas.{peeks}
use Rattle.tree_steps.proofs.TreeLemmas.{node_word}
use Rattle.tree_steps.proofs.tree.Tree.peek.Goals as goal

pub load-requires : goal.load-requires
load-requires c = (search rules, node_word c.args.self.now c.args.node.0 c.requires.node.1, peeks _ _ _ _ c.args.node.0)
