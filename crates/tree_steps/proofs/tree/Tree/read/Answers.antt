use Rattle.std.proofs.Common.{rules}
use Rattle.tree_steps.proofs.ReadLemmas.{reads}
use Rattle.tree_steps.proofs.TreeLemmas.{node_word}
use Rattle.tree_steps.proofs.tree.Tree.read.Goals as goal

pub load-requires : goal.load-requires
load-requires c = (search rules, node_word c.args.self.now c.args.node c.requires.node.1, reads _ _ _ _ c.args.node)

pub returns-clause-word : goal.returns-clause-word
returns-clause-word c = λ alone rest. c.load.ensures.2.1 alone rest c.requires.node.0
