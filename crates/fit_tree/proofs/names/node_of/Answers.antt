use Rattle.fit_tree.proofs.BlockLemmas.{node_computed}
use Rattle.fit_tree.proofs.NodeLemmas.{IsNode-of}
use Rattle.fit_tree.proofs.names.node_of.Goals as goal

pub returns-clause-named : goal.returns-clause-named
returns-clause-named c = node_computed c.args.n c.args.region c.requires.machine c.requires.region

pub returns-clause-node : goal.returns-clause-node
returns-clause-node c = IsNode-of c.args.n _ c.args.region (node_computed c.args.n c.args.region c.requires.machine c.requires.region)
