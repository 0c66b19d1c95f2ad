use Rattle.fit_tree.proofs.BlockLemmas.{node_computed}
use Rattle.fit_tree.proofs.NodeLemmas.{IsNode-of, IsNode-in_cube}
use Rattle.sched_blocks.proofs.nodes.node_of.Goals as goal

pub returns-clause-named : goal.returns-clause-named
returns-clause-named c = node_computed c.args.n c.args.region c.requires.machine c.requires.region

pub returns-clause-node : goal.returns-clause-node
returns-clause-node c = IsNode-of c.args.n _ c.args.region (node_computed c.args.n c.args.region c.requires.machine c.requires.region)

pub returns-clause-inside : goal.returns-clause-inside
returns-clause-inside c = (IsNode-in_cube c.args.n c.args.region.dim _ (IsNode-of c.args.n _ c.args.region (node_computed c.args.n c.args.region c.requires.machine c.requires.region))).1
