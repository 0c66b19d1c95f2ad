use Rattle.fit_tree.proofs.BlockLemmas.{block_computed}
use Rattle.sched_blocks.proofs.nodes.block_of.Goals as goal

pub returns-clause-named : goal.returns-clause-named
returns-clause-named c = block_computed c.args.n c.args.k c.args.node c.requires.machine c.requires.node
