use Rattle.std.proofs.Common.{◌/◌, ◌*◌, ◌+◌, arith}
use Rattle.bitmap_tree.specs.Handles.{dim_of}
use Rattle.bitmap_tree.proofs.BlockLemmas.{at_in}
use Rattle.bitmap_tree.proofs.handles.BitmapTree.take_own.Goals as goal

pub take_block-requires-clause-block : goal.take_block-requires-clause-block
take_block-requires-clause-block c = at_in (dim_of c.args.self.now) (6 * (c.args.k / 6) + 6) c.args.processor c.block_at-unit.result c.block_at-unit.ensures (let low = c.if-k-self.false in omega (arith, low)) c.requires.processor

pub descend_first-requires-clause-unit : goal.descend_first-requires-clause-unit
descend_first-requires-clause-unit c = (c.in-Ok.ensures.taken.run, at_in (dim_of c.args.self.now) (6 * (c.args.k / 6) + 6) c.args.processor c.block_at-unit.result c.block_at-unit.ensures (let low = c.if-k-self.false in omega (arith, low)) c.requires.processor)
