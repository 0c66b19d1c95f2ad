use Rattle.std.proofs.Common.{arith}
use Rattle.bitmap_tree.specs.Handles.{dim_of}
use Rattle.bitmap_tree.proofs.LayoutLemmas.{first_of_unit}
use Rattle.bitmap_tree.proofs.handles.BitmapTree.descend_first.Goals as goal

pub descend-requires-clause-block : goal.descend-requires-clause-block
descend-requires-clause-block c = first_of_unit (dim_of c.args.self.now) c.args.k c.args.unit (let above = c.requires.above in omega (arith, above)) c.requires.unit.1
