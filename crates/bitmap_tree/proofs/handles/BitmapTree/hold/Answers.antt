use Rattle.std.proofs.Common.{rules}
use Rattle.bitmap_tree.specs.Handles.{dim_of}
use Rattle.bitmap_tree.proofs.LayoutLemmas.{aligned_in}
use Rattle.bitmap_tree.proofs.handles.BitmapTree.hold.Goals as goal

pub returns-clause-aligned : goal.returns-clause-aligned
returns-clause-aligned c = aligned_in (dim_of c.args.self.now) c.args.region.dim c.args.region c.requires.taken.block

pub invariant_of-result : goal.invariant_of-result
invariant_of-result c = record {
  claimed = c.requires.taken.run;
  begins = c.requires.taken.block.begins;
  within = c.requires.taken.block.within;
  fits = c.requires.taken.block.fits;
  words = search rules;
  dim_in_limits = c.args.self.now.dim_in_limits;
}
