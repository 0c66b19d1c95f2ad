use Rattle.bitmap_tree.proofs.MaskLemmas.{mask_is}
use Rattle.bitmap_tree.proofs.mask.mask_of.Goals as goal

pub returns : goal.returns
returns c = mask_is c.args.offset c.args.k c.requires.dim c.requires.within
