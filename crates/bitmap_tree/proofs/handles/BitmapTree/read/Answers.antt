use Rattle.std.proofs.Common.{rules}
use Rattle.bitmap_tree.proofs.StepLemmas.{load_step}
use Rattle.bitmap_tree.proofs.handles.BitmapTree.read.Goals as goal

pub load-requires : goal.load-requires
load-requires c = (search rules, search rules, load_step _ _ _ _ _ (search rules))
