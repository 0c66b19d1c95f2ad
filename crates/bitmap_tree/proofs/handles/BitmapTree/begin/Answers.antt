use Rattle.std.proofs.Common.{rules}
use Rattle.bitmap_tree.proofs.StepLemmas.{begin_step}
use Rattle.bitmap_tree.proofs.handles.BitmapTree.begin.Goals as goal

pub load-requires : goal.load-requires
load-requires c = (search rules, search rules, begin_step _ _ _ _ _ (search rules))
