use Rattle.std.proofs.Common.{rules}
use Rattle.std.proofs.Common.{refl}
use Rattle.bitmap_tree.proofs.RuleLemmas.{some_word}
use Rattle.bitmap_tree.proofs.StepLemmas.{compare_step}
use Rattle.bitmap_tree.proofs.handles.BitmapTree.compare.Goals as goal

pub load-requires : goal.load-requires
load-requires c = (search rules, some_word _ _ c.args.self.now.words, compare_step _ _ _ _ _ (some_word _ _ refl))
