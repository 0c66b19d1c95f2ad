use Rattle.std.proofs.Common.{rules}
use Rattle.bitmap_tree.proofs.RuleLemmas.{some_word}
use Rattle.bitmap_tree.proofs.StepLemmas.{cuts_first}
use Rattle.bitmap_tree.proofs.handles.BitmapTree.cut.Goals as goal

pub split_seat-requires : goal.split_seat-requires
split_seat-requires c = (search rules, some_word _ _ c.args.self.now.words, cuts_first _ _ _ (search rules))
