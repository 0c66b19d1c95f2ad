use Rattle.std.proofs.Common.{rules}
use Rattle.bitmap_tree.proofs.RuleLemmas.{some_word}
use Rattle.bitmap_tree.proofs.StepLemmas.{merges}
use Rattle.bitmap_tree.proofs.handles.BitmapTree.merge.Goals as goal

pub join_seat-requires : goal.join_seat-requires
join_seat-requires c = (search rules, search rules, search rules, some_word _ _ c.args.self.now.words, merges _ _ _ _ _)
