use Rattle.std.proofs.Common.{◌+◌, ◌<◌, subst, sym}
use Rattle.bitmap_tree.specs.Rule.{word_count}
use Rattle.bitmap_tree.specs.Handles.{dim_of}
use Rattle.bitmap_tree.proofs.LayoutLemmas.{word_there}
use Rattle.bitmap_tree.proofs.handles.BitmapTree.mark_lost.Goals as goal

pub peek-requires : goal.peek-requires
peek-requires c = subst (λ f. f + c.args.number < word_count (dim_of c.args.self.now)) (sym c.first_word.ensures.value) (word_there _ _ _ c.requires.number)
