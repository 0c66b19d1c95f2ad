use Rattle.std.proofs.Common.{rules, ◌∙◌, ap, replicate, slice_set}
use Rattle.bitmap_tree.proofs.RuleLemmas.{begins}
use Rattle.bitmap_tree.proofs.handles.BitmapTree.open_sized.Goals as goal

pub open-requires-2 : goal.open-requires-2
open-requires-2 c = begins _ _ (search rules ∙ ap (λ ws. slice_set ws 0 0) (c.in_ok-words.ensures.items_if_clones_equal (λ y clone. search rules) ∙ ap (λ count. replicate count 18446744073709551615) c.words_of.ensures.value))
