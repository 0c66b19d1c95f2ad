use Rattle.std.proofs.Common.{rules, ◌∙◌, ap, replicate}
use Rattle.tree_steps.proofs.SeatLemmas.{opens}
use Rattle.tree_steps.proofs.tree.Tree.open.Goals as goal

pub of_words-requires : goal.of_words-requires
of_words-requires c = opens _ _ (c.deref.ensures.value ∙ c.in_ok-room.ensures.items_if_clones_equal (λ y clone. search rules) ∙ ap (λ count. replicate count 0) (search rules))
