use Rattle.std.proofs.Common.{ℕ, ◌+◌, replicate, ap, ◌∙◌}
use Rattle.tests_lanes.proofs.LaneLemmas.{opens}
use Rattle.tests_lanes.proofs.board.Board.open.Goals as goal

pub of_words-requires : goal.of_words-requires
of_words-requires c =
    opens c.args.sizes _ (c.as_slice.ensures.value ∙ c.in_ok-words.ensures.items_if_clones_equal (λ y same. same) ∙ ap (λ (b : ℕ). replicate (b + c.args.sizes.lanes) 0) c.base.ensures.base)
