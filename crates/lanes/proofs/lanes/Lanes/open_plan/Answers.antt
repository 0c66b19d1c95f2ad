use Rattle.std.proofs.Common.{◌∙◌}
use Rattle.lanes.proofs.DealLemmas.{opens}
use Rattle.lanes.proofs.PoolLemmas.{opens_both}
use Rattle.lanes.proofs.lanes.Lanes.open_plan.Goals as goal

pub of_words-requires : goal.of_words-requires
of_words-requires c =
    let zeros = c.as_slice.ensures.value ∙ c.in_ok-words.ensures.items_if_clones_equal (λ y same. same) in
    opens_both _ _ c.requires.base zeros c.requires.sleepers (opens _ _ c.requires.small.some_room zeros)
