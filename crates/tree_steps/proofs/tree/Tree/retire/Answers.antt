use Rattle.std.proofs.Common.{rules, ap, sym, ◌^◌, bit_or, ◌∙◌}
use Rattle.tree_steps.proofs.EventLemmas.{retires}
use Rattle.tree_steps.proofs.TreeLemmas.{roll_word}
use Rattle.tree_steps.proofs.tree.Tree.retire.Goals as goal

pub fetch_or-requires : goal.fetch_or-requires
fetch_or-requires c = (search rules, roll_word c.args.self.now, retires _ _ _ _ _ c.requires.phase (λ w. ap (bit_or w) (c.bit_of_retirement-bit.ensures ∙ ap (λ s. 2 ^ s) (sym c.requires.station))))
