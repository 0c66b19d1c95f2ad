use Rattle.std.proofs.Common.{rules, ◌∙◌, eqb}
use Rattle.tree_steps.proofs.EventLemmas.{either-cond}
use Rattle.tree_steps.proofs.SeatLemmas.{turns, same_exchanged}
use Rattle.tree_steps.proofs.TreeLemmas.{roll_word, all_of_key}
use Rattle.tree_steps.proofs.tree.Tree.turn.Goals as goal

pub compare_exchange-requires : goal.compare_exchange-requires
compare_exchange-requires c = (
  search rules,
  roll_word c.args.self.now,
  turns c.args.self.now.table.shared.key _ _ c.args.station _ _ (λ w. either-cond (eqb w c.args.station) c.args.station w ∙ same_exchanged w c.args.station) (all_of_key c.args.self.now _ c.requires.all),
)
