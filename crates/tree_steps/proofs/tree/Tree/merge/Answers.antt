use Rattle.std.proofs.Common.{rules}
use Rattle.tree_steps.proofs.SeatLemmas.{merges}
use Rattle.tree_steps.proofs.TreeLemmas.{roll_word}
use Rattle.tree_steps.proofs.tree.Tree.merge.Goals as goal

pub join_seat-requires : goal.join_seat-requires
join_seat-requires c = (search rules, search rules, search rules, roll_word c.args.self.now, merges _ _ _ _ _)
