use Rattle.std.proofs.Common.{rules}
use Rattle.tree_steps.proofs.SeatLemmas.{copies_loads}
use Rattle.tree_steps.proofs.TreeLemmas.{roll_word}
use Rattle.tree_steps.proofs.tree.Tree.copy_loads.Goals as goal

pub split_seat-requires : goal.split_seat-requires
split_seat-requires c = (search rules, roll_word c.args.self.now, copies_loads _ _ _)
