use Rattle.std.proofs.Common.{rules}
use Rattle.tree_steps.proofs.SeatLemmas.{compares}
use Rattle.tree_steps.proofs.TreeLemmas.{roll_word}
use Rattle.tree_steps.proofs.tree.Tree.compare.Goals as goal

pub load-requires : goal.load-requires
load-requires c = (search rules, roll_word c.args.self.now, compares _ _ _ _)
