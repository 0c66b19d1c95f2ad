use Rattle.std.proofs.Common.{rules, refl}
use Rattle.tree_steps.proofs.SeatLemmas.{loads_roll}
use Rattle.tree_steps.proofs.TreeLemmas.{roll_word}
use Rattle.tree_steps.proofs.tree.Tree.load_roll.Goals as goal

pub load-requires : goal.load-requires
load-requires c = (search rules, roll_word c.args.self.now, loads_roll _ _ _ _)

pub returns-clause-loads : goal.returns-clause-loads
returns-clause-loads c = c.load.ensures.2 refl
