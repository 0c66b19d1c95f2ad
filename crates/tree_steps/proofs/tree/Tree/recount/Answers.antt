use Rattle.std.proofs.Common.{rules}
use Rattle.tree_steps.proofs.OnceLemmas.{recounts}
use Rattle.tree_steps.proofs.TreeLemmas.{roll_word}
use Rattle.tree_steps.proofs.tree.Tree.recount.Goals as goal

pub load-requires : goal.load-requires
load-requires c = (search rules, roll_word c.args.self.now, recounts _ _ _ _)
