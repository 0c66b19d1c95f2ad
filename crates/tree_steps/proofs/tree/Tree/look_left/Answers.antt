use Rattle.std.proofs.Common.{rules, refl, arith, ◌*◌}
use Rattle.tree_steps.proofs.EventLemmas.{steps, walks_once}
use Rattle.tree_steps.proofs.TreeLemmas.{node_word}
use Rattle.tree_steps.proofs.tree.Tree.look_left.Goals as goal

pub load-requires : goal.load-requires
load-requires c = (search rules, node_word c.args.self.now (2 * c.args.at.0) (omega arith), steps _ _ _ _ _ _ _ c.requires.phase refl refl (λ w. refl))

pub returns-clause-walks : goal.returns-clause-walks
returns-clause-walks c = walks_once _ c.load.ensures.2
