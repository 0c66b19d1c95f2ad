use Rattle.std.proofs.Common.{rules, refl, ap, sym, arith, ◌+◌, ◌*◌}
use Rattle.cube_core.specs.Event.{Transition}
use Rattle.cube_core.proofs.RunningLemmas.{looks_right}
use Rattle.tree_steps.proofs.EventLemmas.{steps, walks_once}
use Rattle.tree_steps.proofs.TreeLemmas.{node_word}
use Rattle.tree_steps.proofs.tree.Tree.look_right.Goals as goal

pub load-requires : goal.load-requires
load-requires c = (
  search rules,
  node_word c.args.self.now (2 * c.args.at.0 + 1) (omega arith),
  steps _ _ _ _ _ _ _ c.requires.phase refl (ap (λ (d : Transition). d.node) (looks_right _ c.args.at.0 c.args._word c.args._left c.requires.left))
      (λ w. ap (λ (d : Transition). d.writes w) (sym (looks_right _ c.args.at.0 c.args._word c.args._left c.requires.left))),
)

pub returns-clause-walks : goal.returns-clause-walks
returns-clause-walks c = walks_once _ c.load.ensures.2
