use Rattle.std.proofs.Common.{rules, refl}
use Rattle.tree_steps.proofs.EventLemmas.{steps, walks_once, mark_writes}
use Rattle.tree_steps.proofs.TreeLemmas.{node_word}
use Rattle.tree_steps.proofs.tree.Tree.mark.Goals as goal

pub fetch_or-found-requires : goal.fetch_or-found-requires
fetch_or-found-requires c = (
  search rules,
  node_word c.args.self.now c.args.at.0 c.requires.node.1,
  steps _ _ _ _ _ _ _ c.requires.phase refl refl (λ w. mark_writes _ c.args.station _ w c.requires.station c.mark_mask-bit.ensures.value),
)

pub returns-then-is_occupied-clause-walks : goal.returns-then-is_occupied-clause-walks
returns-then-is_occupied-clause-walks c = walks_once _ c.fetch_or-found.ensures.2

pub returns-else-is_occupied-clause-walks : goal.returns-else-is_occupied-clause-walks
returns-else-is_occupied-clause-walks c = walks_once _ c.fetch_or-found.ensures.2
