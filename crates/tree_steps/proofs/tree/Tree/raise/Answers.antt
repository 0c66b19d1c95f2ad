use Rattle.std.proofs.Common.{rules, refl, not}
use Rattle.tree_steps.proofs.EventLemmas.{steps_learning, walks_once, raise_answers, raise_writes, on_false, not-false, decided_true}
use Rattle.tree_steps.proofs.TreeLemmas.{node_word}
use Rattle.tree_steps.proofs.AloneLemmas.{raise_holder}
use Rattle.tree_steps.proofs.tree.Tree.raise.Goals as goal

pub fetch_or-found-requires : goal.fetch_or-found-requires
fetch_or-found-requires c = (
  search rules,
  node_word c.args.self.now c.args.at.0 c.requires.node.1,
  steps_learning _ _ _ _ _ _ _ c.requires.phase refl refl (λ w. raise_writes c.args.at.0 c.args.node.0 _ _ w _ c.child_towards.ensures.value c.side.ensures.child c.side_mask-bit.ensures.value),
)

pub returns-clause-walks : goal.returns-clause-walks
returns-clause-walks c = walks_once _ c.fetch_or-found.ensures.2.seat

pub returns-clause-refused : goal.returns-clause-refused
returns-clause-refused c = on_false (not c.is_occupied.result) (λ is. raise_answers c.args.node.0 c.args.at.0 _ c.requires.phase c.fetch_or-found.ensures.2.seat (decided_true c.is_occupied.ensures (not-false c.is_occupied.result is)))

pub returns-clause-holder : goal.returns-clause-holder
returns-clause-holder c = λ alone. on_false (not c.is_occupied.result) (λ is. raise_holder c.requires.phase c.requires.node.0 c.requires.above c.fetch_or-found.ensures.2 alone (c.is_occupied.ensures.0 (not-false c.is_occupied.result is)))
