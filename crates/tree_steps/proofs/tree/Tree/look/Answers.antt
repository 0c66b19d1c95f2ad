use Rattle.std.proofs.Common.{rules, sym, ◌∙◌}
use Rattle.std.proofs.lemmas.Bool.{true≢false}
use Rattle.tree_steps.proofs.EventLemmas.{looks, walks_once, look_answers, decided_false}
use Rattle.tree_steps.proofs.TreeLemmas.{node_word, node_of_key}
use Rattle.tree_steps.proofs.AloneLemmas.{look_zero, look_blocked}
use Rattle.tree_steps.proofs.tree.Tree.look.Goals as goal

pub load-word-requires : goal.load-word-requires
load-word-requires c = (search rules, node_word c.args.self.now c.args.node.0 c.requires.node.1, looks _ _ _ _ c.args.node.0 c.requires.phase (node_of_key c.args.self.now c.args.node.0 c.requires.node))

pub returns-then-is_free-clause-walks : goal.returns-then-is_free-clause-walks
returns-then-is_free-clause-walks c = walks_once _ c.load-word.ensures.2.seat

pub returns-else-is_free-clause-walks : goal.returns-else-is_free-clause-walks
returns-else-is_free-clause-walks c = walks_once _ c.load-word.ensures.2.seat

pub returns-else-is_free-clause-refused : goal.returns-else-is_free-clause-refused
returns-else-is_free-clause-refused c = look_answers c.args.node.0 _ c.requires.phase c.load-word.ensures.2.seat (decided_false c.is_free.ensures c.if-is_free.false)

pub returns-then-is_free-clause-exact : goal.returns-then-is_free-clause-exact
returns-then-is_free-clause-exact c = λ alone. look_zero c.requires.phase c.requires.node.0 c.load-word.ensures.2 alone (c.is_free.ensures.0 c.if-is_free.true)

pub returns-else-is_free-clause-exact : goal.returns-else-is_free-clause-exact
returns-else-is_free-clause-exact c = λ alone. look_blocked c.requires.phase c.requires.node.0 c.load-word.ensures.2 alone (λ free. true≢false (sym (c.is_free.ensures.1 free) ∙ c.if-is_free.false))
