use Rattle.std.proofs.Common.{rules, refl, eqb}
use Rattle.std.proofs.lemmas.Bool.{eqb-false}
use Rattle.tree_steps.proofs.EventLemmas.{steps_learning, walks_once, claim_answers, on_false, either-cond}
use Rattle.tree_steps.proofs.TreeLemmas.{node_word}
use Rattle.tree_steps.proofs.AloneLemmas.{claim_blocked}
use Rattle.tree_steps.proofs.tree.Tree.claim.Goals as goal

pub compare_exchange-requires : goal.compare_exchange-requires
compare_exchange-requires c = (search rules, node_word c.args.self.now c.args.node.0 c.requires.node.1, steps_learning _ _ _ _ _ _ _ c.requires.phase refl refl (λ w. either-cond (eqb w c.args.word) 7 w))

pub returns-clause-walks : goal.returns-clause-walks
returns-clause-walks c = walks_once _ c.compare_exchange.ensures.2.seat

pub returns-clause-refused : goal.returns-clause-refused
returns-clause-refused c = on_false (eqb c.compare_exchange.result c.args.word) (claim_answers c.args.node.0 c.args.word _ c.requires.phase c.compare_exchange.ensures.2.seat)

pub returns-clause-exact : goal.returns-clause-exact
returns-clause-exact c = λ alone none. on_false (eqb c.compare_exchange.result c.args.word) (λ lost. claim_blocked c.requires.phase c.requires.node.0 c.compare_exchange.ensures.2 alone none (eqb-false c.compare_exchange.result c.args.word lost))
