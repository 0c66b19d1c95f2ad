use Rattle.std.proofs.Common.{sym, ◌∙◌}
use Rattle.collectives.proofs.MessageLemmas.{one_message}
use Rattle.collectives.proofs.partners.messages_are_listed_once.Goals as goal

pub returns-clause-one_message : goal.returns-clause-one_message
returns-clause-one_message c = λ shape k root i a b a_is b_is.
    one_message shape k root a b a_is.1 b_is.1 (a_is.2 ∙ sym b_is.2)
