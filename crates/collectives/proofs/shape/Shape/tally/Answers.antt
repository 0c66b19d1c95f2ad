use Rattle.std.proofs.Common.{sym, subst, ◌<◌}
use Rattle.collectives.specs.Messages.{message_number}
use Rattle.collectives.proofs.MessageLemmas.{message_number-within}
use Rattle.collectives.proofs.shape.Shape.tally.Goals as goal

pub returns-clause-counted : goal.returns-clause-counted
returns-clause-counted c = λ root m root_within is.
    subst (λ count. message_number c.args.self c.args.k root m < count) (sym c.message_count.ensures) (message_number-within c.args.self c.args.k root m is)
