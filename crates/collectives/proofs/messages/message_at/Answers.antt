use Rattle.std.proofs.Common.{sym, ◌∙◌, subst, ◌≤◌}
use Rattle.cube_shape.proofs.NeighbourLemmas.{AreNeighboursIn-block}
use Rattle.collectives.specs.Messages.{message_number}
use Rattle.collectives.proofs.MessageLemmas.{one_message, rounds_rise, IsMessage-edge}
use Rattle.collectives.proofs.messages.message_at.Goals as goal

pub returns-clause-alone : goal.returns-clause-alone
returns-clause-alone c = λ m is number.
    one_message c.args.shape c.args.k c.args.root m c.numbered_message.result is c.numbered_message.ensures.message (number ∙ sym c.numbered_message.ensures.number)

pub returns-clause-rising : goal.returns-clause-rising
returns-clause-rising c = λ m is order.
    rounds_rise c.args.shape c.args.k c.args.root c.numbered_message.result m is
    (subst (λ i. i ≤ message_number c.args.shape c.args.k c.args.root m) (sym c.numbered_message.ensures.number) order)

pub returns-clause-edge : goal.returns-clause-edge
returns-clause-edge c = IsMessage-edge c.args.shape c.args.k c.args.root c.numbered_message.result c.requires.root c.numbered_message.ensures.message

pub returns-clause-neighbours : goal.returns-clause-neighbours
returns-clause-neighbours c = λ m.
    (let message = c.numbered_message.result in
    let edge = IsMessage-edge c.args.shape c.args.k c.args.root message c.requires.root c.numbered_message.ensures.message in
    AreNeighboursIn-block message.round c.args.k m message.from message.to edge.round edge.from edge.edge)
