use Rattle.uses.proofs.whole.answer_in_order.Goals as goal

pub returns : goal.returns
returns g c = record { in_order = c.in-Ok-sorted_replies.ensures.in_order _ _ c.in-Ok.ensures.answered.answers }
