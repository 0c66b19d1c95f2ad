-- The call made the turn that the receipt notes, or another thread had the turn.
use Rattle.cubejobs_sched.proofs.TurnLemmas.{barred, made}
use Rattle.cubejobs_sched.proofs.working.next.Goals as goal

pub returns-in-Ok-clause-made : goal.returns-in-Ok-clause-made
returns-in-Ok-clause-made c = made _ c.args.threads.now c.in-Ok.receipt _ _ _ c.in-Ok.answer c.in-Ok.ensures.made c.of_next.ensures.answer

pub returns-in-Err-clause-made : goal.returns-in-Err-clause-made
returns-in-Err-clause-made c = barred _ c.args.threads.now _ _ _ _ c.in-Err.ensures.barred c.refused.ensures
