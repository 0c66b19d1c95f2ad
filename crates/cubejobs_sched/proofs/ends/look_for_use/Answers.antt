-- The turn that the receipt notes saw this, or another thread had the turn.
use Rattle.std.proofs.Common.{inr}
use Rattle.cubejobs_sched.proofs.TurnLemmas.{saw_unused, saw_use}
use Rattle.cubejobs_sched.proofs.ends.look_for_use.Goals as goal

pub returns-in-Ok-clause-used : goal.returns-in-Ok-clause-used
returns-in-Ok-clause-used c = saw_use c.in-Ok.used c.args.threads.now c.in-Ok.receipt c.in-Ok.ensures.made

pub returns-in-Ok-clause-unused : goal.returns-in-Ok-clause-unused
returns-in-Ok-clause-unused c = saw_unused c.in-Ok.used c.args.threads.now c.in-Ok.receipt c.in-Ok.ensures.made

pub returns-in-Err-clause-used : goal.returns-in-Err-clause-used
returns-in-Err-clause-used c = λ _. inr c.in-Err.ensures.barred
