use Rattle.sched_threads.proofs.TurnLemmas.{leads_last}
use Rattle.sched_threads.proofs.law.turns_are_a_history.Goals as goal

pub returns : goal.returns
returns c = λ sizes first turns fresh legal. leads_last sizes first fresh turns legal
