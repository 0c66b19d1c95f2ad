use Rattle.sched_threads.proofs.TurnLemmas.{some_leads}
use Rattle.sched_threads.proofs.threads.Threads.end.Goals as goal

pub returns-clause-leads : goal.returns-clause-leads
returns-clause-leads c = some_leads _ _ c.end.ensures
