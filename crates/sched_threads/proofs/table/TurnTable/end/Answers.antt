use Rattle.sched_threads.proofs.EndLemmas.{ends}
use Rattle.sched_threads.proofs.table.TurnTable.end.Goals as goal

pub returns : goal.returns
returns c = ends _ _ _ _ _ c.close-closed.ensures.values.2 c.word-word.ensures c.if-word-ne0.false c.take-desk.ensures.value
