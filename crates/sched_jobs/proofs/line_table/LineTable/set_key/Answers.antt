-- The queues rest, since the slot is in none.
use Rattle.std.proofs.Common.{rules}
use Rattle.sched_jobs.proofs.TableLemmas.{key_done}
use Rattle.sched_jobs.proofs.line_table.LineTable.set_key.Goals as goal

pub returns-clause-lines : goal.returns-clause-lines
returns-clause-lines c = λ line shown none.
    key_done c.args.self.now c.deref_mut.result.now c.put_key.new.nodes line c.args.slot shown none c.deref_mut.ensures.value (search rules)
    (c.put_key.ensures.lines c.args.self.now.queues.items line)
