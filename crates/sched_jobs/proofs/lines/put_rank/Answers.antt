-- The queues rest, since the slot is in none.
use Rattle.std.proofs.Common.{rules}
use Rattle.std.proofs.lemmas.List.{get_or-set_other}
use Rattle.sched_jobs.proofs.AlikeLemmas.{rest}
use Rattle.sched_jobs.proofs.lines.put_rank.Goals as goal

pub returns-clause-lines : goal.returns-clause-lines
returns-clause-lines c = λ queues line are none.
    rest c.args.nodes.now _ queues line c.args.slot (c.queues_rest_on_their_slots.ensures c.args.nodes.now _) (search rules)
    (λ u other. get_or-set_other c.args.nodes.now c.args.slot u _ _ other) are none
