-- The oldest of the queue is the first of the line.
use Rattle.sched_jobs.proofs.FrontLemmas.{front, no_front}
use Rattle.sched_jobs.proofs.lines.first_in_line.Goals as goal

pub oldest-requires : goal.oldest-requires
oldest-requires c = ((c.requires.lines.1.each c.args.at c.requires.at).slots, (c.requires.lines.1.each c.args.at c.requires.at).is_queue)

pub returns-clause-first : goal.returns-clause-first
returns-clause-first c = λ line are.
    let here = are.each c.args.at c.requires.at in
    front c.args.nodes.now c.args.queues.now line c.args.at c.oldest.result here (c.oldest.ensures here.slots here.is_queue)

pub returns-clause-none : goal.returns-clause-none
returns-clause-none c = λ line are.
    let here = are.each c.args.at c.requires.at in
    no_front c.args.nodes.now c.args.queues.now line c.args.at c.oldest.result here (c.oldest.ensures here.slots here.is_queue)
