-- The oldest within the limit is the first of the line that is.
use Rattle.sched_jobs.proofs.FrontLemmas.{none_within, within}
use Rattle.sched_jobs.proofs.lines.first_within.Goals as goal

pub oldest_within-requires : goal.oldest_within-requires
oldest_within-requires c = ((c.requires.lines.1.each c.args.at c.requires.at).slots, (c.requires.lines.1.each c.args.at c.requires.at).is_queue)

pub returns-clause-first : goal.returns-clause-first
returns-clause-first c = λ line are.
    let here = are.each c.args.at c.requires.at in
    within c.args.nodes.now c.args.queues.now line c.args.at c.args.limit c.oldest_within.result here (c.oldest_within.ensures.found here.slots here.is_queue)

pub returns-clause-none : goal.returns-clause-none
returns-clause-none c = λ line are.
    let here = are.each c.args.at c.requires.at in
    none_within c.args.nodes.now c.args.queues.now line c.args.at c.args.limit c.oldest_within.result here (c.oldest_within.ensures.none here.slots here.is_queue)
