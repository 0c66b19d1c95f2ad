-- The slot was free.
use Rattle.sched_core.proofs.CoreLemmas.{submit_free, submit_some}
use Rattle.sched_core.proofs.scheduler.Core.submit.Goals as goal

pub returns-clause-full : goal.returns-clause-full
returns-clause-full c = c.submit.ensures.full c.requires.shows.0 c.requires.shows.1.jobs

pub returns-clause-free : goal.returns-clause-free
returns-clause-free c =
    let w = c.requires.shows.0 in
    let k = c.requires.shows.1 in
    submit_free w c.args.self.now k c.submit.new.self c.args.job c.submit.ensures.capacity c.submit.result c.submit.ensures.arrival c.submit.ensures.others (c.submit.ensures.shows w k.jobs)

pub returns-clause-shows : goal.returns-clause-shows
returns-clause-shows c = λ w k.
    submit_some w c.args.self.now k c.submit.new.self c.args.job c.submit.ensures.capacity c.requires.sound c.submit.result c.submit.ensures.arrival c.submit.ensures.others (c.submit.ensures.shows w k.jobs)
