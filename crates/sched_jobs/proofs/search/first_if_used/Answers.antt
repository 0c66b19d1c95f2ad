-- A class with a count of 0 has no slot.
use Rattle.std.proofs.Common.{rules}
use Rattle.sched_jobs.proofs.FitLemmas.{unused_fits}
use Rattle.sched_jobs.proofs.search.first_if_used.Goals as goal

pub returns-then-count-eq0 : goal.returns-then-count-eq0
returns-then-count-eq0 c = λ line shown. unused_fits c.args.nodes.now c.args.queues.now c.args.counts.now line c.args.wanted.now c.args.class c.requires.class (search rules) shown

pub returns : goal.returns
returns c = λ line shown. c.first_of_class.ensures line shown.lines
