-- Those before in order are counted.
use Rattle.sched_core.proofs.scheduler.Core.before_last.Goals as goal

pub before_with-requires-clause-count : goal.before_with-requires-clause-count
before_with-requires-clause-count c = λ w wait k waits. c.count_before_last.ensures.count w wait k.jobs waits
