use Rattle.sched_law.proofs.TeamLemmas.{good}
use Rattle.sched_law.proofs.OutcomeLemmas.{known, outcome}
use Rattle.sched_law.proofs.team_law.jobs_have_one_outcome.Goals as goal

pub returns-clause-submitted : goal.returns-clause-submitted
returns-clause-submitted c = λ dim patience workers history j is submitted. outcome dim patience workers history j is submitted

pub returns-clause-others : goal.returns-clause-others
returns-clause-others c = λ dim patience workers history j is from.
    let none = (known dim patience workers history is).fresh j from in
    (none.0, none.1, (good dim patience workers history is).safe.absent j from)
