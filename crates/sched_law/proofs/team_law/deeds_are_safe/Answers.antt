use Rattle.sched_law.proofs.TeamLemmas.{good}
use Rattle.sched_law.proofs.CloseLemmas.{within}
use Rattle.sched_law.proofs.team_law.deeds_are_safe.Goals as goal

pub returns-clause-safe : goal.returns-clause-safe
returns-clause-safe c = λ dim patience workers history is. (good dim patience workers history is).safe

pub returns-clause-manned : goal.returns-clause-manned
returns-clause-manned c = λ dim patience workers history is. (good dim patience workers history is).manned

pub returns-clause-within : goal.returns-clause-within
returns-clause-within c = λ dim patience workers history u is from. within dim patience workers history is u from
