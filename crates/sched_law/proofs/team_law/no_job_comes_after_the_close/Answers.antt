use Rattle.std.proofs.Common.{refl}
use Rattle.sched_law.specs.Team.{team_of}
use Rattle.sched_law.proofs.CloseLemmas.{closed_after}
use Rattle.sched_law.proofs.team_law.no_job_comes_after_the_close.Goals as goal

pub returns-clause-close : goal.returns-clause-close
returns-clause-close c = λ dim patience history. refl

pub returns-clause-closed : goal.returns-clause-closed
returns-clause-closed c = λ dim patience workers deed history is closed. (closed_after workers (team_of dim patience history) deed is.0 closed).0

pub returns-clause-next : goal.returns-clause-next
returns-clause-next c = λ dim patience workers deed history is closed. (closed_after workers (team_of dim patience history) deed is.0 closed).1
