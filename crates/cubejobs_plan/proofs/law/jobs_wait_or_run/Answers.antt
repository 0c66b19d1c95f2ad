-- A ticket names one job.
use Rattle.cubejobs_plan.proofs.TicketLemmas.{waits_or_runs}
use Rattle.cubejobs_plan.proofs.law.jobs_wait_or_run.Goals as goal

pub returns : goal.returns
returns c = λ w core ticket k. waits_or_runs w core k ticket
