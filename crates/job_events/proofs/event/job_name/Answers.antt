use Rattle.std.proofs.Common.{arith}
use Rattle.job_events.proofs.EventLemmas.{plain_job_name}
use Rattle.job_events.proofs.event.job_name.Goals as goal

pub returns-clause-plain : goal.returns-clause-plain
returns-clause-plain c = plain_job_name c.args.id (omega arith) (omega arith)
