use Rattle.std.proofs.Common.{arith}
use Rattle.jobs_csv.proofs.ReportLemmas.{plain_wide}
use Rattle.jobs_csv.proofs.report_rows.digits.Goals as goal

pub returns-clause-plain : goal.returns-clause-plain
returns-clause-plain c = plain_wide c.args.processors (omega arith)
