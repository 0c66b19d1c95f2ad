use Rattle.std.proofs.Common.{rules}
use Rattle.csv.specs.Records.{fields_of}
use Rattle.jobs_csv.specs.Jobs.{job_of}
use Rattle.jobs_csv.proofs.JobLemmas.{five}
use Rattle.jobs_csv.proofs.jobs.read_fields.Goals as goal

pub returns-clause-parse : goal.returns-clause-parse
unfolding job_of
returns-clause-parse c =
    rw (five (fields_of c.args.row.now) _ _ _ _ _ c.requires.five c.field-lane.ensures c.field-kind.ensures c.field-op.ensures c.field-root.ensures c.field-items.ensures) (search rules)
