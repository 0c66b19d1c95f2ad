use Rattle.std.proofs.Common.{arith}
use Rattle.csv.specs.Records.{fields_of}
use Rattle.jobs_csv.proofs.JobLemmas.{five}
use Rattle.jobs_csv.proofs.bad_field.bad_job_field.Goals as goal

pub returns : goal.returns
returns c =
    rw (five (fields_of c.args.row.now) _ _ _ _ _ (omega arith) c.field-lane.ensures c.field-kind.ensures c.field-op.ensures c.field-root.ensures c.field-items.ensures) (c.bad_of_job.ensures c.field-items.result.now)
