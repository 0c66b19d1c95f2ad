use Rattle.csv.specs.Records.{fields_of}
use Rattle.jobs_csv.proofs.LineLemmas.{no_line}
use Rattle.jobs_csv.proofs.schedule.ScheduleFormat.row.Goals as goal

pub returns-in-None-clause-parse : goal.returns-in-None-clause-parse
returns-in-None-clause-parse c = no_line (fields_of c.args.row.now) c.in-None.ensures.none
