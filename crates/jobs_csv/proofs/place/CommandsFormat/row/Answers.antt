use Rattle.csv.specs.Records.{fields_of}
use Rattle.jobs_csv.proofs.CommandLemmas.{no_command}
use Rattle.jobs_csv.proofs.place.CommandsFormat.row.Goals as goal

pub returns-in-None-clause-parse : goal.returns-in-None-clause-parse
returns-in-None-clause-parse c = no_command c.args.self.now.n (fields_of c.args.row.now) c.in-None.ensures.none
