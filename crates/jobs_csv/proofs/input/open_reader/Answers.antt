use Rattle.jobs_csv.proofs.Given.{none_given}
use Rattle.jobs_csv.proofs.input.open_reader.Goals as goal

pub returns-clause-none : goal.returns-clause-none
returns-clause-none g c = none_given g.R.Read.remaining (g.R.Read.remaining c.args.text) c.from_reader.result c.from_reader.ensures.source c.from_reader.ensures.state
