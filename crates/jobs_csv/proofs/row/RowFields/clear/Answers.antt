use Rattle.std.proofs.Common.{ap}
use Rattle.jobs_csv.specs.Inner.Output.{fields_in}
use Rattle.jobs_csv.proofs.EndedLemmas.{none_ended}
use Rattle.jobs_csv.proofs.row.RowFields.clear.Goals as goal

pub invariant_of-self : goal.invariant_of-self
invariant_of-self c = rw c.clear.ensures.items none_ended

pub returns : goal.returns
returns c = ap fields_in c.clear.ensures.items
