use Rattle.std.proofs.Common.{ap}
use Rattle.jobs_csv.specs.Inner.Output.{fields_in}
use Rattle.jobs_csv.proofs.EndedLemmas.{none_ended}
use Rattle.jobs_csv.proofs.row.RowFields.new.Goals as goal

pub invariant_of-result : goal.invariant_of-result
invariant_of-result c = rw c.new.ensures.items none_ended

pub returns : goal.returns
returns c = ap fields_in c.new.ensures.items
