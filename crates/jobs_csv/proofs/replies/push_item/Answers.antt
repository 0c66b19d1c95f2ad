use Rattle.std.proofs.Common.{arith}
use Rattle.jobs_csv.proofs.PlainLemmas.{plain_decimal}
use Rattle.jobs_csv.proofs.replies.push_item.Goals as goal

pub returns-in-Some-clause-plain : goal.returns-in-Some-clause-plain
returns-in-Some-clause-plain c = rw c.in-Some.is (plain_decimal c.in-Some.item (omega arith))
