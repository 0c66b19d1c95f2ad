-- The slot is the rest, and the number is the quotient.
use Rattle.std.proofs.Common.{arith}
use Rattle.sched_jobs.proofs.law.tickets_differ.Goals as goal

pub returns : goal.returns
returns c = λ a b u v one other same. (omega (arith, one, other, same), omega (arith, one, other, same))
