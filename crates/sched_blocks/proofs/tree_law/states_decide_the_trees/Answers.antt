use Rattle.sched_blocks.proofs.EndLemmas.{ends_alike}
use Rattle.sched_blocks.proofs.BusyLemmas.{busy_alike}
use Rattle.sched_blocks.proofs.UseLemmas.{one_own, one_used, rooms_used}
use Rattle.sched_blocks.proofs.tree_law.states_decide_the_trees.Goals as goal

pub returns-clause-ends : goal.returns-clause-ends
returns-clause-ends c = λ n own other ends alike are. ends_alike n own other ends alike are

pub returns-clause-busy : goal.returns-clause-busy
returns-clause-busy c = λ n used other busy alike are. busy_alike n used other busy alike are

pub returns-clause-own : goal.returns-clause-own
returns-clause-own c = λ w own other u owns owns_too within. one_own w own other owns owns_too u within

pub returns-clause-used : goal.returns-clause-used
returns-clause-used c = λ w used other u uses uses_too within. one_used w used other uses uses_too u within

pub returns-clause-rooms : goal.returns-clause-rooms
returns-clause-rooms c = λ w rooms sound alike. rooms_used w rooms sound alike
