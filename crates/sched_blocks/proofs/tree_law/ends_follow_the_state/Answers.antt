use Rattle.sched_blocks.proofs.FollowLemmas.{at_own, cancel_own, finish_own, initial_own, occupy_own, pass_own, reserve_own, start_own, submit_own, vacate_own}
use Rattle.sched_blocks.proofs.tree_law.ends_follow_the_state.Goals as goal

pub returns-clause-initial : goal.returns-clause-initial
returns-clause-initial c = λ n patience. initial_own n patience

pub returns-clause-submit : goal.returns-clause-submit
returns-clause-submit c = λ w own job are safe. submit_own w own are job safe

pub returns-clause-cancel : goal.returns-clause-cancel
returns-clause-cancel c = λ w own j wait are waits. cancel_own w own are j wait waits

pub returns-clause-at : goal.returns-clause-at
returns-clause-at c = λ w own t are. at_own w own are t

pub returns-clause-pass : goal.returns-clause-pass
returns-clause-pass c = λ w own h head k are waits. pass_own w own are h head k waits

pub returns-clause-reserve : goal.returns-clause-reserve
returns-clause-reserve c = λ w own j r are. reserve_own w own are j r

pub returns-clause-occupy : goal.returns-clause-occupy
returns-clause-occupy c = λ w own r are. occupy_own w own are r

pub returns-clause-vacate : goal.returns-clause-vacate
returns-clause-vacate c = λ w own r are. vacate_own w own are r

pub returns-clause-start : goal.returns-clause-start
returns-clause-start c = λ w own j v wait job r are waits free of_r. start_own w own are j v wait job r waits free of_r

pub returns-clause-finish : goal.returns-clause-finish
returns-clause-finish c = λ w own j v run are safe runs of_r. finish_own w own are j v run safe runs of_r
