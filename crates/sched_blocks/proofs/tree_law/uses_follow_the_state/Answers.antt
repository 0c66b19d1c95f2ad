use Rattle.sched_blocks.proofs.FollowLemmas.{at_used, cancel_used, finish_used, initial_used, occupy_used, pass_used, reserve_used, start_used, submit_used, vacate_used}
use Rattle.sched_blocks.proofs.tree_law.uses_follow_the_state.Goals as goal

pub returns-clause-initial : goal.returns-clause-initial
returns-clause-initial c = λ n patience. initial_used n patience

pub returns-clause-submit : goal.returns-clause-submit
returns-clause-submit c = λ w used job are safe. submit_used w used are job safe

pub returns-clause-cancel : goal.returns-clause-cancel
returns-clause-cancel c = λ w used j wait are waits. cancel_used w used are j wait waits

pub returns-clause-at : goal.returns-clause-at
returns-clause-at c = λ w used t are. at_used w used are t

pub returns-clause-pass : goal.returns-clause-pass
returns-clause-pass c = λ w used h head k are waits. pass_used w used are h head k waits

pub returns-clause-reserve : goal.returns-clause-reserve
returns-clause-reserve c = λ w used j r are. reserve_used w used are j r

pub returns-clause-occupy : goal.returns-clause-occupy
returns-clause-occupy c = λ w used v r are safe vacant of_r. occupy_used w used are v r safe vacant of_r

pub returns-clause-vacate : goal.returns-clause-vacate
returns-clause-vacate c = λ w used v r are safe out of_r. vacate_used w used are v r safe out of_r

pub returns-clause-start : goal.returns-clause-start
returns-clause-start c = λ w used j v wait job r are waits of_r. start_used w used are j v wait job r waits of_r

pub returns-clause-finish : goal.returns-clause-finish
returns-clause-finish c = λ w used j v run are safe runs of_r. finish_used w used are j v run safe runs of_r
