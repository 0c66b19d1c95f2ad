use Rattle.sched_blocks.proofs.SameLemmas.{at_shows, cancel_shows, pass_shows, prepare_shows, reserve_shows, submit_shows}
use Rattle.sched_blocks.proofs.law.other_calls_change_no_block.Goals as goal

pub returns-clause-submit : goal.returns-clause-submit
returns-clause-submit c = λ w b job shows sound. submit_shows w b shows job sound

pub returns-clause-cancel : goal.returns-clause-cancel
returns-clause-cancel c = λ w b j wait shows waits. cancel_shows w b shows j wait waits

pub returns-clause-at : goal.returns-clause-at
returns-clause-at c = λ w b t shows. at_shows w b shows t

pub returns-clause-pass : goal.returns-clause-pass
returns-clause-pass c = λ w b h head k shows waits. pass_shows w b shows h head k waits

pub returns-clause-reserve : goal.returns-clause-reserve
returns-clause-reserve c = λ w b j r shows safe. reserve_shows w b shows j r safe

pub returns-clause-prepare : goal.returns-clause-prepare
returns-clause-prepare c = λ w v b h head shows is prepares. prepare_shows w v b shows h head is prepares
