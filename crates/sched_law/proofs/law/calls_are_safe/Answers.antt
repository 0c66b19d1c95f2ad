use Rattle.sched_law.proofs.SafeLemmas.{at_safe, cancel_safe, decide_safe, finish_safe, initial_safe, occupy_safe, submit_safe, vacate_safe}
use Rattle.sched_law.proofs.law.calls_are_safe.Goals as goal

pub returns-clause-initial : goal.returns-clause-initial
returns-clause-initial c = λ n patience. initial_safe n patience

pub returns-clause-submit : goal.returns-clause-submit
returns-clause-submit c = λ w job safe sound. submit_safe w job safe sound

pub returns-clause-cancel : goal.returns-clause-cancel
returns-clause-cancel c = λ w j wait safe is. cancel_safe w j safe

pub returns-clause-finish : goal.returns-clause-finish
returns-clause-finish c = λ w j run safe is. finish_safe w j run safe is

pub returns-clause-occupy : goal.returns-clause-occupy
returns-clause-occupy c = λ w r safe aligned vacant. occupy_safe w r safe aligned vacant

pub returns-clause-vacate : goal.returns-clause-vacate
returns-clause-vacate c = λ w r safe is. vacate_safe w r safe

pub returns-clause-at : goal.returns-clause-at
returns-clause-at c = λ w t safe. at_safe w t safe

pub returns-clause-decide : goal.returns-clause-decide
returns-clause-decide c = λ w v answer safe decides. decide_safe w v answer safe decides
