use Rattle.sched_law.proofs.LawLemmas.{head_has_none, is_late, is_reserved, meets}
use Rattle.sched_law.proofs.law.no_work_is_withheld.Goals as goal

pub returns-clause-head : goal.returns-clause-head
returns-clause-head c = λ w h head settled is. head_has_none w settled h head is

pub returns-clause-reserved : goal.returns-clause-reserved
returns-clause-reserved c = λ w j wait r safe settled waits other aligned dim vacant. is_reserved w settled safe j wait waits other r aligned dim vacant

pub returns-clause-meets : goal.returns-clause-meets
returns-clause-meets c = λ w j wait r reserved safe settled waits other aligned dim vacant is. meets w settled safe j wait waits other r aligned dim vacant reserved is

pub returns-clause-late : goal.returns-clause-late
returns-clause-late c = λ w j wait r reserved safe settled waits other aligned dim vacant is. is_late w settled safe j wait waits other r aligned dim vacant reserved is
