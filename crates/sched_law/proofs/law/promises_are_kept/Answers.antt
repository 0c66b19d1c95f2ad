use Rattle.sched_law.specs.declared.job.Place.TheVariants.{Absent, Waiting}
use Rattle.sched_law.proofs.SetLemmas.{absent_runs, runs_waits}
use Rattle.sched_law.proofs.LawLemmas.{decided_all, decided_early, over_runs, promise_kept}
use Rattle.std.proofs.Common.{sym}
use Rattle.sched_law.proofs.law.promises_are_kept.Goals as goal

pub returns-clause-submit : goal.returns-clause-submit
returns-clause-submit c = λ w job r t all i run inside.
    all i run (over_runs w.place w.next (Waiting (record { job = job; passed = 0 })) (λ run is. runs_waits (sym is)) i run inside.0, inside.1)

pub returns-clause-cancel : goal.returns-clause-cancel
returns-clause-cancel c = λ w j r t all i run inside. all i run (over_runs w.place j Absent (λ run is. absent_runs is) i run inside.0, inside.1)

pub returns-clause-finish : goal.returns-clause-finish
returns-clause-finish c = λ w j r t all i run inside. all i run (over_runs w.place j Absent (λ run is. absent_runs is) i run inside.0, inside.1)

pub returns-clause-occupy : goal.returns-clause-occupy
returns-clause-occupy c = λ w out r t all i run inside. all i run inside

pub returns-clause-vacate : goal.returns-clause-vacate
returns-clause-vacate c = λ w out r t all i run inside. all i run inside

pub returns-clause-decide : goal.returns-clause-decide
returns-clause-decide c = λ w v answer reserved t decides was is all. decided_all w v answer reserved t decides was is all

pub returns-clause-early : goal.returns-clause-early
returns-clause-early c = λ w v j run reserved t decides is inside all. decided_early w v j run reserved t decides is inside all

pub returns-clause-kept : goal.returns-clause-kept
returns-clause-kept c = λ w reserved t safe settled is punctual all. promise_kept w settled safe reserved t is punctual all
