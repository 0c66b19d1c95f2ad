-- What the blocks say holds of the scheduler.
use Rattle.std.proofs.Common.{Option, sym, ap, subst}
use Rattle.std.proofs.lemmas.Bool.{true≢false}
use Rattle.sched_law.specs.State.{occupy}
use Rattle.sched_blocks.specs.Layout.{Layout}
use Rattle.sched_core.specs.declared.assigned.Assigned.{Assigned}
use Rattle.sched_core.specs.Shows.{ShowsCore}
use Rattle.sched_core.proofs.CoreLemmas.{occupy_core}
use Rattle.sched_core.proofs.scheduler.Core.occupy.Goals as goal

pub returns-then-not-occupy-clause-vacant : goal.returns-then-not-occupy-clause-vacant
returns-then-not-occupy-clause-vacant c = λ w k. c.if-not-occupy.ensures.vacant w k.machine

pub returns-then-not-occupy-clause-unchanged : goal.returns-then-not-occupy-clause-unchanged
returns-then-not-occupy-clause-unchanged c = λ is.
    let w = c.requires.shows.0 in
    let k = c.requires.shows.1 in
    ap (λ (b : Layout). record c.args.self.now { blocks = b })
    (c.if-not-occupy.ensures.unchanged w k.machine (λ vacant. true≢false (sym ((c.if-not-occupy.ensures.vacant w k.machine).1 vacant))))

pub returns-then-not-occupy-clause-shows : goal.returns-then-not-occupy-clause-shows
returns-then-not-occupy-clause-shows c = λ w k vacant. absurd (true≢false (sym ((c.if-not-occupy.ensures.vacant w k.machine).1 vacant)))

pub returns-clause-vacant : goal.returns-clause-vacant
returns-clause-vacant c = λ w k. c.if-not-occupy.ensures.vacant w k.machine

pub returns-clause-shows : goal.returns-clause-shows
returns-clause-shows c = λ w k vacant.
    subst (λ (o : Option Assigned). ShowsCore (occupy c.args.region w) (record c.args.self.now { blocks = c.occupy.new.self; reserved = o })) (sym c.beside-self.ensures)
    (occupy_core w c.args.self.now k c.occupy.new.self c.args.region c.occupy.ensures.dim_stays (c.occupy.ensures.shows w k.machine vacant))
