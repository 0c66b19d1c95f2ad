-- The decision is carried out.
use Rattle.sched_law.specs.State.{at}
use Rattle.sched_core.proofs.CoreLemmas.{at_core}
use Rattle.sched_core.proofs.scheduler.Core.next.Goals as goal

pub decide-requires : goal.decide-requires
decide-requires c = (at c.args.now c.requires.0, at_core c.requires.0 c.args.self.now c.requires.1 c.args.now)

pub returns-in_default-clause-decides : goal.returns-in_default-clause-decides
returns-in_default-clause-decides c = λ w k. c.in_default.ensures.picks (at c.args.now w) (at_core w c.args.self.now k c.args.now)

pub carry_out-requires : goal.carry_out-requires
carry_out-requires c =
    let picks = c.in-Some.ensures.picks (at c.args.now c.requires.0) (at_core c.requires.0 c.args.self.now c.requires.1 c.args.now) in
    (at c.args.now c.requires.0, (picks.0, (picks.1, picks.2)))

pub returns-clause-decides : goal.returns-clause-decides
returns-clause-decides c = λ w k.
    let picks = c.in-Some.ensures.picks (at c.args.now w) (at_core w c.args.self.now k c.args.now) in
    c.carry_out.ensures.decides (at c.args.now w) picks.0 picks.1 picks.2
