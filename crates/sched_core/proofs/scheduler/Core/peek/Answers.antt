-- The decision is not carried out.
use Rattle.sched_law.specs.State.{at}
use Rattle.sched_core.proofs.CoreLemmas.{at_core}
use Rattle.sched_core.proofs.PickLemmas.{announce_none, announce_some, pick_inside}
use Rattle.sched_core.proofs.scheduler.Core.peek.Goals as goal

pub decide-requires : goal.decide-requires
decide-requires c = (at c.args.now c.requires.0, at_core c.requires.0 c.args.self.now c.requires.1 c.args.now)

pub returns-in_default-clause-announces : goal.returns-in_default-clause-announces
returns-in_default-clause-announces c = λ w k.
    let picks = c.in_default.ensures.picks (at c.args.now w) (at_core w c.args.self.now k c.args.now) in
    (picks.0, (picks.0, (announce_none (at c.args.now w) picks.0 c.decide.new.self picks.1, picks.2)))

pub returns-clause-inside : goal.returns-clause-inside
returns-clause-inside c =
    let picks = c.in-Some.ensures.picks (at c.args.now c.requires.0) (at_core c.requires.0 c.args.self.now c.requires.1 c.args.now) in
    pick_inside (at c.args.now c.requires.0) picks.0 c.decide.new.self.jobs c.in-Some.it picks.1

pub returns-clause-announces : goal.returns-clause-announces
returns-clause-announces c = λ w k.
    let picks = c.in-Some.ensures.picks (at c.args.now w) (at_core w c.args.self.now k c.args.now) in
    let found = announce_some (at c.args.now w) picks.0 c.decide.new.self c.in-Some.it picks.2 picks.1 in
    (picks.0, (found.0, (found.1, picks.2)))
