use Rattle.std.proofs.Common.{◌*◌, refl, arith}
use Rattle.lanes.specs.Sleep.{find_steps}
use Rattle.lanes.proofs.FindLemmas.{none_same, none_then, finds_none, then_finds}
use Rattle.lanes.proofs.lanes.Lanes.find_from.Goals as goal

pub returns-clause-finds : goal.returns-clause-finds
returns-clause-finds c =
    let lanes = c.args.self.now.plan.sizes.lanes in
    let old = c.args.sleeper.now.known in
    let new = c.loop-turn.sleeper.known in
    finds_none lanes c.args.from (c.args.tries * find_steps) old c.again.result.found new c.again.ensures.none
    (none_then lanes (c.loop-turn.turn * find_steps) 0 (c.args.tries * find_steps) old new new c.loop-turn.invariant.2 (none_same lanes 0 new new refl) (omega (arith, c.loop-turn.invariant.3)))

pub returns-then-ne-clause-finds : goal.returns-then-ne-clause-finds
returns-then-ne-clause-finds c =
    then_finds c.args.self.now.plan.sizes.lanes c.args.from (c.loop-turn.turn * find_steps) find_steps (c.args.tries * find_steps) c.args.sleeper.now.known c.loop-turn.sleeper.known c.find_round-round.result.found c.find_round-round.new.sleeper.known
    c.loop-turn.invariant.2 c.find_round-round.ensures.finds (omega (arith, c.loop-turn-test.true))
