use Rattle.std.proofs.Common.{◌+◌, subst, arith}
use Rattle.lanes.specs.declared.record.WorkerRecord.{WorkerRecord}
use Rattle.lanes.specs.Lanes.{call_steps, look_steps}
use Rattle.lanes.specs.Sleep.{FindsNone, find_steps}
use Rattle.lanes.proofs.FindLemmas.{finds_none, round_none, round_ended, none_same, none_then}
use Rattle.lanes.proofs.lanes.Lanes.round_searching.Goals as goal

pub returns-in-AllEnded-clause-finds : goal.returns-in-AllEnded-clause-finds
returns-in-AllEnded-clause-finds c =
    let lanes = c.args.self.now.plan.sizes.lanes in
    let old = c.args.sleeper.now.known in
    let mid = c.take_round.new.sleeper.known in
    let new = c.find_call.new.sleeper.known in
    none_then lanes call_steps 0 find_steps old mid new (round_ended lanes c.args.from old mid c.take_round.ensures.keeps c.in-AllEnded.ensures.takes).0
    (none_same lanes 0 mid new c.find_call.ensures.known) (omega arith)

pub returns-then-not-may_lie_down-clause-finds : goal.returns-then-not-may_lie_down-clause-finds
returns-then-not-may_lie_down-clause-finds c =
    let lanes = c.args.self.now.plan.sizes.lanes in
    let old = c.args.sleeper.now.known in
    let mid = c.take_round.new.sleeper.known in
    let new = c.may_lie_down.new.sleeper.known in
    finds_none lanes c.args.from find_steps old c.again.result.found new c.again.ensures.none
    (none_then lanes call_steps look_steps find_steps old mid new
    (round_none lanes c.args.from old mid c.take_round.ensures.keeps c.in-NoJob.ensures.takes) c.may_lie_down.ensures.none (omega arith))

pub returns-else-not-may_lie_down-clause-finds : goal.returns-else-not-may_lie_down-clause-finds
returns-else-not-may_lie_down-clause-finds c =
    let lanes = c.args.self.now.plan.sizes.lanes in
    let old = c.args.sleeper.now.known in
    let mid = c.take_round.new.sleeper.known in
    let looked = c.may_lie_down.new.sleeper.known in
    let new = c.look_at_all-at.new.sleeper.known in
    none_then lanes (call_steps + look_steps) look_steps find_steps old looked new
    (none_then lanes call_steps look_steps (call_steps + look_steps) old mid looked
    (round_none lanes c.args.from old mid c.take_round.ensures.keeps c.in-NoJob.ensures.takes) c.may_lie_down.ensures.none (omega arith))
    (subst (λ (w : WorkerRecord). FindsNone lanes look_steps w new) c.lie_down.ensures.known c.look_at_all-at.ensures.none) (omega arith)
