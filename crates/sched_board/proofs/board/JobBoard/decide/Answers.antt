-- One more decision follows those so far, and one more worker has a job.
use Rattle.std.proofs.Common.{None, ◌∙◌, arith}
use Rattle.sched_board.specs.declared.board.JobBoard.{JobBoard}
use Rattle.sched_board.proofs.FollowLemmas.{decides_then}
use Rattle.sched_board.proofs.ServeLemmas.{serves_one, serves_then, names_one, names_same}
use Rattle.sched_board.proofs.board.JobBoard.decide.Goals as goal

pub returns-in_default-clause-decides : goal.returns-in_default-clause-decides
returns-in_default-clause-decides c =
    decides_then c.args.now c.args.self.now c.loop-turn.self c.start_one.new.self c.loop-turn.invariant.count c.loop-turn.invariant.decides
    c.in_default.ensures.decides

pub returns-in_default-clause-woken : goal.returns-in_default-clause-woken
returns-in_default-clause-woken c =
    names_same c.args.self.now c.loop-turn.self c.start_one.new.self c.loop-turn.woken c.in_default.ensures.same c.loop-turn.invariant.names

pub loop-turn-preserved : goal.loop-turn-preserved
loop-turn-preserved c =
    let x : JobBoard = c.args.self.now in
    let y : JobBoard = c.loop-turn.self in
    let z : JobBoard = c.start_one.new.self in
    let n = c.in-Some.worker in
    let slot = (c.in-Some.ensures.busy).0 in
    let busy = (c.in-Some.ensures.busy).1 in
    let was = c.loop-turn.invariant in
    record {
      decides = decides_then c.args.now x y z was.count was.decides c.in-Some.ensures.decides;
      serves = serves_then None x y z was.serves (serves_one y z n slot c.in-Some.ensures.waited busy c.in-Some.ensures.others None);
      names = names_one y z n slot c.in-Some.ensures.waited busy c.in-Some.ensures.others x c.loop-turn.woken c.add-woken.result was.serves was.names
          c.add-woken.ensures.added c.add-woken.ensures.others c.add-woken.ensures.no_more c.add-woken.ensures.apart (omega (arith, c.add-woken.ensures.count));
      count = c.in-Some.ensures.count ∙ was.count;
      slots = c.in-Some.ensures.slots ∙ was.slots;
      generations = λ u. c.in-Some.ensures.generations u ∙ was.generations u;
      keeps = λ u taken.
          let before = was.keeps u taken in
          let now = c.in-Some.ensures.keeps u before.0 in
          (now.0, now.1 ∙ before.1);
      phase = c.in-Some.ensures.phase ∙ was.phase;
      started = was.started;
      named = omega (arith, c.add-woken.ensures.count);
    }
