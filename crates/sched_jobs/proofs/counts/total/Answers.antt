-- One more line, until there is none.
use Rattle.std.proofs.Common.{◌<◌, ◌+◌, Some, length, refl, arith}
use Rattle.sched_jobs.proofs.NumberLemmas.{line_counted, lines_more, no_lines}
use Rattle.sched_jobs.proofs.counts.total.Goals as goal

pub loop-at-init : goal.loop-at-init
loop-at-init c = record {
  from = omega arith;
  bound = c.requires.first;
  few = omega arith;
  count = λ line next are numbers. no_lines c.args.nodes.now line c.args.first next (Some c.args.bound);
}

pub count_before-requires : goal.count_before-requires
count_before-requires c =
    let inside : c.loop-at.at < length c.args.queues.now = omega (arith, c.requires.end, c.loop-at-test.true) in
    let here = c.requires.lines.1.each c.loop-at.at inside in
    (here.slots, here.is_queue)

pub loop-at-preserved : goal.loop-at-preserved
loop-at-preserved c =
    let inside : c.loop-at.at < length c.args.queues.now = omega (arith, c.requires.end, c.loop-at-test.true) in record {
      from = omega (arith, c.loop-at.invariant.from);
      bound = omega (arith, c.loop-at-test.true);
      few = omega (arith, c.loop-at.invariant.few, c.count_before.type_inv);
      count = λ line next are numbers.
          let here = are.each c.loop-at.at inside in
          lines_more c.args.nodes.now line c.args.first c.loop-at.at next (Some c.args.bound) c.loop-at.count c.count_before.result (c.loop-at.count + c.count_before.result) numbers c.loop-at.invariant.from refl
          (c.loop-at.invariant.count line next are numbers)
          (line_counted c.args.nodes.now c.args.queues.now line c.loop-at.at next c.args.bound c.count_before.result here numbers (c.count_before.ensures here.slots here.is_queue));
    }
