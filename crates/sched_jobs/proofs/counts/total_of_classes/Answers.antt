-- One more class, until there is none.
use Rattle.std.proofs.Common.{◌<◌, ◌+◌, None, length, refl, arith}
use Rattle.sched_jobs.specs.declared.lines.TheConstants.{CLASSES}
use Rattle.sched_jobs.specs.Lines.{IsOfClass, count_in}
use Rattle.sched_jobs.proofs.NumberLemmas.{count_few, no_lines}
use Rattle.sched_jobs.proofs.ClassLemmas.{class_more}
use Rattle.sched_jobs.proofs.counts.total_of_classes.Goals as goal

pub loop-class-init : goal.loop-class-init
loop-class-init c = record {
  bound = omega arith;
  few = omega arith;
  count = λ nodes queues line next shown numbers. no_lines nodes line 0 next None;
}

pub overflow_add-count : goal.overflow_add-count
overflow_add-count c =
    let within : c.loop-class.class < CLASSES = omega (arith, c.requires.end, c.loop-class-test.true) in
    let shown = c.requires.lines.3 in
    let few = count_few (IsOfClass c.requires.lines.2 c.loop-class.class) (length c.requires.lines.0) (count_in c.args.counts.now c.loop-class.class) (shown.counted c.loop-class.class within) in
    let limit = shown.lines.limit in
    omega (arith, c.loop-class.invariant.few, few, limit, within)

pub loop-class-preserved : goal.loop-class-preserved
loop-class-preserved c =
    let within : c.loop-class.class < CLASSES = omega (arith, c.requires.end, c.loop-class-test.true) in
    let shown = c.requires.lines.3 in
    let few = count_few (IsOfClass c.requires.lines.2 c.loop-class.class) (length c.requires.lines.0) (count_in c.args.counts.now c.loop-class.class) (shown.counted c.loop-class.class within) in
    let limit = shown.lines.limit in
    record {
      bound = omega (arith, c.loop-class-test.true);
      few = omega (arith, c.loop-class.invariant.few, few, limit);
      count = λ nodes queues line next is numbers.
          class_more nodes queues c.args.counts.now line c.loop-class.class next within is numbers c.loop-class.count (c.loop-class.count + count_in c.args.counts.now c.loop-class.class) refl
          (c.loop-class.invariant.count nodes queues line next is numbers);
    }
