use Rattle.std.proofs.Common.{arith}
use Rattle.dispatcher.specs.Members.{stop_of}
use Rattle.dispatcher.proofs.GoesOverLemmas.{comes_next, gone_count, all_gone}
use Rattle.dispatcher_threads.proofs.running.stops_of.Goals as goal

pub loop-end-init : goal.loop-end-init
loop-end-init g c = (c.requires.empty, c.requires.room)

pub push_reserved-requires : goal.push_reserved-requires
push_reserved-requires g c =
    omega (arith, gone_count stop_of c.args.ends.now c.loop-end.end-index c.loop-end.stops.items c.loop-end.auto.end-index-end c.loop-end.invariant.0, c.loop-end-test.true, c.loop-end.invariant.1)

pub loop-end-preserved : goal.loop-end-preserved
loop-end-preserved g c = (
  comes_next stop_of c.args.ends.now c.loop-end.end-index c.end-item.result c.loop-end.stops.items _ _ c.loop-end-test.true c.end-item.is c.loop-end.invariant.0 c.push_reserved.ensures.items c.stop.ensures,
  omega (arith, c.loop-end.invariant.1, c.push_reserved.ensures.capacity),
)

pub returns : goal.returns
returns g c = all_gone stop_of c.args.ends.now c.loop-end.end-index c.loop-end.stops.items c.loop-end-test.false c.loop-end.invariant.0
