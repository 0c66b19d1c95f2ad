use Rattle.std.proofs.Common.{map, length, refl, ap, arith}
use Rattle.dispatcher.proofs.GoesOverLemmas.{goes_over, none_left}
use Rattle.dispatcher.proofs.room.Room.gather.Goals as goal

pub loop-end-preserved : goal.loop-end-preserved
loop-end-preserved g c =
    let items = c.in-Some.ensures.items in (
      goes_over (λ e. e.pass) c.loop-end.passes.items c.push_reserved.new.self.items (map (λ e. e.pass) c.args.ends.items) c.in-Some.end.pass c.in-Some.end c.loop-end.ends.items c.pop_front.new.self.items
          c.loop-end.invariant.0 items c.push_reserved.ensures.items refl,
      goes_over (λ e. e.station) c.loop-end.stations.items c.push_reserved-in-Some.new.self.items (map (λ e. e.station) c.args.ends.items) c.in-Some.end.station c.in-Some.end c.loop-end.ends.items c.pop_front.new.self.items
          c.loop-end.invariant.1 items c.push_reserved-in-Some.ensures.items refl,
      goes_over (λ e. e.replies) c.loop-end.by_worker.items c.push_reserved-in-Some-2.new.self.items (map (λ e. e.replies) c.args.ends.items) c.in-Some.end.replies c.in-Some.end c.loop-end.ends.items c.pop_front.new.self.items
          c.loop-end.invariant.2 items c.push_reserved-in-Some-2.ensures.items refl,
      omega (arith, c.loop-end.invariant.3, ap length items, c.push_reserved.ensures.len, c.push_reserved.ensures.capacity),
      omega (arith, c.loop-end.invariant.4, ap length items, c.push_reserved-in-Some.ensures.len, c.push_reserved-in-Some.ensures.capacity),
      omega (arith, c.loop-end.invariant.5, ap length items, c.push_reserved-in-Some-2.ensures.len, c.push_reserved-in-Some-2.ensures.capacity),
    )

pub returns-clause-passes : goal.returns-clause-passes
returns-clause-passes g c = none_left (λ e. e.pass) c.loop-end.passes.items (map (λ e. e.pass) c.args.ends.items) c.loop-end.ends.items (omega (arith, c.loop-end.ends.ok, c.in_default.ensures.cases.0)) c.loop-end.invariant.0

pub returns-clause-stations : goal.returns-clause-stations
returns-clause-stations g c = none_left (λ e. e.station) c.loop-end.stations.items (map (λ e. e.station) c.args.ends.items) c.loop-end.ends.items (omega (arith, c.loop-end.ends.ok, c.in_default.ensures.cases.0)) c.loop-end.invariant.1

pub returns-clause-replies : goal.returns-clause-replies
returns-clause-replies g c = none_left (λ e. e.replies) c.loop-end.by_worker.items (map (λ e. e.replies) c.args.ends.items) c.loop-end.ends.items (omega (arith, c.loop-end.ends.ok, c.in_default.ensures.cases.0)) c.loop-end.invariant.2
