use Rattle.std.proofs.Common.{map, length, refl, ap, arith}
use Rattle.dispatcher.proofs.GoesOverLemmas.{none_gone, goes_over, none_left}
use Rattle.dispatcher_threads.proofs.running.part.Goals as goal

pub loop-one-init : goal.loop-one-init
loop-one-init g c =
    let same = c.from_vec-fed.ensures.items in (
      none_gone (λ f. f.0) c.args.lanes.items c.from_vec-fed.result.items c.args.fed.items c.requires.empty.0 same,
      none_gone (λ f. f.1) c.args.ends.items c.from_vec-fed.result.items c.args.fed.items c.requires.empty.1 same,
      omega (arith, ap length c.requires.empty.0, ap length same, c.requires.lane_room),
      omega (arith, ap length c.requires.empty.1, ap length same, c.requires.room),
    )

pub push_reserved-requires : goal.push_reserved-requires
push_reserved-requires g c = omega (arith, c.loop-one.invariant.3, ap length c.in-Some.ensures.items)

pub push_reserved-requires-in-Some : goal.push_reserved-requires-in-Some
push_reserved-requires-in-Some g c = omega (arith, c.loop-one.invariant.2, ap length c.in-Some.ensures.items)

pub loop-one-preserved : goal.loop-one-preserved
loop-one-preserved g c =
    let items = c.in-Some.ensures.items in
    let one = c.in-Some.one in
    let fed = c.args.fed.items in (
      goes_over (λ f. f.0) c.loop-one.lanes.items c.push_reserved-in-Some.new.self.items (map (λ f. f.0) fed) one.0 one c.loop-one.fed.items c.pop_front.new.self.items
          c.loop-one.invariant.0 items c.push_reserved-in-Some.ensures.items refl,
      goes_over (λ f. f.1) c.loop-one.ends.items c.push_reserved.new.self.items (map (λ f. f.1) fed) one.1 one c.loop-one.fed.items c.pop_front.new.self.items
          c.loop-one.invariant.1 items c.push_reserved.ensures.items refl,
      omega (arith, c.loop-one.invariant.2, ap length items, c.push_reserved-in-Some.ensures.len, c.push_reserved-in-Some.ensures.capacity),
      omega (arith, c.loop-one.invariant.3, ap length items, c.push_reserved.ensures.len, c.push_reserved.ensures.capacity),
    )

pub loop-one-smaller : goal.loop-one-smaller
loop-one-smaller g c = omega (arith, ap length c.in-Some.ensures.items)

pub destroy_empty-requires : goal.destroy_empty-requires
destroy_empty-requires g c = c.in_default.ensures.cases.1

pub returns-clause-lanes : goal.returns-clause-lanes
returns-clause-lanes g c = none_left (λ f. f.0) c.loop-one.lanes.items (map (λ f. f.0) c.args.fed.items) c.loop-one.fed.items (omega (arith, c.loop-one.fed.ok, c.in_default.ensures.cases.0)) c.loop-one.invariant.0

pub returns-clause-ends : goal.returns-clause-ends
returns-clause-ends g c = none_left (λ f. f.1) c.loop-one.ends.items (map (λ f. f.1) c.args.fed.items) c.loop-one.fed.items (omega (arith, c.loop-one.fed.ok, c.in_default.ensures.cases.0)) c.loop-one.invariant.1
