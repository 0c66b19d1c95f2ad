use Rattle.std.proofs.Common.{arith, subst, ◌∙◌, ◌^◌, ◌≡◌, length}
use Rattle.collectives.proofs.BlockLemmas.{HoldsTotals, HoldsTotals-start, HoldsTotals-round, HoldsTotals-all, IsRound-positive, IsRound-whole, IsRound-block}
use Rattle.collectives.proofs.collective.all_reduce.Goals as goal

pub loop-round-init : goal.loop-round-init
loop-round-init g c = record {
  totals = HoldsTotals-start g.met.M.Monoid.laws c.args.items.now c.requires.values;
  values = c.requires.values;
}

pub all_reduce_round-requires-clause-half : goal.all_reduce_round-requires-clause-half
all_reduce_round-requires-clause-half g c =
    IsRound-positive (length c.args.items.now) c.args.k c.loop-round.round c.distance.result
    (record { places = c.requires.places; within = c.loop-round-test.true; half_is = c.distance.ensures })

pub all_reduce_round-requires-clause-whole : goal.all_reduce_round-requires-clause-whole
all_reduce_round-requires-clause-whole g c =
    IsRound-whole (length c.loop-round.items) c.args.k c.loop-round.round c.distance.result
    (record { places = c.loop-round.auto.items ∙ c.requires.places; within = c.loop-round-test.true; half_is = c.distance.ensures })

pub all_reduce_round-requires-clause-block : goal.all_reduce_round-requires-clause-block
all_reduce_round-requires-clause-block g c =
    IsRound-block (length c.loop-round.items) c.args.k c.loop-round.round c.distance.result
    (record { places = c.loop-round.auto.items ∙ c.requires.places; within = c.loop-round-test.true; half_is = c.distance.ensures })

pub loop-round-preserved : goal.loop-round-preserved
loop-round-preserved g c = record {
  totals = HoldsTotals-round g.met.M.Monoid.laws c.args.k c.loop-round.round c.distance.result c.args.items.now c.loop-round.items c.all_reduce_round.new.items
      (record { places = c.loop-round.auto.items ∙ c.requires.places; within = c.loop-round-test.true; half_is = c.distance.ensures })
      (omega arith) c.requires.values c.loop-round.invariant.totals c.all_reduce_round.ensures.joined;
  values = c.all_reduce_round.ensures.values;
}

pub returns-clause-held : goal.returns-clause-held
returns-clause-held g c =
    let m = g.M.Monoid in
    let last : c.loop-round.round ≡ c.args.k = omega arith in
    HoldsTotals-all m.unit m.join c.args.k c.args.items.now c.loop-round.items c.requires.places (c.loop-round.auto.items ∙ c.requires.places)
    (subst (λ i. HoldsTotals m.unit m.join (2 ^ i) c.args.items.now c.loop-round.items) last c.loop-round.invariant.totals)
