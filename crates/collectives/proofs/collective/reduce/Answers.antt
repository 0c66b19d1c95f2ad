use Rattle.std.proofs.Common.{arith, subst, ◌∙◌, ◌^◌, ◌≡◌, length}
use Rattle.collectives.proofs.BlockLemmas.{HoldsReduced, HoldsReduced-start, HoldsReduced-round, HoldsReduced-all, IsRound-positive, IsRound-whole, IsRound-block}
use Rattle.collectives.proofs.collective.reduce.Goals as goal

pub loop-round-init : goal.loop-round-init
loop-round-init g c = record {
  reduced = HoldsReduced-start g.met.M.Monoid.laws c.args.root c.args.items.now c.requires.values;
  values = c.requires.values;
}

pub reduce_round-requires-clause-half : goal.reduce_round-requires-clause-half
reduce_round-requires-clause-half g c =
    IsRound-positive (length c.args.items.now) c.args.k c.loop-round.round c.distance.result
    (record { places = c.requires.places; within = c.loop-round-test.true; half_is = c.distance.ensures })

pub reduce_round-requires-clause-whole : goal.reduce_round-requires-clause-whole
reduce_round-requires-clause-whole g c =
    IsRound-whole (length c.loop-round.items) c.args.k c.loop-round.round c.distance.result
    (record { places = c.loop-round.auto.items ∙ c.requires.places; within = c.loop-round-test.true; half_is = c.distance.ensures })

pub reduce_round-requires-clause-block : goal.reduce_round-requires-clause-block
reduce_round-requires-clause-block g c =
    IsRound-block (length c.loop-round.items) c.args.k c.loop-round.round c.distance.result
    (record { places = c.loop-round.auto.items ∙ c.requires.places; within = c.loop-round-test.true; half_is = c.distance.ensures })

pub loop-round-preserved : goal.loop-round-preserved
loop-round-preserved g c = record {
  reduced = HoldsReduced-round g.met.M.Monoid.laws c.args.root c.args.k c.loop-round.round c.distance.result c.args.items.now c.loop-round.items c.reduce_round.new.items
      (record { places = c.loop-round.auto.items ∙ c.requires.places; within = c.loop-round-test.true; half_is = c.distance.ensures })
      (omega arith) c.requires.values c.loop-round.invariant.reduced c.reduce_round.ensures.reduced;
  values = c.reduce_round.ensures.values;
}

pub returns-clause-held : goal.returns-clause-held
returns-clause-held g c =
    let m = g.M.Monoid in
    let last : c.loop-round.round ≡ c.args.k = omega arith in
    HoldsReduced-all m.unit m.join c.args.root c.args.k c.args.items.now c.loop-round.items c.requires.root c.requires.places (c.loop-round.auto.items ∙ c.requires.places)
    (subst (λ i. HoldsReduced m.unit m.join c.args.root (2 ^ i) c.args.items.now c.loop-round.items) last c.loop-round.invariant.reduced)
