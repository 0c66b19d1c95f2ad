use Rattle.std.proofs.Common.{arith, subst, ◌∙◌, ◌^◌, ◌≡◌, length}
use Rattle.collectives.proofs.BlockLemmas.{HoldsTotals, HoldsTotals-start, HoldsTotals-round, HoldsTotals-all, HoldsPrefixes, HoldsPrefixes-start, HoldsPrefixes-round, HoldsPrefixes-all, IsRound-positive, IsRound-whole, IsRound-block}
use Rattle.collectives.proofs.collective.scan_rounds.Goals as goal

pub loop-round-init : goal.loop-round-init
loop-round-init g c = record {
  prefixes = HoldsPrefixes-start g.met.M.Monoid.laws c.args.totals.now c.args.prefixes.now c.requires.values;
  totals = HoldsTotals-start g.met.M.Monoid.laws c.args.totals.now c.requires.item_values;
  values = c.requires.values;
  total_values = c.requires.item_values;
}

pub scan_round-requires-clause-half : goal.scan_round-requires-clause-half
scan_round-requires-clause-half g c =
    IsRound-positive (length c.args.prefixes.now) c.args.k c.loop-round.round c.distance.result
    (record { places = c.requires.places; within = c.loop-round-test.true; half_is = c.distance.ensures })

pub scan_round-requires-clause-whole : goal.scan_round-requires-clause-whole
scan_round-requires-clause-whole g c =
    IsRound-whole (length c.loop-round.prefixes) c.args.k c.loop-round.round c.distance.result
    (record { places = c.loop-round.auto.prefixes ∙ c.requires.places; within = c.loop-round-test.true; half_is = c.distance.ensures })

pub scan_round-requires-clause-block : goal.scan_round-requires-clause-block
scan_round-requires-clause-block g c =
    IsRound-block (length c.loop-round.prefixes) c.args.k c.loop-round.round c.distance.result
    (record { places = c.loop-round.auto.prefixes ∙ c.requires.places; within = c.loop-round-test.true; half_is = c.distance.ensures })

pub loop-round-preserved : goal.loop-round-preserved
loop-round-preserved g c = record {
  prefixes = HoldsPrefixes-round g.met.M.Monoid.laws c.args.k c.loop-round.round c.distance.result c.args.totals.now c.args.prefixes.now c.loop-round.prefixes c.loop-round.totals c.scan_round.new.prefixes
      (record { places = c.loop-round.auto.prefixes ∙ c.requires.places; within = c.loop-round-test.true; half_is = c.distance.ensures })
      (omega arith) (omega arith) (omega arith) c.requires.item_values c.requires.values c.loop-round.invariant.prefixes c.loop-round.invariant.totals c.scan_round.ensures.prepended;
  totals = HoldsTotals-round g.met.M.Monoid.laws c.args.k c.loop-round.round c.distance.result c.args.totals.now c.loop-round.totals c.scan_round.new.totals
      (record { places = c.loop-round.auto.totals ∙ c.requires.items; within = c.loop-round-test.true; half_is = c.distance.ensures })
      (omega arith) c.requires.item_values c.loop-round.invariant.totals c.scan_round.ensures.joined;
  values = c.scan_round.ensures.values;
  total_values = c.scan_round.ensures.total_values;
}

pub returns-clause-held : goal.returns-clause-held
returns-clause-held g c =
    let m = g.M.Monoid in
    let last : c.loop-round.round ≡ c.args.k = omega arith in
    HoldsPrefixes-all m.unit m.join c.args.k c.args.totals.now c.args.prefixes.now c.loop-round.prefixes (c.loop-round.auto.prefixes ∙ c.requires.places)
    (subst (λ i. HoldsPrefixes m.unit m.join (2 ^ i) c.args.totals.now c.args.prefixes.now c.loop-round.prefixes) last c.loop-round.invariant.prefixes)

pub returns-clause-totals : goal.returns-clause-totals
returns-clause-totals g c =
    let m = g.M.Monoid in
    let last : c.loop-round.round ≡ c.args.k = omega arith in
    HoldsTotals-all m.unit m.join c.args.k c.args.totals.now c.loop-round.totals c.requires.items (c.loop-round.auto.totals ∙ c.requires.items)
    (subst (λ i. HoldsTotals m.unit m.join (2 ^ i) c.args.totals.now c.loop-round.totals) last c.loop-round.invariant.totals)
