use Rattle.std.proofs.Common.{arith, ap, inr, refl, subst, sym, set, ◌∙◌, ◌≡◌, ◌+◌}
use Rattle.std.proofs.lemmas.List.{set-get_or}
use Rattle.collectives.specs.Inner.Rounds.{item_at, TurnsPairsIn}
use Rattle.collectives.proofs.PairLemmas.{low_in_block, Turned-alike, Turned-block, Turned-join, Turned-pair}
use Rattle.collectives.proofs.rounds.scan_block.Goals as goal

pub loop-low-preserved : goal.loop-low-preserved
loop-low-preserved g c =
    let m = g.M.Monoid in
    let low = c.loop-low.low in
    let half = c.args.half in
    let prefixes = c.loop-low.prefixes in
    let totals = c.loop-low.totals in
    let first_totals = c.args.totals.now in
    let low_is = low_in_block c.args.start half low c.requires.start (omega arith) (omega arith) in
    let higher = m.join (item_at m.unit totals low) (item_at m.unit prefixes (low + half)) in
    let stays = ap (λ list. set list (low + half) higher) (sym (set-get_or prefixes low m.unit)) in
    let pair = Turned-pair m.unit half low (λ low a b. a) (λ low a b. m.join (item_at m.unit totals low) b) prefixes c.prepend_total.new.prefixes c.requires.half low_is (omega arith)
    (item_at m.unit prefixes low) higher refl refl (c.prepend_total.ensures.prepended ∙ stays) in
    let both = m.join (item_at m.unit totals low) (item_at m.unit totals (low + half)) in
    record {
      prepended = Turned-join m.unit half c.args.start low (low + 1) _ _ c.args.prefixes.now prefixes c.prepend_total.new.prefixes (omega arith) (omega arith) c.loop-low.auto.prefixes c.loop-low.invariant.prepended
          (Turned-alike m.unit half low (low + 1) (λ low a b. a) (λ low a b. m.join (item_at m.unit totals low) b) (λ low a b. m.join (item_at m.unit first_totals low) b) prefixes c.prepend_total.new.prefixes
          (λ x above below x_is within a b. ap (λ total. m.join total b) (c.loop-low.invariant.joined.others x x_is (omega arith) (inr above)).0)
          pair);
      joined = Turned-join m.unit half c.args.start low (low + 1) _ _ first_totals totals c.all_reduce_pair.new.items (omega arith) (omega arith) c.loop-low.auto.totals c.loop-low.invariant.joined
          (Turned-pair m.unit half low (λ low. m.join) (λ low. m.join) totals c.all_reduce_pair.new.items c.requires.half low_is (omega arith) both both refl refl c.all_reduce_pair.ensures.joined);
      values = c.prepend_total.ensures.values;
      total_values = c.all_reduce_pair.ensures.values;
    }

pub returns-clause-prepended : goal.returns-clause-prepended
returns-clause-prepended g c =
    let m = g.M.Monoid in
    let last : c.loop-low.low ≡ c.args.start + c.args.half = omega arith in
    Turned-block m.unit c.args.half c.args.start (λ low a b. a) (λ low a b. m.join (item_at m.unit c.args.totals.now low) b) c.args.prefixes.now c.loop-low.prefixes c.requires.half c.requires.start
    (subst (λ bound. TurnsPairsIn m.unit c.args.half c.args.start bound (λ low a b. a) (λ low a b. m.join (item_at m.unit c.args.totals.now low) b) c.args.prefixes.now c.loop-low.prefixes) last c.loop-low.invariant.prepended)

pub returns-clause-joined : goal.returns-clause-joined
returns-clause-joined g c =
    let m = g.M.Monoid in
    let last : c.loop-low.low ≡ c.args.start + c.args.half = omega arith in
    Turned-block m.unit c.args.half c.args.start (λ low. m.join) (λ low. m.join) c.args.totals.now c.loop-low.totals c.requires.half c.requires.start
    (subst (λ bound. TurnsPairsIn m.unit c.args.half c.args.start bound (λ low. m.join) (λ low. m.join) c.args.totals.now c.loop-low.totals) last c.loop-low.invariant.joined)
