use Rattle.std.proofs.Common.{arith, refl, subst, ◌≡◌, ◌+◌}
use Rattle.collectives.specs.Inner.Rounds.{item_at, TurnsPairsIn}
use Rattle.collectives.proofs.PairLemmas.{low_in_block, Turned-block, Turned-join, Turned-pair}
use Rattle.collectives.proofs.rounds.all_reduce_block.Goals as goal

pub loop-low-preserved : goal.loop-low-preserved
loop-low-preserved g c =
    let m = g.M.Monoid in
    let low = c.loop-low.low in
    let items = c.loop-low.items in
    let low_is = low_in_block c.args.start c.args.half low c.requires.start (omega arith) (omega arith) in
    let both = m.join (item_at m.unit items low) (item_at m.unit items (low + c.args.half)) in
    record {
      turned = Turned-join m.unit c.args.half c.args.start low (low + 1) _ _ c.args.items.now items c.all_reduce_pair.new.items (omega arith) (omega arith) c.loop-low.auto.items c.loop-low.invariant.turned
          (Turned-pair m.unit c.args.half low (λ low. m.join) (λ low. m.join) items c.all_reduce_pair.new.items c.requires.half low_is (omega arith) both both refl refl c.all_reduce_pair.ensures.joined);
      values = c.all_reduce_pair.ensures.values;
    }

pub returns-clause-joined : goal.returns-clause-joined
returns-clause-joined g c =
    let m = g.M.Monoid in
    let last : c.loop-low.low ≡ c.args.start + c.args.half = omega arith in
    Turned-block m.unit c.args.half c.args.start (λ low. m.join) (λ low. m.join) c.args.items.now c.loop-low.items c.requires.half c.requires.start
    (subst (λ bound. TurnsPairsIn m.unit c.args.half c.args.start bound (λ low. m.join) (λ low. m.join) c.args.items.now c.loop-low.items) last c.loop-low.invariant.turned)
