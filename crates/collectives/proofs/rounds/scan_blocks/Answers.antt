use Rattle.std.proofs.Math.Nat.{mul-mod_left}
use Rattle.std.proofs.Common.{arith, ap, inr, subst, ◌≡◌, ◌+◌, ◌*◌}
use Rattle.collectives.specs.Inner.Rounds.{item_at, TurnsPairsIn}
use Rattle.collectives.proofs.PairLemmas.{Turned-alike, Turned-join}
use Rattle.collectives.proofs.rounds.scan_blocks.Goals as goal

pub scan_block-requires-clause-start : goal.scan_block-requires-clause-start
scan_block-requires-clause-start g c = mul-mod_left c.loop-block.block (2 * c.args.half)

pub loop-block-preserved : goal.loop-block-preserved
loop-block-preserved g c =
    let m = g.M.Monoid in
    let half = c.args.half in
    let start = c.loop-block.block * (2 * half) in
    let prefixes = c.loop-block.prefixes in
    let totals = c.loop-block.totals in
    let first_totals = c.args.totals.now in
    let next : start + 2 * half ≡ (c.loop-block.block + 1) * (2 * half) = grind arith in
    let prepended = Turned-join m.unit half 0 start (start + 2 * half) _ _ c.args.prefixes.now prefixes c.scan_block.new.prefixes (omega arith) (omega arith) c.loop-block.auto.prefixes c.loop-block.invariant.prepended
    (Turned-alike m.unit half start (start + 2 * half) (λ low a b. a) (λ low a b. m.join (item_at m.unit totals low) b) (λ low a b. m.join (item_at m.unit first_totals low) b) prefixes c.scan_block.new.prefixes
    (λ x above below x_is within a b. ap (λ total. m.join total b) (c.loop-block.invariant.joined.others x x_is (omega arith) (inr above)).0)
    c.scan_block.ensures.prepended) in
    let joined = Turned-join m.unit half 0 start (start + 2 * half) _ _ first_totals totals c.scan_block.new.totals (omega arith) (omega arith) c.loop-block.auto.totals c.loop-block.invariant.joined c.scan_block.ensures.joined in
    record {
      prepended = subst (λ bound. TurnsPairsIn m.unit half 0 bound (λ low a b. a) (λ low a b. m.join (item_at m.unit first_totals low) b) c.args.prefixes.now c.scan_block.new.prefixes) next prepended;
      joined = subst (λ bound. TurnsPairsIn m.unit half 0 bound (λ low. m.join) (λ low. m.join) first_totals c.scan_block.new.totals) next joined;
      values = c.scan_block.ensures.values;
      total_values = c.scan_block.ensures.total_values;
    }
