use Rattle.std.specs.Prelude.{All}
use Rattle.collectives.specs.Inner.Rounds.{item_at, TurnsPairsIn}
use Rattle.collectives.proofs.rounds.scan_block.Given as goal

abbrev pub invariant-loop-low : goal.invariant-loop-low
invariant-loop-low g l = let m = g.M.Monoid in record {
  prepended : TurnsPairsIn m.unit l.half l.start l.low (λ low a b. a)
      (λ low a b. m.join (item_at m.unit l.fn.totals low) b) l.fn.prefixes l.prefixes;
  joined : TurnsPairsIn m.unit l.half l.start l.low (λ low. m.join) (λ low. m.join) l.fn.totals
      l.totals;
  values : All m.is_value l.prefixes;
  total_values : All m.is_value l.totals;
}
