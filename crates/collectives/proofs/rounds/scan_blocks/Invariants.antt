use Rattle.std.proofs.Common.{◌*◌}
use Rattle.std.specs.Prelude.{All}
use Rattle.collectives.specs.Inner.Rounds.{item_at, TurnsPairsIn}
use Rattle.collectives.proofs.rounds.scan_blocks.Given as goal

-- the pairs of the blocks before this one have turned
abbrev pub invariant-loop-block : goal.invariant-loop-block
invariant-loop-block g l = let m = g.M.Monoid in record {
  prepended : TurnsPairsIn m.unit l.half 0 (l.block * (2 * l.half)) (λ low a b. a)
      (λ low a b. m.join (item_at m.unit l.fn.totals low) b) l.fn.prefixes l.prefixes;
  joined : TurnsPairsIn m.unit l.half 0 (l.block * (2 * l.half)) (λ low. m.join) (λ low. m.join)
      l.fn.totals l.totals;
  values : All m.is_value l.prefixes;
  total_values : All m.is_value l.totals;
}
