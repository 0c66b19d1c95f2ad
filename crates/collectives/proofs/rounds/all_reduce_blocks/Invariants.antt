use Rattle.std.proofs.Common.{◌*◌}
use Rattle.std.specs.Prelude.{All}
use Rattle.collectives.specs.Inner.Rounds.{TurnsPairsIn}
use Rattle.collectives.proofs.rounds.all_reduce_blocks.Given as goal

-- the pairs of the blocks before this one have turned
abbrev pub invariant-loop-block : goal.invariant-loop-block
invariant-loop-block g l = let m = g.M.Monoid in record {
  turned : TurnsPairsIn m.unit l.half 0 (l.block * (2 * l.half)) (λ low. m.join) (λ low. m.join)
      l.fn.items l.items;
  values : All m.is_value l.items;
}
