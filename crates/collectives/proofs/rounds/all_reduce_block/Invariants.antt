use Rattle.std.specs.Prelude.{All}
use Rattle.collectives.specs.Inner.Rounds.{TurnsPairsIn}
use Rattle.collectives.proofs.rounds.all_reduce_block.Given as goal

abbrev pub invariant-loop-low : goal.invariant-loop-low
invariant-loop-low g l = let m = g.M.Monoid in record {
  turned : TurnsPairsIn m.unit l.half l.start l.low (λ low. m.join) (λ low. m.join) l.fn.items
      l.items;
  values : All m.is_value l.items;
}
