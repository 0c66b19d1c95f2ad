use Rattle.std.proofs.Common.{◌≡◌, ◌*◌, ◌%◌}
use Rattle.std.specs.Prelude.{All}
use Rattle.collectives.specs.Inner.Rounds.{reduced_low, reduced_high, TurnsPairsIn}
use Rattle.collectives.proofs.rounds.reduce_round.Given as goal

-- the pairs of the blocks before this one have turned
abbrev pub invariant-loop-start : goal.invariant-loop-start
invariant-loop-start g l = let m = g.M.Monoid in record {
  begins : l.start % (2 * l.half) ≡ 0;
  turned : TurnsPairsIn m.unit l.half 0 l.start (reduced_low m.unit m.join l.root l.half)
      (reduced_high m.unit m.join l.root l.half) l.fn.items l.items;
  values : All m.is_value l.items;
}
