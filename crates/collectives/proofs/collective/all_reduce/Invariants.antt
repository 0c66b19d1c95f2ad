use Rattle.std.proofs.Common.{◌^◌}
use Rattle.std.specs.Prelude.{All}
use Rattle.collectives.proofs.BlockLemmas.{HoldsTotals}
use Rattle.collectives.proofs.collective.all_reduce.Given as goal

-- each rank holds the total of the 2 ^ round ranks that agree with it above
abbrev pub invariant-loop-round : goal.invariant-loop-round
invariant-loop-round g l = let m = g.M.Monoid in record {
  totals : HoldsTotals m.unit m.join (2 ^ l.round) l.fn.items l.items;
  values : All m.is_value l.items;
}
