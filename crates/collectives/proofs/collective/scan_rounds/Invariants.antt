use Rattle.std.proofs.Common.{◌^◌}
use Rattle.std.specs.Prelude.{All}
use Rattle.collectives.proofs.BlockLemmas.{HoldsTotals, HoldsPrefixes}
use Rattle.collectives.proofs.collective.scan_rounds.Given as goal

-- of the 2 ^ round ranks that agree with it above, each rank holds the items before its own,
-- joined. After these it holds the prefix that it began with. Its total is that of all these ranks
abbrev pub invariant-loop-round : goal.invariant-loop-round
invariant-loop-round g l = let m = g.M.Monoid in record {
  prefixes : HoldsPrefixes m.unit m.join (2 ^ l.round) l.fn.totals l.fn.prefixes l.prefixes;
  totals : HoldsTotals m.unit m.join (2 ^ l.round) l.fn.totals l.totals;
  values : All m.is_value l.prefixes;
  total_values : All m.is_value l.totals;
}
