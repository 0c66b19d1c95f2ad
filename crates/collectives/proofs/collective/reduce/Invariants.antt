use Rattle.std.proofs.Common.{◌^◌}
use Rattle.std.specs.Prelude.{All}
use Rattle.collectives.proofs.BlockLemmas.{HoldsReduced}
use Rattle.collectives.proofs.collective.reduce.Given as goal

-- a rank that agrees with the root in its low bits holds the total of the 2 ^ round ranks that
-- agree with it above. Every other rank holds the unit
abbrev pub invariant-loop-round : goal.invariant-loop-round
invariant-loop-round g l = let m = g.M.Monoid in record {
  reduced : HoldsReduced m.unit m.join l.root (2 ^ l.round) l.fn.items l.items;
  values : All m.is_value l.items;
}
