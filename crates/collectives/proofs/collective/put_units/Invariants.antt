use Rattle.std.proofs.Common.{ℕ, ◌≡◌, ◌<◌}
use Rattle.std.specs.Prelude.{All}
use Rattle.collectives.specs.Inner.Rounds.{item_at}
use Rattle.collectives.proofs.collective.put_units.Given as goal

-- the places before this one have the unit
abbrev pub invariant-loop-rank : goal.invariant-loop-rank
invariant-loop-rank g l = let m = g.M.Monoid in record {
  units : (rank : ℕ) → rank < l.rank → item_at m.unit l.items rank ≡ m.unit;
  values : All m.is_value l.items;
}
