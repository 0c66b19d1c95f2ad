use Rattle.std.proofs.Common.{◌≡◌, ◌^◌, ◌-◌, ◌++◌, replicate, take}
use Rattle.std.specs.Prelude.{All}
use Rattle.collectives.specs.Operations.{IsU64}
use Rattle.job_types.proofs.rounds.put_items.Given as goal

-- the places so far have their items, and the others the unit
abbrev pub invariant-loop-rank : goal.invariant-loop-rank
invariant-loop-rank g l = record {
  numbers : l.places ≡ take l.rank l.items ++ replicate (2 ^ l.k - l.rank) g.O.Operator.unit;
  values : All IsU64 l.places;
}
