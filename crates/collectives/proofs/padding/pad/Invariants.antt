use Rattle.std.proofs.Common.{◌≡◌, ◌++◌, ◌-◌, ◌^◌, ◌≤◌, length}
use Rattle.std.specs.Prelude.{All, replicate, vec_capacity}
use Rattle.collectives.proofs.padding.pad.Given as goal

-- the items are followed by a unit for each place so far, and there is memory for all places
abbrev pub invariant-loop : goal.invariant-loop
invariant-loop g l = record {
  units : l.items.items ≡ l.initial.items.items
      ++ replicate (l.counter - length l.initial.items.items) g.M.Monoid.unit;
  values : All g.M.Monoid.is_value l.items.items;
  room : 2 ^ l.k ≤ vec_capacity l.items;
}
