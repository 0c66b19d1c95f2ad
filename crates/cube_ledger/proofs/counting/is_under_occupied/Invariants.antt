use Rattle.std.proofs.Common.{◌≡◌, ◌-◌, ◌<◌, length}
use Rattle.cube_ledger.specs.Occupancy.{has_occupied_above}
use Rattle.cube_ledger.proofs.counting.is_under_occupied.Given as goal

-- the nodes that are left decide
abbrev pub invariant-loop : goal.invariant-loop
invariant-loop l = record {
  left : has_occupied_above l.words l.above (l.levels - l.counter)
      ≡ has_occupied_above l.words l.node l.levels;
  in_words : l.above < length l.words;
}
