use Rattle.std.proofs.Common.{◌≡◌, ◌+◌, ◌^◌, ◌≤◌, cond}
use Rattle.ghost_history.specs.Sums.{below}
use Rattle.cube_ledger.specs.Occupancy.{is_free_node}
use Rattle.cube_ledger.proofs.counting.free_regions.Given as goal

-- the regions so far are counted
abbrev pub invariant-loop-m : goal.invariant-loop-m
invariant-loop-m l = record {
  count : l.count ≡ below (λ m. cond (is_free_node l.words (2 ^ l.levels + m) l.levels) 1 0) l.m;
  few : l.count ≤ l.m;
}
