use Rattle.std.proofs.Common.{◌≡◌, ◌*◌, ◌-◌, ◌^◌, ◌≤◌}
use Rattle.ghost_history.specs.Sums.{below}
use Rattle.cube_ledger.specs.Occupancy.{held_regions}
use Rattle.cube_ledger.proofs.counting.held_processors.Given as goal

-- the processors of the dimensions so far are summed
abbrev pub invariant-loop-dim : goal.invariant-loop-dim
invariant-loop-dim l = record {
  held : l.held ≡ below (λ k. held_regions l.words (l.n - k) * 2 ^ k) l.dim;
  few : l.held ≤ l.dim * 2 ^ l.n;
}
