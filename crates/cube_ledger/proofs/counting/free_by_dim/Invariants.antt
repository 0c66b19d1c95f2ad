use Rattle.std.proofs.Common.{◌≡◌, ℕ, ◌-◌, ◌<◌, ◌≤◌, length, slice_index}
use Rattle.cube_ledger.specs.Occupancy.{free_regions}
use Rattle.cube_ledger.specs.declared.regions.TheConstants.{FREE_PLACES}
use Rattle.cube_ledger.proofs.counting.free_by_dim.Given as goal

-- the dimensions so far have their counts, and the others 0
abbrev pub invariant-loop-dim : goal.invariant-loop-dim
invariant-loop-dim l = record {
  places : length l.free ≡ FREE_PLACES;
  counted : (k : ℕ) → k < l.dim → slice_index l.free k ≡ free_regions l.words (l.n - k);
  others : (k : ℕ) → l.dim ≤ k → slice_index l.free k ≡ 0;
}
