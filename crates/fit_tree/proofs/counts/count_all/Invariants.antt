-- The levels so far are counted, and the other counts are 0.
use Rattle.std.proofs.Common.{◌≡◌, ℕ, ◌-◌, ◌^◌, ◌<◌, ◌≤◌, slice_index}
use Rattle.alloc_bits.specs.Count.{IsCount}
use Rattle.fit_tree.proofs.MaximalLemmas.{MaximalIn}
use Rattle.fit_tree.proofs.counts.count_all.Given as goal

abbrev pub invariant-loop-dim : goal.invariant-loop-dim
invariant-loop-dim l = record {
  each : (d : ℕ) → d < l.dim → IsCount (MaximalIn l.n l.rooms d) (2 ^ (l.n - d)) (slice_index l.counts d);
  others : (d : ℕ) → l.dim ≤ d → slice_index l.counts d ≡ 0;
}
