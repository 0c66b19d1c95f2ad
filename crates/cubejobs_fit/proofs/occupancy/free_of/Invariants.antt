-- The dimensions so far are counted, and the places of the others are 0.
use Rattle.std.proofs.Common.{◌≡◌, ℕ, ◌-◌, ◌^◌, ◌<◌, ◌≤◌, List, length, slice_index}
use Rattle.cube_shape.specs.Region.{block}
use Rattle.cube_shape.specs.Machine.{IsFree}
use Rattle.alloc_bits.specs.Count.{IsCount}
use Rattle.fit_tree.specs.declared.head.TheConstants.{COUNT_PLACES}
use Rattle.fit_tree.specs.Image.{IsImage}
use Rattle.cubejobs_fit.specs.Answers.{held_of}
use Rattle.cubejobs_fit.proofs.occupancy.free_of.Given as goal

abbrev pub invariant-loop-k : goal.invariant-loop-k
invariant-loop-k l = record {
  places : length l.free ≡ COUNT_PLACES;
  each : (rooms : List ℕ) → IsImage l.n l.head rooms → (j : ℕ) → j < l.k
      → IsCount (λ m. IsFree (held_of l.n rooms) (block j m)) (2 ^ (l.n - j)) (slice_index l.free j);
  others : (j : ℕ) → l.k ≤ j → slice_index l.free j ≡ 0;
}
