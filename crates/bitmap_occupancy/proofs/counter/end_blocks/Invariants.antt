-- The dimensions so far have their counts, and the others those that they had.
use Rattle.std.proofs.Common.{◌≡◌, ℕ, ◌+◌, ◌/◌, ◌^◌, ◌<◌, ◌≤◌, List, length, slice_index}
use Rattle.cube_shape.specs.Region.{block}
use Rattle.alloc_bits.specs.Count.{IsCount}
use Rattle.bitmap_occupancy.specs.InnerRuns.{AreCounted, IsRun}
use Rattle.bitmap_occupancy.specs.Occupancy.{IsFreeAt}
use Rattle.bitmap_occupancy.specs.declared.summary.TheConstants.{FREE_PLACES}
use Rattle.bitmap_occupancy.proofs.counter.end_blocks.Given as goal

abbrev pub invariant-loop-k : goal.invariant-loop-k
invariant-loop-k l = record {
  places : length l.free ≡ FREE_PLACES;
  counted : (words : List ℕ) → IsRun l.n words (l.processor + 1) l.from
      → AreCounted l.n words l.processor l.initial.free
      → (k : ℕ) → k < l.k
      → IsCount (λ m. IsFreeAt l.n words (block k m)) ((l.processor + 1) / 2 ^ k) (slice_index l.free k);
  others : (k : ℕ) → l.k ≤ k → slice_index l.free k ≡ slice_index l.initial.free k;
  few : (k : ℕ) → slice_index l.free k ≤ l.processor + 1;
}
