-- What an occupancy counts.
use Rattle.std.specs.Prelude.{◌≡◌, ℕ, ◌-◌, ◌^◌, ◌<◌, ◌≤◌, List, Option, Some, None, slice_index}
use Rattle.cube_shape.specs.Region.{block}
use Rattle.alloc_bits.specs.Count.{IsCount}
use Rattle.bitmap_occupancy.specs.Occupancy.{IsFreeAt, IsHeldAt}
use Rattle.bitmap_occupancy.specs.declared.summary.Occupancy.{Occupancy}

-- The largest dimension at which a count is not 0, or `None` if all are 0.
abbrev pub IsLargestIn : List ℕ → Option ℕ → Type 0
IsLargestIn free (Some k) = (0 < slice_index free k) × ((j : ℕ) → k < j → slice_index free j ≡ 0)
IsLargestIn free None = (j : ℕ) → slice_index free j ≡ 0

-- The free blocks of each dimension and the held processors of a machine of dimension `n` with
-- these words.
pub record IsOccupancy (n : ℕ) (words : List ℕ) (occupancy : Occupancy) : Type 0 where
  pub free : (k : ℕ) → k ≤ n
      → IsCount (λ m. IsFreeAt n words (block k m)) (2 ^ (n - k)) (slice_index occupancy.free k)
  pub none_above : (k : ℕ) → n < k → slice_index occupancy.free k ≡ 0
  pub held : IsCount (IsHeldAt n words) (2 ^ n) occupancy.held
  pub largest : IsLargestIn occupancy.free occupancy.largest
