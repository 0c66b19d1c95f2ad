-- The largest dimension of a free block, among the dimensions below a bound.
use Rattle.std.specs.Prelude.{◌≡◌, ℕ, ◌<◌, List, Option, Some, None, slice_index}

-- The largest dimension below a bound at which the count of free blocks is not 0, or `None` if all
-- are 0.
abbrev pub IsLargestBelow : ℕ → List ℕ → Option ℕ → Type 0
IsLargestBelow bound free (Some k) =
    (k < bound) × (0 < slice_index free k) × ((j : ℕ) → k < j → j < bound → slice_index free j ≡ 0)
IsLargestBelow bound free None = (j : ℕ) → j < bound → slice_index free j ≡ 0
