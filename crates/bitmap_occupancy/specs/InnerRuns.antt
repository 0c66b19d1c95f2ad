-- A run of processors of which none is held, and the free blocks before its end.
use Rattle.std.specs.Prelude.{ℕ, ◌-◌, ◌/◌, ◌^◌, ◌<◌, ◌≤◌, List, slice_index}
use Rattle.cube_shape.specs.Region.{block}
use Rattle.alloc_bits.specs.Count.{IsCount}
use Rattle.bitmap_occupancy.specs.Occupancy.{IsFreeAt, IsHeldAt}

-- No processor from `from` on is held, below `past`, and the one before `from` is.
pub record IsRun (n : ℕ) (words : List ℕ) (past from : ℕ) : Type 0 where
  pub clear : (q : ℕ) → from ≤ q → q < past → IsHeldAt n words q → ⊥
  pub before : 0 < from → IsHeldAt n words (from - 1)

-- Of each dimension the free blocks are counted that end at `past` at most.
abbrev pub AreCounted : ℕ → List ℕ → ℕ → List ℕ → Type 0
AreCounted n words past free =
    (k : ℕ) → k ≤ n
    → IsCount (λ m. IsFreeAt n words (block k m)) (past / 2 ^ k) (slice_index free k)
