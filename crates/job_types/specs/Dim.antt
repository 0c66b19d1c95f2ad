-- The least dimension that holds a number of items.
use Rattle.std.specs.Prelude.{ℕ, zero, suc, ◌+◌, ◌^◌, ◌≤◌, nat_lt, if◌then◌else◌}

-- The number `k` is the least dimension that holds `p` items. A block of dimension `k` has a
-- processor for each, and no lower dimension does.
pub record IsLeastDim (p k : ℕ) : Type 0 where
  pub enough : p ≤ 2 ^ k
  pub least : (j : ℕ) → p ≤ 2 ^ j → k ≤ j

-- The first number from `k` on whose power of two is at least `p`, found in at most `steps` steps.
unfoldable pub search_up : ℕ → ℕ → ℕ → ℕ
search_up zero k p = k
search_up (suc steps) k p = if nat_lt (2 ^ k) p then search_up steps (k + 1) p else k

-- The least dimension that holds `p` items, as a number for sums and texts. It is proved that
-- `IsLeastDim p (dim_of p)` holds for each `p`.
unfoldable pub dim_of : ℕ → ℕ
dim_of p = search_up p 0 p
