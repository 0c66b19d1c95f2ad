-- What the `2^k` places of a subcube hold. The item of rank `x` is at place `x`.
use Rattle.std.specs.Prelude.{◌≡◌, ℕ, ◌-◌, ◌^◌, ◌<◌, List, ◌++◌, fold, length, replicate, take, Some, slice_get}

-- The total: all items, joined from the left, beginning with the unit.
abbrev pub total : {M : Type 0} → (M → M → M) → M → List M → M
total join unit items = fold join unit items

-- The total of the first `count` items.
abbrev pub prefix_total : {M : Type 0} → (M → M → M) → M → List M → ℕ → M
prefix_total join unit items count = total join unit (take count items)

-- The place of each rank below `2^k` holds `held rank`.
abbrev pub Holds : {M : Type 0} → List M → ℕ → (ℕ → M) → Type 0
Holds places k held = (rank : ℕ) → rank < 2 ^ k → slice_get places rank ≡ Some (held rank)

-- The items, and the unit at each of the `2^k` places past the last of them.
abbrev pub padded : {M : Type 0} → M → ℕ → List M → List M
padded unit k items = items ++ replicate (2 ^ k - length items) unit
