-- What one round does, over the pairs of ranks that are `half` apart.
use Rattle.std.specs.Prelude.{◌≡◌, ℕ, ◌+◌, ◌/◌, ◌%◌, ◌<◌, ◌≤◌, ◌⊎◌, List, length, slice_get, slice_index_or, bit_xor, ◌==◌, if◌then◌else◌}

-- The item at a rank, and the unit past the last item.
abbrev pub item_at : {M : Type 0} → M → List M → ℕ → M
item_at unit items rank = slice_index_or items rank unit

-- The statement `Says low high` holds for each pair of ranks that are `half` apart. The lower rank
-- is in the first half of a block of `2 * half` ranks, and the higher one in the second half.
abbrev pub EachPair : ℕ → ℕ → (ℕ → ℕ → Type 0) → Type 0
EachPair half count Says =
    (low : ℕ) → low / half % 2 ≡ 0 → low + half < count → Says low (low + half)

-- The two items of a pair are replaced by two new ones, which may depend on the lower rank.
abbrev pub TurnsPair : {M : Type 0}
    → M
    → (ℕ → M → M → M)
    → (ℕ → M → M → M)
    → List M
    → List M
    → ℕ
    → ℕ
    → Type 0
TurnsPair unit left right old new low high =
    (item_at unit new low ≡ left low (item_at unit old low) (item_at unit old high))
    × (item_at unit new high ≡ right low (item_at unit old low) (item_at unit old high))

-- `TurnsPair` holds for every pair.
abbrev pub TurnsPairs : {M : Type 0}
    → M
    → ℕ
    → (ℕ → M → M → M)
    → (ℕ → M → M → M)
    → List M
    → List M
    → Type 0
TurnsPairs unit half left right old new =
    EachPair half (length old) (TurnsPair unit left right old new)

-- `TurnsPair` holds for the pairs whose lower rank is in a range, and the items of the other pairs
-- do not change.
pub record TurnsPairsIn {M : Type 0} (unit : M) (half from bound : ℕ) (left right : ℕ → M → M → M)
    (old new : List M) : Type 0 where
  pub turned : EachPair half (length old) (λ low high. from ≤ low → low < bound
      → TurnsPair unit left right old new low high)
  pub others : EachPair half (length old) (λ low high. (low < from) ⊎ (bound ≤ low)
      → (item_at unit new low ≡ item_at unit old low)
      × (item_at unit new high ≡ item_at unit old high))

-- What the lower rank of a pair holds after a round of a reduction. If the pair agrees with the
-- root below the bit of the round, the rank that agrees in this bit too holds both items joined.
-- The other rank then holds the unit.
abbrev pub reduced_low : {M : Type 0} → M → (M → M → M) → ℕ → ℕ → ℕ → M → M → M
reduced_low unit join root half low a b =
    if low % half == root % half then (if root / half % 2 == 0 then join a b else unit) else a

-- What the higher rank of a pair holds after a round of a reduction, as `reduced_low` says.
abbrev pub reduced_high : {M : Type 0} → M → (M → M → M) → ℕ → ℕ → ℕ → M → M → M
reduced_high unit join root half low a b =
    if low % half == root % half then (if root / half % 2 == 0 then unit else join a b) else b

-- Seen from the root (rank `v` is `bit_xor v root`), the first `half` ranks keep their items, and
-- the next `half` ranks receive the same ones.
abbrev pub Doubles : {M : Type 0} → ℕ → ℕ → List M → List M → Type 0
Doubles root half old new = (v : ℕ) → v < half →
    (slice_get new (bit_xor v root) ≡ slice_get old (bit_xor v root))
    × (slice_get new (bit_xor (v + half) root) ≡ slice_get old (bit_xor v root))
