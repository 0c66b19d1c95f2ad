-- A machine whose requests have falling widths: each take is at most as wide as the one before it.
use Rattle.std.specs.Prelude.{◌≡◌, ℕ, ◌^◌, ◌<◌, ◌≤◌, Some, None}
use Rattle.cube_shape.specs.declared.region.Region.{Region}
use Rattle.cube_shape.specs.Region.{Covers}
use Rattle.cube_shape.specs.Machine.{Gives, Holdings, TakesBack}

-- Each held block has a dimension of at least `k`.
abbrev pub HoldsNoNarrower : ℕ → Holdings → Type 0
HoldsNoNarrower k held = (s : ℕ) (a : Region) → held s ≡ Some a → k ≤ a.dim

-- No held block has the processor.
abbrev pub IsFreeProcessor : Holdings → ℕ → Type 0
IsFreeProcessor held p = (s : ℕ) (a : Region) → held s ≡ Some a → Covers a p → ⊥

-- The machine of dimension `n` is full: none of its processors is free.
abbrev pub IsFull : ℕ → Holdings → Type 0
IsFull n held = (p : ℕ) → p < 2 ^ n → IsFreeProcessor held p → ⊥

-- A held block has the processor.
abbrev pub IsHeld : Holdings → ℕ → Type 0
IsHeld held p = (s : ℕ) × (a : Region) × (held s ≡ Some a) × Covers a p

-- Only stations with a number below `count` hold blocks.
abbrev pub HasStations : ℕ → Holdings → Type 0
HasStations count held = (s : ℕ) → count ≤ s → held s ≡ None

-- What a machine of dimension `n` may hold after requests of falling widths, of which `k` is the
-- last. It began with nothing held. A request gets a block, or nothing, and any block is released
-- at any time.
pub data ServesFalling (n : ℕ) : ℕ → Holdings → Type 0 where
  begins : (k : ℕ) (held : Holdings) → ((s : ℕ) → held s ≡ None) → ServesFalling n k held
  takes : (k j s : ℕ) (old new : Holdings) (r : Region) → ServesFalling n k old → j ≤ k
      → Gives n s j old new r → ServesFalling n j new
  refuses : (k j : ℕ) (held : Holdings) → ServesFalling n k held → j ≤ k → ServesFalling n j held
  releases : (k s : ℕ) (old new : Holdings) (r : Region) → ServesFalling n k old
      → TakesBack s old new r → ServesFalling n k new
