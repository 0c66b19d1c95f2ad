-- The bits of blocks, and how a call changes them. A set bit means that its processor is held.
use Rattle.std.specs.Prelude.{◌≡◌, ℕ, ◌-◌, ◌^◌, ◌<◌, ◌≤◌, Bool, false, List, length}
use Rattle.cube_shape.specs.declared.region.Region.{Region}
use Rattle.cube_shape.specs.Region.{Covers, block}
use Rattle.alloc_bits.specs.declared.limits.TheConstants.{MAX_BITS_DIM}
use Rattle.alloc_bits.specs.Represents.{bit_of}

-- A machine of dimension `n` is within the limits, and there is a bit for each of its processors.
abbrev pub HasBits : ℕ → List Bool → Type 0
HasBits n bits = (n ≤ MAX_BITS_DIM) × (2 ^ n ≤ length bits)

-- No bit of the block is set. Source: Chen and Shin 1987.
abbrev pub IsClear : List Bool → Region → Type 0
IsClear bits r = (p : ℕ) → Covers r p → bit_of bits p ≡ false

-- The number `m` is the least such that block `(m, k)` is clear. Source: Chen and Shin 1987.
pub record IsFirstClear (n k : ℕ) (bits : List Bool) (m : ℕ) : Type 0 where
  pub in_cube : m < 2 ^ (n - k)
  pub clear : IsClear bits (block k m)
  pub least : (i : ℕ) → i < m → IsClear bits (block k i) → ⊥

-- No block `(m, k)` is clear. Source: Chen and Shin 1987.
abbrev pub HasNoClear : ℕ → ℕ → List Bool → Type 0
HasNoClear n k bits = (m : ℕ) → m < 2 ^ (n - k) → IsClear bits (block k m) → ⊥

-- The bits of the block are now all equal to `taken`, and no other bit has changed.
pub record Writes (r : Region) (taken : Bool) (old new : List Bool) : Type 0 where
  pub len : length new ≡ length old
  pub inside : (p : ℕ) → Covers r p → bit_of new p ≡ taken
  pub outside : (p : ℕ) → (Covers r p → ⊥) → bit_of new p ≡ bit_of old p
