-- How allocation bits represent what the stations of a machine hold.
use Rattle.std.specs.Prelude.{◌≡◌, ℕ, ◌^◌, ◌≤◌, Bool, true, false, List, length, slice_index_or, Some}
use Rattle.alloc_bits.specs.declared.limits.TheConstants.{MAX_BITS_DIM}
use Rattle.cube_shape.specs.declared.region.Region.{Region}
use Rattle.cube_shape.specs.Region.{Covers}
use Rattle.cube_shape.specs.Machine.{Holdings, IsLawful}

-- Whether the bit of a processor is set. Past the end of the list there is none.
abbrev pub bit_of : List Bool → ℕ → Bool
bit_of bits p = slice_index_or bits p false

-- The bits represent the holdings: there is a bit for each processor, and exactly those of the held
-- blocks are set. Source: the allocation bits of Chen and Shin 1987. The station of each block is
-- this project's addition.
pub record Represents (n : ℕ) (held : Holdings) (bits : List Bool) : Type 0 where
  pub dim_in_limits : n ≤ MAX_BITS_DIM
  pub bit_count : 2 ^ n ≤ length bits
  pub lawful : IsLawful n held
  pub set : (s p : ℕ) (a : Region) → held s ≡ Some a → Covers a p → bit_of bits p ≡ true
  pub clear : (p : ℕ) → ((s : ℕ) (a : Region) → held s ≡ Some a → Covers a p → ⊥)
      → bit_of bits p ≡ false
