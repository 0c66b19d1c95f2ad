-- How the bits and the stations' slots represent an allocation. No public contract cites these
-- definitions.
use Rattle.std.specs.Prelude.{◌≡◌, ℕ, suc, Bool, List, [], ◌∷◌, length, slice_index_or, Option, Some, None, refl}
use Rattle.std.specs.Coded.{Coded, code_by, coded×, coded_ℕ}
use Rattle.std.specs.Ordering.{nat_cmp}
use Rattle.std.specs.FinMap.{FinMap, code, from_entries}
use Rattle.cube_shape.specs.declared.limits.TheConstants.{MAX_STATIONS}
use Rattle.cube_shape.specs.declared.region.Region.{Region}
use Rattle.cube_shape.specs.Machine.{Holdings}
use Rattle.alloc_bits.specs.Represents.{Represents}
use Rattle.alloc_bits.specs.Allocation.{Allocation}

-- What a station holds, by its slot. A station past the slots holds nothing.
abbrev pub slot_of : List (Option Region) → Holdings
slot_of slots station = slice_index_or slots station None

-- The stations that hold a block, each with its block. The first slot is that of the given station.
abbrev pub pairs_from : ℕ → List (Option Region) → List (ℕ × Region)
pairs_from station [] = []
pairs_from station (None ∷ slots) = pairs_from (suc station) slots
pairs_from station (Some region ∷ slots) = (station, region) ∷ pairs_from (suc station) slots

-- The finite map of these pairs.
unfoldable pub pairs_of : List (Option Region) → FinMap nat_cmp Region
pairs_of slots = from_entries (pairs_from 0 slots)

-- There is a slot for each station, and the bits represent what the slots hold.
pub record IsConsistent (n : ℕ) (slots : List (Option Region)) (bits : List Bool) : Type 0 where
  pub slot_count : length slots ≡ MAX_STATIONS
  pub represents : Represents n (slot_of slots) bits

-- The storage of a block as its two numbers.
abbrev pub region_code : Coded Region
region_code =
    code_by (ℕ × ℕ) (coded× coded_ℕ coded_ℕ) (λ r. (r.base, r.dim))
    (λ p. record { base = p.0; dim = p.1 }) (λ _. refl)

-- The storage of an allocation as its two parts.
abbrev pub allocation_code : Coded Allocation
allocation_code =
    code_by (ℕ × FinMap nat_cmp Region) (coded× coded_ℕ (code coded_ℕ region_code))
    (λ a. (a.dim, a.pairs)) (λ p. record { dim = p.0; pairs = p.1 }) (λ _. refl)
