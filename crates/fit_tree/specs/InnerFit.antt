-- How the rooms represent a `Fit`.
use Rattle.std.specs.Prelude.{ℕ, zero, suc, ◌+◌, ◌-◌, ◌/◌, ◌%◌, ◌^◌, ◌==◌, List, [], ◌∷◌, slice_index_or, Option, Some, None, if◌then◌else◌, refl}
use Rattle.std.specs.Coded.{Coded, code_by, coded×, coded_ℕ}
use Rattle.std.specs.Ordering.{nat_cmp}
use Rattle.std.specs.FinMap.{FinMap, code, from_entries}
use Rattle.cube_shape.specs.declared.region.Region.{Region}
use Rattle.cube_shape.specs.Machine.{Holdings}
use Rattle.fit_tree.specs.Rooms.{room_of}
use Rattle.fit_tree.specs.Fit.{Fit}

-- The largest block of at most dimension `d` that begins at a base and was taken as one block.
abbrev pub block_at : ℕ → List ℕ → ℕ → ℕ → Option Region
block_at n rooms base zero =
    if room_of rooms (2 ^ n + base) == 0 then Some (record { base = base; dim = 0 }) else None
block_at n rooms base (suc d) =
    if base % 2 ^ suc d == 0
    then (if room_of rooms (2 ^ (n - suc d) + base / 2 ^ suc d) == 0
    then Some (record { base = base; dim = suc d })
    else block_at n rooms base d)
    else block_at n rooms base d

-- The blocks that begin at this number of bases from `base` on.
abbrev pub slots_from : ℕ → List ℕ → ℕ → ℕ → List (Option Region)
slots_from n rooms base zero = []
slots_from n rooms base (suc count) = block_at n rooms base n ∷ slots_from n rooms (suc base) count

-- What is held: the station of a block is its base.
abbrev pub held_by : ℕ → List ℕ → Holdings
held_by n rooms base = slice_index_or (slots_from n rooms 0 (2 ^ n)) base None

-- The bases that begin a block, each with its block. The first slot is that of the given base.
abbrev pub pairs_from : ℕ → List (Option Region) → List (ℕ × Region)
pairs_from base [] = []
pairs_from base (None ∷ slots) = pairs_from (suc base) slots
pairs_from base (Some region ∷ slots) = (base, region) ∷ pairs_from (suc base) slots

-- The finite map of these pairs.
unfoldable pub pairs_of : List (Option Region) → FinMap nat_cmp Region
pairs_of slots = from_entries (pairs_from 0 slots)

-- What rooms represent.
unfoldable pub blocks_of : ℕ → List ℕ → FinMap nat_cmp Region
blocks_of n rooms = pairs_of (slots_from n rooms 0 (2 ^ n))

-- The storage of a block as its two numbers.
abbrev pub region_code : Coded Region
region_code =
    code_by (ℕ × ℕ) (coded× coded_ℕ coded_ℕ) (λ r. (r.base, r.dim))
    (λ p. record { base = p.0; dim = p.1 }) (λ _. refl)

-- The storage of a fit as its two parts.
abbrev pub fit_code : Coded Fit
fit_code =
    code_by (ℕ × FinMap nat_cmp Region) (coded× coded_ℕ (code coded_ℕ region_code))
    (λ a. (a.dim, a.blocks)) (λ p. record { dim = p.0; blocks = p.1 }) (λ _. refl)
