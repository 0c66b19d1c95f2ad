-- Counting the numbers that have a property.
use Rattle.std.specs.Prelude.{◌≡◌, ℕ, zero, suc, ◌+◌, ◌⊎◌}

-- Exactly `count` of the numbers below the bound have the property `P`. No code has to decide `P`.
abbrev pub IsCount : (ℕ → Type 0) → ℕ → ℕ → Type 0
IsCount P zero count = count ≡ 0
IsCount P (suc m) count =
    (P m × ((before : ℕ) × (count ≡ before + 1) × IsCount P m before))
    ⊎ ((P m → ⊥) × IsCount P m count)
