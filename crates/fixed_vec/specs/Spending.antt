-- How many words a store has left. A store of the heap has none to count.
use Rattle.std.specs.Prelude.{◌≡◌, ℕ, ◌-◌, ◌≤◌, Option, Some}

-- Words are lent, and at least this many are left.
abbrev pub HasWords : ℕ → Option ℕ → Type 0
HasWords words left = (n : ℕ) × (left ≡ Some n) × (words ≤ n)

-- This many words fewer are left, if there were as many.
abbrev pub Spends : ℕ → Option ℕ → Option ℕ → Type 0
Spends words old new = (n : ℕ) → old ≡ Some n → words ≤ n → new ≡ Some (n - words)
