-- Places that are empty or full.
use Rattle.std.specs.Prelude.{◌≡◌, ℕ, ◌<◌, Option, None, IsSome, List, slice_index_or}

-- Each place below this one is full.
abbrev pub AreFullBelow : {T : Type 0} → ℕ → List (Option T) → Type 0
AreFullBelow n places = (i : ℕ) → i < n → IsSome (slice_index_or places i None)

-- Each place below this one is empty.
abbrev pub AreEmptyBelow : {T : Type 0} → ℕ → List (Option T) → Type 0
AreEmptyBelow n places = (i : ℕ) → i < n → slice_index_or places i None ≡ None
