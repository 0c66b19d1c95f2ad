-- The names of the stations, station by station.
use Rattle.std.specs.Prelude.{◌≡◌, ℕ, ◌≤◌, List, length, slice_index_or, Option, None}

-- The name of a station. There is none past the end of the list.
abbrev pub name_at : List (Option (List ℕ)) → ℕ → Option (List ℕ)
name_at names station = slice_index_or names station None

-- There are at least `used` stations, and none from this number on has a name.
pub record AreNamedBelow (used : ℕ) (names : List (Option (List ℕ))) : Type 0 where
  pub within : used ≤ length names
  pub none : (station : ℕ) → used ≤ station → name_at names station ≡ None
