-- Contents that come back to their places.
use Rattle.std.specs.Prelude.{◌≡◌, ◌⊎◌, ℕ, ◌<◌, Option, Some, None, IsSome, List, length, slice_index_or, slice_set}
use Rattle.lanes.specs.Lanes.{LanesId}
use Rattle.cubejobs_lanes.specs.declared.name.PlaceName.{PlaceName}

-- Each of the first places has its name, by these lanes and by its number.
abbrev pub AreNamed : LanesId → ℕ → List PlaceName → Type 0
AreNamed id n names = (i : ℕ) (d : PlaceName) → i < n
    → ((slice_index_or names i d).lanes.value ≡ id) × ((slice_index_or names i d).number ≡ i)

-- Each full place is as it was.
abbrev pub StayFull : {T : Type 0} → List (Option T) → List (Option T) → Type 0
StayFull old new = (i : ℕ) → IsSome (slice_index_or old i None)
    → slice_index_or new i None ≡ slice_index_or old i None

-- The places are the same, or this one was empty and has a content that fits its name.
abbrev pub ComesBackAt : {N T : Type 0} → (N → T → Type 0) → List N → ℕ → List (Option T)
    → List (Option T) → Type 0
ComesBackAt {N} {T} fits names place old new = (new ≡ old)
    ⊎ ((content : T) × (slice_index_or old place None ≡ None)
    × ((d : N) → fits (slice_index_or names place d) content)
    × (new ≡ slice_set old place (Some content)))

-- Each full place is as it was. Some that were empty have a content that fits their name.
pub record HaveComeBack {N T : Type 0} (fits : N → T → Type 0) (names : List N)
    (old new : List (Option T)) : Type 0 where
  pub count : length new ≡ length old
  pub full : StayFull old new
  pub right : (i : ℕ) (content : T) → slice_index_or new i None ≡ Some content
      → (slice_index_or old i None ≡ Some content)
      ⊎ ((i < length names) × ((d : N) → fits (slice_index_or names i d) content))
