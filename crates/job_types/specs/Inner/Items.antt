-- Where the items of a job lie.
use Rattle.std.specs.Prelude.{◌≡◌, ℕ, ◌≤◌, Bool, true, false, List, length, take, drop, if◌then◌else◌, ⊤}
use Rattle.job_types.specs.declared.items.Items.{Items}
use Rattle.job_types.specs.declared.items.Items.TheVariants.{One, Two, Three, Four, Many, Scan}

-- The items, in order.
abbrev pub numbers_in : Items → List ℕ
numbers_in (One lane items) = items
numbers_in (Two lane items) = items
numbers_in (Three lane items) = items
numbers_in (Four lane items) = items
numbers_in (Many lane items) = items.items
numbers_in (Scan lane count numbers) = take count numbers.items

-- The numbers of the result: those after the items of a scan, and else this one.
abbrev pub result_in : Items → List ℕ → List ℕ
result_in (One lane items) number = number
result_in (Two lane items) number = number
result_in (Three lane items) number = number
result_in (Four lane items) number = number
result_in (Many lane items) number = number
result_in (Scan lane count numbers) number = drop count numbers.items

-- The lane of the job's id.
abbrev pub id_lane_in : Items → ℕ
id_lane_in (One lane items) = lane
id_lane_in (Two lane items) = lane
id_lane_in (Three lane items) = lane
id_lane_in (Four lane items) = lane
id_lane_in (Many lane items) = lane
id_lane_in (Scan lane count numbers) = lane

-- A list that has numbers after the items has all items.
abbrev pub IsWhole : Items → Type 0
IsWhole (One lane items) = ⊤
IsWhole (Two lane items) = ⊤
IsWhole (Three lane items) = ⊤
IsWhole (Four lane items) = ⊤
IsWhole (Many lane items) = ⊤
IsWhole (Scan lane count numbers) = count ≤ length numbers.items

-- The items of a job lie here, with room for a number for each if it is a scan, and else for one
-- number.
pub record AreHeld (scan : Bool) (items : List ℕ) (held : Items) : Type 0 where
  pub numbers : numbers_in held ≡ items
  pub whole : IsWhole held
  pub room : (number : List ℕ) → length number ≡ 1
      → length (result_in held number) ≡ (if scan then length items else 1)
