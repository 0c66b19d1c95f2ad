-- The entries of a gate and its close in one list, newest first.
use Rattle.std.specs.Prelude.{◌≡◌, ℕ, ◌+◌, ◌<◌, Option, Some, None, List, [], ◌∷◌, ◌++◌, cond, ◌==◌}
use Rattle.ghost_history.specs.History.{Legal}

-- An entry or the close of a gate.
pub data Entering : Type 0 where
  -- The lane made the entry with this number.
  makes : ℕ → ℕ → Entering
  -- The gate was closed at this count of entries.
  shuts : ℕ → Entering

-- The number of entries in a list.
abbrev pub made : List Entering → ℕ
made [] = 0
made (makes lane number ∷ history) = made history + 1
made (shuts number ∷ history) = made history

-- The count of entries at which the gate was closed, or `None` if the list does not close it.
abbrev pub shut_at : List Entering → Option ℕ
shut_at [] = None
shut_at (makes lane number ∷ history) = shut_at history
shut_at (shuts number ∷ history) = Some number

-- The numbers of a lane's entries, in order.
abbrev pub numbers_by : List Entering → ℕ → List ℕ
numbers_by [] k = []
numbers_by (makes lane number ∷ history) k =
    cond (lane == k) (numbers_by history k ++ number ∷ []) (numbers_by history k)
numbers_by (shuts number ∷ history) k = numbers_by history k

-- Which entry, or the close, may follow a list. Entries have the numbers 0, 1, 2 and so on. None
-- comes after the close, and the close is at their count.
abbrev pub MayEnter : ℕ → List Entering → Entering → Type 0
MayEnter lanes history (makes lane number) =
    (lane < lanes) × (number ≡ made history) × (shut_at history ≡ None)
MayEnter lanes history (shuts number) = (number ≡ made history) × (shut_at history ≡ None)

-- Each entry in the list, and the close, was allowed by the part of the list before it.
abbrev pub AreEntries : ℕ → List Entering → Type 0
AreEntries lanes history = Legal (MayEnter lanes) history
