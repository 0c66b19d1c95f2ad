-- The steps of a repair.
use Rattle.std.specs.Prelude.{◌≡◌, ◌≢◌, ℕ, zero, suc, ◌+◌, ◌*◌, ◌⊎◌, List}
use Rattle.fit_tree.specs.Rooms.{room_of, IsJoin}
use Rattle.fit_tree.specs.InnerNodes.{HasNoTakenAbove}

-- The new room of a node of dimension `d`. A taken node with none taken above it has 0. A node
-- below a taken one is as if free. Any other has 1.
abbrev pub IsSorted : List ℕ → ℕ → ℕ → ℕ → Type 0
IsSorted old d v room =
    ((room ≡ 0) × (room_of old v ≡ 0) × HasNoTakenAbove old v)
    ⊎ ((room ≡ 1) × (room_of old v ≢ 0) × HasNoTakenAbove old v)
    ⊎ ((room ≡ d + 2) × (HasNoTakenAbove old v → ⊥))

-- The room of a node of dimension `d` is that of its children.
abbrev pub IsJoined : List ℕ → ℕ → ℕ → Type 0
IsJoined rooms zero v = room_of rooms v ≡ 2
IsJoined rooms (suc d) v =
    IsJoin d (room_of rooms (2 * v)) (room_of rooms (2 * v + 1)) (room_of rooms v)

-- A room that was 1 is that of its children, and another one stays.
abbrev pub IsFilled : List ℕ → List ℕ → ℕ → ℕ → Type 0
IsFilled old new d v =
    ((room_of old v ≡ 1) × IsJoined new d v)
    ⊎ ((room_of old v ≢ 1) × (room_of new v ≡ room_of old v))
