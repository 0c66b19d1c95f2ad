-- The rooms of the nodes of a machine of dimension `n`, a byte for each node.
use Rattle.std.specs.Prelude.{◌≡◌, ◌≢◌, ℕ, zero, suc, ◌+◌, ◌-◌, ◌*◌, ◌^◌, ◌<◌, ◌≤◌, ◌⊎◌, List, length, slice_index_or}
use Rattle.cube_shape.specs.declared.limits.TheConstants.{MAX_BITMAP_DIM}

-- The room of a node.
abbrev pub room_of : List ℕ → ℕ → ℕ
room_of rooms v = slice_index_or rooms v 0

-- A node whose block has dimension `d`.
abbrev pub IsNode : ℕ → ℕ → ℕ → Type 0
IsNode n d v = (d ≤ n) × (2 ^ (n - d) ≤ v) × (v < 2 * 2 ^ (n - d))

-- The room of a node that was not taken as one block, from the rooms of its two children. They have
-- dimension `d`. It is wholly free if both are, else its largest free block is in one of them.
abbrev pub IsJoin : ℕ → ℕ → ℕ → ℕ → Type 0
IsJoin d left right room =
    ((left ≡ d + 2) × (right ≡ d + 2) × (room ≡ d + 3))
    ⊎ (((left ≢ d + 2) ⊎ (right ≢ d + 2)) × (left ≤ room) × (right ≤ room) × (1 ≤ room)
    × ((room ≡ left) ⊎ (room ≡ right) ⊎ (room ≡ 1)))

-- The room of a node of dimension `d` is right: it is that of its children, or the node was taken
-- as one block. If it was taken, all below it is as if free.
abbrev pub IsRight : List ℕ → ℕ → ℕ → Type 0
IsRight rooms zero v = (room_of rooms v ≡ 0) ⊎ (room_of rooms v ≡ 2)
IsRight rooms (suc d) v =
    IsJoin d (room_of rooms (2 * v)) (room_of rooms (2 * v + 1)) (room_of rooms v)
    ⊎ ((room_of rooms v ≡ 0) × (room_of rooms (2 * v) ≡ d + 2) × (room_of rooms (2 * v + 1) ≡ d + 2))

-- There is a room for each node, and each is right, except perhaps that of node `x`.
pub record IsSoundBut (n x : ℕ) (rooms : List ℕ) : Type 0 where
  pub dim_in_limits : n ≤ MAX_BITMAP_DIM
  pub room_count : 2 ^ (n + 1) ≤ length rooms
  pub right : (d v : ℕ) → IsNode n d v → v ≢ x → IsRight rooms d v

-- There is a room for each node, and each is right: node 0 does not exist.
abbrev pub IsSound : ℕ → List ℕ → Type 0
IsSound n rooms = IsSoundBut n 0 rooms
