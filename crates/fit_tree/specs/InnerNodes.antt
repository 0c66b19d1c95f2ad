-- Nodes that are free, in terms of the nodes that were taken as one block.
use Rattle.std.specs.Prelude.{◌≡◌, ◌≢◌, ℕ, ◌+◌, ◌/◌, ◌<◌, ◌≤◌, ◌⊎◌, List}
use Rattle.cube_shape.specs.Node.{IsInCube, OnPath}
use Rattle.fit_tree.specs.Rooms.{room_of, IsNode, IsSound, IsSoundBut}

-- No node above this one was taken as one block.
abbrev pub HasNoTakenAbove : List ℕ → ℕ → Type 0
HasNoTakenAbove rooms v = (u : ℕ) → OnPath u v → u ≢ v → room_of rooms u ≢ 0

-- Node `w` is open: no node above it, at it or below it was taken as one block.
abbrev pub IsOpen : ℕ → List ℕ → ℕ → Type 0
IsOpen n rooms w = (u : ℕ) → IsInCube n u → room_of rooms u ≡ 0 → OnPath u w ⊎ OnPath w u → ⊥

-- The rooms are sound, and node `v` has room for dimension `k`.
pub record HasRoom (n k : ℕ) (rooms : List ℕ) (v : ℕ) : Type 0 where
  pub sound : IsSound n rooms
  pub enough : k + 2 ≤ room_of rooms v
  pub above : HasNoTakenAbove rooms v

-- Node `v` is wholly free, and it is the first open node of dimension `k` below a node.
pub record IsFirstIn (n k : ℕ) (rooms : List ℕ) (start v : ℕ) : Type 0 where
  pub whole : room_of rooms v ≡ k + 2
  pub above : HasNoTakenAbove rooms v
  pub before : (w : ℕ) → IsNode n k w → OnPath start w → w < v → IsOpen n rooms w → ⊥

-- Node `v` of dimension `d` has no node above it, or the one above it is neither wholly free nor
-- taken.
abbrev pub IsTopped : List ℕ → ℕ → ℕ → Type 0
IsTopped rooms d v =
    (v ≡ 1) ⊎ ((room_of rooms (v / 2) ≢ d + 3) × (room_of rooms (v / 2) ≢ 0))

-- No room says that more is free than its node has.
abbrev pub AreBounded : ℕ → List ℕ → Type 0
AreBounded n rooms = (d v : ℕ) → IsNode n d v → room_of rooms v ≤ d + 2

-- Only the room above node `v` may be wrong. No room is too large, and no node above `v` is taken.
pub record CanMend (n : ℕ) (rooms : List ℕ) (v : ℕ) : Type 0 where
  pub bounded : AreBounded n rooms
  pub sound : IsSoundBut n (v / 2) rooms
  pub open_above : HasNoTakenAbove rooms v

-- In addition, node `v` of dimension `d` is neither taken nor wholly free, nor is the one above it
-- wholly free.
pub record HasParts (n d : ℕ) (rooms : List ℕ) (v : ℕ) : Type 0 where
  pub can : CanMend n rooms v
  pub used : room_of rooms v ≢ 0
  pub own : room_of rooms v ≢ d + 2
  pub above : d < n → room_of rooms (v / 2) ≢ d + 3

-- A room of a node of dimension `d` that is taken or wholly free.
abbrev pub IsEnd : ℕ → ℕ → Type 0
IsEnd d room = (room ≡ 0) ⊎ (room ≡ d + 2)

-- A number is 1 if a fact holds, else 0.
abbrev pub Weighs : Type 0 → ℕ → Type 0
Weighs P weight = ((weight ≡ 1) × P) ⊎ ((weight ≡ 0) × (P → ⊥))

-- The rooms are sound. Node `v` of dimension `k` is taken or wholly free, and none above it is
-- taken.
pub record CanSet (n k : ℕ) (rooms : List ℕ) (v : ℕ) : Type 0 where
  pub sound : IsSound n rooms
  pub below : (room_of rooms v ≡ 0) ⊎ (room_of rooms v ≡ k + 2)
  pub above : HasNoTakenAbove rooms v
