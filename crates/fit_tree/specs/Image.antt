-- The image of a machine: a head with counts, and a room for each node.
use Rattle.std.specs.Prelude.{◌≡◌, ◌≢◌, ℕ, ◌+◌, ◌-◌, ◌/◌, ◌^◌, ◌<◌, ◌≤◌, ◌⊎◌, List, length, slice_index}
use Rattle.alloc_bits.specs.Count.{IsCount}
use Rattle.fit_tree.specs.declared.head.Head.{Head}
use Rattle.fit_tree.specs.declared.head.TheConstants.{IMAGE_MARK}
use Rattle.fit_tree.specs.Rooms.{room_of, IsSound}
use Rattle.fit_tree.specs.Fit.{Fit}
use Rattle.fit_tree.specs.InnerFit.{blocks_of}

-- What rooms of a machine of dimension `n` represent: its dimension, and each block of which the
-- node was taken.
abbrev pub fit_in : ℕ → List ℕ → Fit
fit_in n rooms = record { dim = n; blocks = blocks_of n rooms }

-- Node `v` of dimension `d` is a maximal free block: it is wholly free, and the node above it is
-- neither wholly free nor taken. The root has no node above it.
abbrev pub IsMaximal : List ℕ → ℕ → ℕ → Type 0
IsMaximal rooms d v =
    (room_of rooms v ≡ d + 2)
    × ((v ≡ 1) ⊎ ((room_of rooms (v / 2) ≢ d + 3) × (room_of rooms (v / 2) ≢ 0)))

-- For each dimension the maximal free blocks are counted.
pub record AreCounted (n : ℕ) (maximal rooms : List ℕ) : Type 0 where
  pub each : (d : ℕ) → d ≤ n
      → IsCount (λ m. IsMaximal rooms d (2 ^ (n - d) + m)) (2 ^ (n - d)) (slice_index maximal d)
  pub none_above : (d : ℕ) → n < d → slice_index maximal d ≡ 0

-- The head and the rooms are an image of a machine of dimension `n`.
pub record IsImage (n : ℕ) (head : Head) (rooms : List ℕ) : Type 0 where
  pub sound : IsSound n rooms
  pub room_count : length rooms ≡ 2 ^ (n + 1)
  pub no_node : room_of rooms 0 ≡ 0
  pub counted : AreCounted n head.maximal rooms
  pub dim : head.dim ≡ n
  pub mark : head.mark ≡ IMAGE_MARK
  pub unused : head.unused ≡ 0
