-- What contracts say of a machine of which one caller has all stations.
use Rattle.std.specs.Prelude.{◌≡◌, ℕ, ◌<◌, ◌↔◌, IsSome, Some, None}
use Rattle.cube_shape.specs.declared.region.Region.{Region}
use Rattle.cube_shape.specs.declared.node.Side.{Side}
use Rattle.cube_shape.specs.Node.{IsNodeOf, OnPath, child_of}
use Rattle.status_word.specs.Word.{IsOccupied, HasSide}
use Rattle.cube_shape.specs.Machine.{Holdings}
use Rattle.tree_steps.specs.declared.view.Size.{Size}
use Rattle.tree_steps.specs.Tree.{size_of}
use Rattle.cube_tree.specs.declared.solo.Solo.{Solo}
use Rattle.cube_tree.specs.Slots.{holdings}

-- The dimension of the machine and the number of its stations.
abbrev pub solo_size : Solo → Size
solo_size solo = size_of solo.tree

-- The dimension of the machine.
abbrev pub solo_dim : Solo → ℕ
solo_dim solo = (solo_size solo).dim

-- What each station holds.
abbrev pub held_by : Solo → Holdings
held_by solo = holdings (solo_dim solo) solo.nodes.items

-- Some station holds the block of node `v`.
abbrev pub IsHeld : ℕ → Holdings → ℕ → Type 0
IsHeld n held v = (s : ℕ) × (r : Region) × (held s ≡ Some r) × IsNodeOf n v r

-- What the word of node `v` says of what is held. A word that is not 0 may have other sides and
-- marks.
pub record TellsHeld (n : ℕ) (held : Holdings) (v word : ℕ) : Type 0 where
  -- The word is 0 exactly if no block of a node at `v` or under it is held.
  pub zero : (word ≡ 0) ↔ ((u : ℕ) → OnPath v u → IsHeld n held u → ⊥)
  -- The word is occupied exactly if the block of `v` is held.
  pub occupied : IsOccupied word ↔ IsHeld n held v
  -- The word has the side of each child for which the block of a node at it or under it is held.
  pub sides : (side : Side) (u : ℕ)
      → OnPath (child_of v side) u
      → IsHeld n held u
      → HasSide side word

-- Each station holds a block.
abbrev pub AllHold : Solo → Type 0
AllHold solo = (s : ℕ) → s < (solo_size solo).stations → IsSome (held_by solo s)

-- The station is the lowest of those that hold nothing.
pub record IsLowestIdle (solo : Solo) (s : ℕ) : Type 0 where
  pub there : s < (solo_size solo).stations
  pub idle : held_by solo s ≡ None
  pub lowest : (t : ℕ) → t < s → IsSome (held_by solo t)
