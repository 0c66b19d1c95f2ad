-- How many processors are busy, an entry for each node of a machine of dimension `n`.
use Rattle.std.specs.Prelude.{◌≡◌, ◌≢◌, ℕ, ◌+◌, ◌*◌, ◌^◌, ◌<◌, ◌⊎◌, List, Bool, true, false}
use Rattle.cube_shape.specs.Node.{IsInCube, OnPath}
use Rattle.alloc_bits.specs.Count.{IsCount}
use Rattle.fit_tree.specs.Rooms.{IsNode}
use Rattle.sched_blocks.specs.Ends.{entry_of}

-- Node `w` is in a block in use at node `v` or below it. Whether the block of a node is in use is
-- `used` of this node.
abbrev pub IsUsedIn : (ℕ → Bool) → ℕ → ℕ → Type 0
IsUsedIn used v w = (u : ℕ) × (used u ≡ true) × OnPath v u × OnPath u w

-- Each entry is the number of processors in blocks in use at its node or below it. Processor `i` of
-- node `v`, which has dimension `d`, is node `v * 2^d + i`.
pub record AreBusy (n : ℕ) (used : ℕ → Bool) (busy : List ℕ) : Type 0 where
  pub each : (d v : ℕ) → IsNode n d v
      → IsCount (λ i. IsUsedIn used v (v * 2 ^ d + i)) (2 ^ d) (entry_of busy v)

-- No other node above or below this one is in use.
abbrev pub HasNoneBeside : ℕ → (ℕ → Bool) → ℕ → Type 0
HasNoneBeside n used v =
    (u : ℕ) → IsInCube n u → OnPath u v ⊎ OnPath v u → u ≢ v → used u ≡ false

-- Node `a` has the earlier end, or it has the same and is less busy.
abbrev pub IsEarlier : List ℕ → List ℕ → ℕ → ℕ → Type 0
IsEarlier ends busy a b =
    (entry_of ends a < entry_of ends b)
    ⊎ ((entry_of ends a ≡ entry_of ends b) × (entry_of busy a < entry_of busy b))
