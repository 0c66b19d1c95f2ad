-- The latest ends of the blocks in use, an entry for each node of a machine of dimension `n`.
use Rattle.std.specs.Prelude.{◌≡◌, ◌≢◌, ℕ, ◌≤◌, ◌⊎◌, List, slice_index_or}
use Rattle.cube_shape.specs.Node.{IsInCube, OnPath}

-- The entry of a node.
abbrev pub entry_of : List ℕ → ℕ → ℕ
entry_of entries v = slice_index_or entries v 0

-- Time `t` is the latest end of the blocks in use at node `v` or below it. The end of the block in
-- use at a node is `own` of this node. It is 0 if there is none, or it is out of service.
pub record IsLatestIn (n : ℕ) (own : ℕ → ℕ) (v t : ℕ) : Type 0 where
  pub all : (u : ℕ) → IsInCube n u → OnPath v u → own u ≤ t
  pub reached : (t ≡ 0) ⊎ ((u : ℕ) × IsInCube n u × OnPath v u × (own u ≡ t))

-- Each entry is the latest end at its node or below it.
pub record AreEnds (n : ℕ) (own : ℕ → ℕ) (ends : List ℕ) : Type 0 where
  pub each : (v : ℕ) → IsInCube n v → IsLatestIn n own v (entry_of ends v)

-- No other node above or below this one has an end.
abbrev pub HasNoEndBeside : ℕ → (ℕ → ℕ) → ℕ → Type 0
HasNoEndBeside n own v =
    (u : ℕ) → IsInCube n u → OnPath u v ⊎ OnPath v u → u ≢ v → own u ≡ 0
