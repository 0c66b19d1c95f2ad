-- Open nodes apart from one that is to be avoided.
use Rattle.std.specs.Prelude.{◌≢◌, ℕ, ◌+◌, ◌-◌, ◌/◌, ◌^◌, ◌<◌, ◌≤◌, ◌⊎◌, List, Option, Some, None, IfSome}
use Rattle.cube_shape.specs.Node.{OnPath}
use Rattle.fit_tree.specs.declared.apart.Start.{Start}
use Rattle.fit_tree.specs.Rooms.{IsNode, room_of}
use Rattle.fit_tree.specs.InnerNodes.{IsOpen}

-- Neither node is above the other, and they differ.
abbrev pub AreUnrelated : ℕ → ℕ → Type 0
AreUnrelated a w = OnPath a w ⊎ OnPath w a → ⊥

-- No node of dimension `k` in node `c` is open and apart from the one to avoid.
abbrev pub HasNoneIn : ℕ → ℕ → List ℕ → ℕ → ℕ → Type 0
HasNoneIn n k rooms avoid c =
    (w : ℕ) → IsNode n k w → OnPath c w → AreUnrelated avoid w → IsOpen n rooms w → ⊥

-- The first such node in `c` is the first one in node `s`, which has dimension `d` and room for it.
pub record IsStart (n k : ℕ) (rooms : List ℕ) (avoid c d s : ℕ) : Type 0 where
  pub fits : k ≤ d
  pub node : IsNode n d s
  pub inside : OnPath c s
  pub apart : AreUnrelated avoid s
  pub enough : k + 2 ≤ room_of rooms s
  pub above : (u : ℕ) → OnPath c u → OnPath u s → u ≢ s → room_of rooms u ≢ 0
  pub before : (w : ℕ) → IsNode n k w → OnPath c w → AreUnrelated avoid w → w / 2 ^ (d - k) < s
      → IsOpen n rooms w → ⊥

-- The most room of nodes in node `c` that are apart from the one to avoid. Where it is enough for
-- dimension `k`, there is a start for `k`.
abbrev pub IsMost : ℕ → List ℕ → ℕ → ℕ → ℕ → Type 0
IsMost n rooms avoid c most =
    ((k : ℕ) → k + 2 ≤ most → (d : ℕ) × (s : ℕ) × IsStart n k rooms avoid c d s)
    × ((k : ℕ) → most < k + 2 → HasNoneIn n k rooms avoid c)

-- What was found is a node of its dimension.
abbrev pub IsPlaced : ℕ → ℕ → Option Start → Type 0
IsPlaced n k found = IfSome found (λ s. (k ≤ s.dim) × IsNode n s.dim s.node)

-- What was found in node `c`.
abbrev pub IsFound : ℕ → ℕ → List ℕ → ℕ → ℕ → Option Start → Type 0
IsFound n k rooms avoid c None = HasNoneIn n k rooms avoid c
IsFound n k rooms avoid c (Some start) = IsStart n k rooms avoid c start.dim start.node
