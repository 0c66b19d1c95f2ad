-- What a seat that has all stations knows. No public contract cites these.
use Rattle.std.specs.Prelude.{◌≡◌, ℕ, ◌+◌, ◌^◌, ◌<◌, List, All, length, IsSome, Option, None}
use Rattle.cube_shape.specs.declared.node.Node.{Node}
use Rattle.cube_core.specs.declared.phase.Phase.{Phase}
use Rattle.cube_core.specs.declared.phase.Phase.TheVariants.{Idle, Retired}
use Rattle.tree_steps.specs.declared.view.Entry.{Entry}
use Rattle.tree_steps.specs.Rule.{others, times}
use Rattle.tree_steps.specs.Steps.{Known, IsAt, IsOffAll, first_of}
use Rattle.tree_steps.specs.Alone.{IsBlocked, unpicked}
use Rattle.cube_tree.specs.Slots.{node_of_station}

-- The record of this station is in this phase.
abbrev pub HasPhase : ℕ → Phase → Known → Type 0
HasPhase s p m = All (λ e. e.station ≡ s → e.phase ≡ p) m.0.stations

-- The station's record is first and in this phase. The records of the others did not change.
pub record IsMoved (s : ℕ) (p : Phase) (old new : Known) : Type 0 where
  pub at : IsAt new p
  pub number : (first_of new).station ≡ s
  pub rest : others new.0.stations ≡ unpicked s old.0.stations
  pub once : times s (unpicked s old.0.stations) ≡ 0
  pub loads : new.0.loads ≡ old.0.loads
  pub slots : new.1 ≡ old.1

-- The first `m` nodes of the level `j` levels below the root are blocked.
abbrev pub AreBlocked : ℕ → ℕ → List Entry → Type 0
AreBlocked j m entries = (i : ℕ) → i < m → IsBlocked (2 ^ j + i) entries

-- The station has taken the first node of its level that is not blocked. What it holds does not
-- overlap what the others hold.
pub record TakesFirst (s j node : ℕ) (old new : Known) : Type 0 where
  pub m : ℕ
  pub there : m < 2 ^ j
  pub node_is : node ≡ 2 ^ j + m
  pub before : AreBlocked j m (unpicked s old.0.stations)
  pub off : IsOffAll new.0.stations

-- The first station that holds nothing.
pub record IsFirstIdle (nodes : List (Option Node)) (s : ℕ) : Type 0 where
  pub there : s < length nodes
  pub idle : node_of_station nodes s ≡ None
  pub first : (t : ℕ) → t < s → IsSome (node_of_station nodes t)

-- The stations below a number have retired, and the others are idle.
abbrev pub IsGoneBelow : ℕ → Entry → Type 0
IsGoneBelow s e = (e.station < s → e.phase ≡ Retired) × ((e.station < s → ⊥) → e.phase ≡ Idle)
