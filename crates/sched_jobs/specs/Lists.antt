-- Lists of slots.
use Rattle.std.specs.Prelude.{◌≡◌, ℕ, ◌<◌, ◌⊎◌, List, [], ◌∷◌, Option, Some, None}
use Rattle.sched_jobs.specs.declared.nodes.QueueNode.{QueueNode as NodeData}
use Rattle.sched_jobs.specs.Nodes.{key_of}

-- A slot is one of a list.
abbrev pub Has : List ℕ → ℕ → Type 0
Has [] slot = ⊥
Has (first ∷ others) slot = (slot ≡ first) ⊎ Has others slot

-- Each slot of a list has a lesser key than all after it.
abbrev pub IsRising : List NodeData → List ℕ → Type 0
IsRising nodes [] = Unit {0}
IsRising nodes (first ∷ others) =
    ((slot : ℕ) → Has others slot → key_of nodes first < key_of nodes slot) × IsRising nodes others

-- Two lists have no slot in common.
abbrev pub AreApart : List ℕ → List ℕ → Type 0
AreApart slots others = (slot : ℕ) → Has slots slot → Has others slot → ⊥

-- The first slot of a list, if there is one.
abbrev pub first_slot : List ℕ → Option ℕ
first_slot [] = None
first_slot (first ∷ others) = Some first
