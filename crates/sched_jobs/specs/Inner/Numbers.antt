-- Counts of slots in lines, by their keys.
use Rattle.std.specs.Prelude.{◌≡◌, ℕ, ◌<◌, ◌≤◌, List, Option, Some, None, nat_lt}
use Rattle.std.specs.List.{count_by}
use Rattle.sched_jobs.specs.declared.nodes.QueueNode.{QueueNode as NodeData}
use Rattle.sched_jobs.specs.Nodes.{key_of}

-- The number is below the bound, if there is one.
abbrev pub IsBelow : Option ℕ → ℕ → Type 0
IsBelow None i = Unit {0}
IsBelow (Some bound) i = i < bound

-- The number of slots of a list with a key below the bound.
abbrev pub counted : List NodeData → ℕ → List ℕ → ℕ
counted nodes bound slots = count_by (λ u. nat_lt (key_of nodes u) bound) slots

-- The keys of slots in lines are below a number, and each is that of one slot.
pub record HasNumbers (nodes : List NodeData) (line : ℕ → Option ℕ) (next : ℕ) : Type 0 where
  pub before : (u q : ℕ) → line u ≡ Some q → key_of nodes u < next
  pub once : (u v q r : ℕ) → line u ≡ Some q → line v ≡ Some r → key_of nodes u ≡ key_of nodes v → u ≡ v

-- Number `i` is the key of a slot in the line, and is below the bound.
abbrev pub HasKeyIn : List NodeData → (ℕ → Option ℕ) → ℕ → Option ℕ → ℕ → Type 0
HasKeyIn nodes line q bound i = (u : ℕ) × (line u ≡ Some q) × (key_of nodes u ≡ i) × IsBelow bound i

-- It is so of a line from `first` on, up to `end`, which is left out.
abbrev pub HasKeyFrom : List NodeData → (ℕ → Option ℕ) → ℕ → ℕ → Option ℕ → ℕ → Type 0
HasKeyFrom nodes line first end bound i =
    (q : ℕ) × (first ≤ q) × (q < end) × HasKeyIn nodes line q bound i
