-- Searches through lines.
use Rattle.std.specs.Prelude.{◌≡◌, ℕ, ◌+◌, ◌<◌, ◌≤◌, ◌⊎◌, List, Option, Some, None}
use Rattle.cube_shape.specs.declared.limits.TheConstants.{MAX_BITMAP_DIM}
use Rattle.sched_jobs.specs.declared.nodes.QueueNode.{QueueNode as NodeData}
use Rattle.sched_jobs.specs.Nodes.{estimate_of, key_of}
use Rattle.sched_jobs.specs.declared.lines.TheConstants.{CLASSES}
use Rattle.sched_jobs.specs.declared.search.Wanted.{Wanted}
use Rattle.sched_jobs.specs.Slots.{line_at}

-- A dimension is wanted, or it is with a rank below the limit.
abbrev pub IsWantedAt : Wanted → ℕ → ℕ → Type 0
IsWantedAt wanted dim rank = (dim < wanted.any) ⊎ ((dim < wanted.most) × (rank < wanted.limit))

-- A slot in the line of a class and a dimension is wanted.
abbrev pub IsFit : List NodeData → (ℕ → Option ℕ) → Wanted → ℕ → ℕ → ℕ → Type 0
IsFit nodes line wanted class dim u =
    (line u ≡ Some (line_at class dim)) × IsWantedAt wanted dim (estimate_of nodes u)

-- A slot in a line of a class, of a dimension below a bound, is wanted.
abbrev pub IsFitBelow : List NodeData → (ℕ → Option ℕ) → Wanted → ℕ → ℕ → ℕ → Type 0
IsFitBelow nodes line wanted class bound u =
    (dim : ℕ) × (dim < bound) × IsFit nodes line wanted class dim u

-- A slot in a line of a class is wanted.
abbrev pub IsFitIn : List NodeData → (ℕ → Option ℕ) → Wanted → ℕ → ℕ → Type 0
IsFitIn nodes line wanted class u = IsFitBelow nodes line wanted class (MAX_BITMAP_DIM + 1) u

-- Of the slots that are so, this one has the least key, or there is none.
abbrev pub IsLeast : List NodeData → (ℕ → Type 0) → Option ℕ → Type 0
IsLeast nodes P None = (u : ℕ) → P u → ⊥
IsLeast nodes P (Some slot) = P slot × ((u : ℕ) → P u → key_of nodes slot ≤ key_of nodes u)

-- The slot with the lesser key of at most two.
abbrev pub IsOlder : List NodeData → Option ℕ → Option ℕ → Option ℕ → Type 0
IsOlder nodes None other answer = answer ≡ other
IsOlder nodes (Some u) None answer = answer ≡ Some u
IsOlder nodes (Some u) (Some v) answer =
    ((answer ≡ Some u) × (key_of nodes u ≤ key_of nodes v))
    ⊎ ((answer ≡ Some v) × (key_of nodes v ≤ key_of nodes u))

-- Of the slots that are wanted, this one is of the first class, and has the least key there, or
-- there is none.
abbrev pub IsChosen : List NodeData → (ℕ → Option ℕ) → Wanted → Option ℕ → Type 0
IsChosen nodes line wanted None =
    (class u : ℕ) → class < CLASSES → IsFitIn nodes line wanted class u → ⊥
IsChosen nodes line wanted (Some slot) =
    (class : ℕ) × (class < CLASSES) × IsLeast nodes (IsFitIn nodes line wanted class) (Some slot)
    × ((before u : ℕ) → before < class → IsFitIn nodes line wanted before u → ⊥)
