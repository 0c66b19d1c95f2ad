-- What is free in a machine by its words, for a call during which no other made a step.
use Rattle.std.specs.Prelude.{◌≡◌, ℕ, ◌-◌, ◌/◌, ◌^◌, ◌<◌, ◌≤◌, List}
use Rattle.cube_shape.specs.declared.region.Region.{Region}
use Rattle.cube_shape.specs.Region.{block, Covers}
use Rattle.bitmap_tree.specs.Ends.{IsLeft}
use Rattle.bitmap_tree.specs.Layout.{place_in}

-- no processor of the block is held, nor is a unit of any level in which it lies
abbrev pub IsFree : ℕ → (ℕ → ℕ) → Region → Type 0
IsFree n held r = (level p : ℕ) → level ≤ n / 6 → Covers r p → held (place_in n level p) ≡ 0

-- the block is not free in a machine with these words, whatever is held there
abbrev pub IsInUse : ℕ → List ℕ → Region → Type 0
IsInUse n words r = (held : ℕ → ℕ) → IsLeft n held words → IsFree n held r → ⊥

-- no block of dimension k is free
abbrev pub HasNoBlock : ℕ → ℕ → List ℕ → Type 0
HasNoBlock n k words = (m : ℕ) → m < 2 ^ (n - k) → IsInUse n words (block k m)
