-- What the words of a machine say of its processors and blocks.
use Rattle.std.specs.Prelude.{◌≡◌, ℕ, ◌/◌, ◌≤◌, List}
use Rattle.cube_shape.specs.declared.region.Region.{Region}
use Rattle.cube_shape.specs.Region.{Covers}
use Rattle.bitmap_tree.specs.Rule.{bit_of}
use Rattle.bitmap_tree.specs.Layout.{place_in}

-- The processor is held: in each level the bit of the unit in which it lies is set. Where the bit
-- of a unit is clear, nothing of the unit is held.
abbrev pub IsHeldAt : ℕ → List ℕ → ℕ → Type 0
IsHeldAt n words p = (level : ℕ) → level ≤ n / 6 → bit_of words (place_in n level p) ≡ 1

-- No processor of the block is held.
abbrev pub IsFreeAt : ℕ → List ℕ → Region → Type 0
IsFreeAt n words r = (p : ℕ) → Covers r p → IsHeldAt n words p → ⊥
