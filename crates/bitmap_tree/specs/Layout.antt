-- Where the bits of a region lie, and what a seat has claimed.
use Rattle.std.specs.Prelude.{max, ◌≡◌, ℕ, ◌+◌, ◌-◌, ◌*◌, ◌/◌, ◌%◌, ◌^◌, [], ◌∷◌, List}
use Rattle.cube_shape.specs.declared.region.Region.{Region}
use Rattle.cube_shape.specs.Region.{block}
use Rattle.bitmap_tree.specs.declared.view.Run.{Run}
use Rattle.bitmap_tree.specs.Rule.{first_word, run}
use Rattle.atomic_table.specs.Table.{Me}
use Rattle.bitmap_tree.specs.declared.view.View.{View}

-- what a seat knows; it holds no slot
abbrev pub Known : Type 0
Known = Me Run View

-- the place of the unit of 2 ^ (6 * level) processors in which a processor lies
abbrev pub place_in : ℕ → ℕ → ℕ → ℕ
place_in n level p = 64 * first_word (n / 6 - level) + p / 2 ^ (6 * level)

-- the bits of a region: units of the level of its dimension
abbrev pub run_of : ℕ → Region → Run
run_of n r = run (place_in n (r.dim / 6) r.base) (2 ^ (r.dim % 6))

-- the seat has this run and no other
abbrev pub HasRun : Run → Known → Type 0
HasRun r m = (m.0.runs ≡ r ∷ []) × (m.1 ≡ [])

-- the unit of a level in which a region lies; at its own level the region
abbrev pub unit_around : ℕ → Region → Region
unit_around level r = block (max r.dim (6 * level)) (r.base / 2 ^ max r.dim (6 * level))

-- The lower half of a block.
abbrev pub lower_half : Region → Region
lower_half r = record { base = r.base; dim = r.dim - 1 }

-- The upper half of a block.
abbrev pub upper_half : Region → Region
upper_half r = record { base = r.base + 2 ^ (r.dim - 1); dim = r.dim - 1 }

-- the region of which this is the lower half
abbrev pub whole_of : Region → Region
whole_of r = record { base = r.base; dim = r.dim + 1 }

-- the two are the lower and the upper half of a region
pub record AreHalves (a b : Region) : Type 0 where
  pub alike : b.dim ≡ a.dim
  pub even : a.base % 2 ^ (a.dim + 1) ≡ 0
  pub next : b.base ≡ a.base + 2 ^ a.dim

-- the same, with no number that is to be found
abbrev pub base_in : List Run → ℕ
base_in [] = 0
base_in (r ∷ rs) = r.base

-- The seat has a run without a place.
abbrev pub HasNone : Known → Type 0
HasNone m = HasRun (run (base_in m.0.runs) 0) m
