-- The two halves of a block, and the steps between a held block and its held halves. The station of
-- a block is its base.
use Rattle.std.specs.Prelude.{◌≡◌, ◌≢◌, ℕ, ◌+◌, ◌-◌, ◌^◌, Some, None}
use Rattle.cube_shape.specs.declared.region.Region.{Region}
use Rattle.cube_shape.specs.Machine.{Holdings}

-- The lower half of a block.
abbrev pub lower_half : Region → Region
lower_half r = record { base = r.base; dim = r.dim - 1 }

-- The upper half of a block.
abbrev pub upper_half : Region → Region
upper_half r = record { base = r.base + 2 ^ (r.dim - 1); dim = r.dim - 1 }

-- The block is held in one machine, and its halves in the other. All other blocks are held in both.
pub record AreSplit (whole halves : Holdings) (r : Region) : Type 0 where
  pub held : whole r.base ≡ Some r
  pub idle : whole (upper_half r).base ≡ None
  pub lower : halves r.base ≡ Some (lower_half r)
  pub upper : halves (upper_half r).base ≡ Some (upper_half r)
  pub others : (s : ℕ) → s ≢ r.base → s ≢ (upper_half r).base → halves s ≡ whole s

-- The step that replaces a held block by its halves.
abbrev pub Splits : Holdings → Holdings → Region → Type 0
Splits old new r = AreSplit old new r

-- The step that replaces two held halves by their block.
abbrev pub Joins : Holdings → Holdings → Region → Type 0
Joins old new r = AreSplit new old r

-- Both halves are held, each as one block.
abbrev pub HoldsHalves : Holdings → Region → Type 0
HoldsHalves held r =
    (held r.base ≡ Some (lower_half r)) × (held (upper_half r).base ≡ Some (upper_half r))
