-- A part of a machine that has a free block.
use Rattle.std.specs.Prelude.{ℕ}
use Rattle.cube_shape.specs.declared.region.Region.{Region}
use Rattle.fit_tree.specs.Fit.{Fit, held_in}
use Rattle.fit_tree.specs.Parts.{HasFitIn}

-- An aligned block of dimension `k` within a part of the machine overlaps no held block.
abbrev pub HasFreeIn : Fit → ℕ → Region → Type 0
HasFreeIn f k part = HasFitIn f.dim k (held_in f) part
