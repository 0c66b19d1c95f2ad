-- Free blocks in a part of a machine.
use Rattle.std.specs.Prelude.{◌≡◌, ℕ, ◌<◌, ◌⊎◌}
use Rattle.cube_shape.specs.declared.region.Region.{Region}
use Rattle.cube_shape.specs.Region.{Covers, IsAligned}
use Rattle.cube_shape.specs.Machine.{Holdings, IsFree}
use Rattle.fit_tree.specs.Halves.{lower_half, upper_half}

-- An aligned block of dimension `k` within a part of the machine overlaps no held block.
abbrev pub HasFitIn : ℕ → ℕ → Holdings → Region → Type 0
HasFitIn n k held part =
    (s : Region) × IsAligned n s × (s.dim ≡ k) × IsFree held s × ((p : ℕ) → Covers s p → Covers part p)

-- One block is a half of another one.
abbrev pub IsHalfOf : Region → Region → Type 0
IsHalfOf whole half =
    (0 < whole.dim) × ((half ≡ lower_half whole) ⊎ (half ≡ upper_half whole))
