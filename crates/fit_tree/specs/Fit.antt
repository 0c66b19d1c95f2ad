-- What contracts see of a machine: its dimension and a finite map from bases to held blocks.
use Rattle.std.specs.Prelude.{◌≡◌, ℕ, ◌+◌, ◌/◌, ◌^◌, Some}
use Rattle.std.specs.Ordering.{nat_cmp}
use Rattle.std.specs.FinMap.{FinMap, get}
use Rattle.cube_shape.specs.declared.region.Region.{Region}
use Rattle.cube_shape.specs.Machine.{Holdings}

-- The dimension of the machine, and the held block of each base that begins one.
pub record Fit : Type 0 where
  pub dim : ℕ
  pub blocks : FinMap nat_cmp Region

-- What is held: the station of a block is its base.
abbrev pub held_in : Fit → Holdings
held_in f = get f.blocks

-- The block is held as one block.
abbrev pub HoldsBlock : Fit → Region → Type 0
HoldsBlock f r = held_in f r.base ≡ Some r

-- How many words of 8 bytes the rooms of a machine take.
abbrev pub fit_words : ℕ → ℕ
fit_words n = 2 ^ n / 4 + 1
