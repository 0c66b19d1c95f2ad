-- What contracts see of an `AllocBits`: a finite map from stations to blocks. The bits and slots
-- that represent it (`Inner.antt`) appear in no public contract.
use Rattle.std.specs.Prelude.{ℕ}
use Rattle.std.specs.Ordering.{nat_cmp}
use Rattle.std.specs.FinMap.{FinMap, get}
use Rattle.cube_shape.specs.declared.region.Region.{Region}
use Rattle.cube_shape.specs.Machine.{Holdings}

-- The dimension of the machine, and the block of each station that holds one.
pub record Allocation : Type 0 where
  pub dim : ℕ
  pub pairs : FinMap nat_cmp Region

-- What each station holds.
abbrev pub held_in : Allocation → Holdings
held_in a = get a.pairs
