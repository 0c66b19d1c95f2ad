-- What a contract sees of an answer.
use Rattle.std.specs.Prelude.{◌≡◌, ℕ}
use Rattle.cube_shape.specs.declared.region.Region.{Region}
use Rattle.cubejobs_regions.specs.declared.answer.Answer.{Answer}

-- The block that an answer names.
abbrev pub region_of : Answer → Region
region_of answer = record { base = answer.base; dim = answer.dim }

-- The answer names no block: its base and its dimension are 0.
abbrev pub NamesNone : Answer → Type 0
NamesNone answer = (answer.base ≡ 0) × (answer.dim ≡ 0)

-- The block of this dimension that begins at this processor, if there is one.
abbrev pub region_at : ℕ → ℕ → Region
region_at base dim = record { base = base; dim = dim }
