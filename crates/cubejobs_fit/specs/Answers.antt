-- What a contract sees of an image that its caller keeps, and of the answers.
use Rattle.std.specs.Prelude.{◌≡◌, ◌≢◌, ℕ, ◌+◌, ◌^◌, ◌≤◌, false, List, length, slice_index}
use Rattle.cube_shape.specs.declared.limits.TheConstants.{MAX_BITMAP_DIM}
use Rattle.cube_shape.specs.declared.region.Region.{Region}
use Rattle.cube_shape.specs.Machine.{Holdings}
use Rattle.fit_tree.specs.Fit.{held_in}
use Rattle.fit_tree.specs.Image.{fit_in}
use Rattle.cubejobs_fit.specs.declared.answer.Answer.{Answer}
use Rattle.cubejobs_fit.specs.declared.occupancy.OccupancyAnswer.{OccupancyAnswer}

-- There is a machine of dimension `n`, and these are as many rooms as it has.
abbrev pub HasSize : ℕ → List ℕ → Type 0
HasSize n rooms = (n ≤ MAX_BITMAP_DIM) × (length rooms ≡ 2 ^ (n + 1))

-- There is a machine of dimension `n`, and it has more rooms than these, or less.
abbrev pub HasOtherSize : ℕ → List ℕ → Type 0
HasOtherSize n rooms = (n ≤ MAX_BITMAP_DIM) × (length rooms ≢ 2 ^ (n + 1))

-- What the rooms of an image represent as held: the station of a block is its base.
abbrev pub held_of : ℕ → List ℕ → Holdings
held_of n rooms = held_in (fit_in n rooms)

-- The block of `2^k` processors that begins at this processor.
abbrev pub region_from : ℕ → ℕ → Region
region_from base k = record { base = base; dim = k }

-- The block that an answer names.
abbrev pub region_of : Answer → Region
region_of answer = record { base = answer.base; dim = answer.dim }

-- The answer names no block.
abbrev pub NamesNone : Answer → Type 0
NamesNone answer = (answer.base ≡ 0) × (answer.dim ≡ 0)

-- The answer counts nothing: each of its fields except the code is 0.
pub record CountsNone (answer : OccupancyAnswer) : Type 0 where
  pub largest : answer.largest ≡ 0
  pub has_free : answer.has_free ≡ false
  pub held : answer.held ≡ 0
  pub free : (k : ℕ) → slice_index answer.free k ≡ 0
