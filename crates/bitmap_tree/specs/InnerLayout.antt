-- What a seat has on the way of a call.
use Rattle.std.specs.Prelude.{◌≡◌, ℕ, ◌+◌, ◌-◌, ◌*◌, ◌/◌, ◌%◌, ◌^◌, ◌≤◌, length}
use Rattle.cube_shape.specs.declared.region.Region.{Region}
use Rattle.bitmap_tree.specs.declared.view.Run.{Run}
use Rattle.bitmap_tree.specs.Rule.{run}
use Rattle.bitmap_tree.specs.Layout.{Known}
use Rattle.bitmap_tree.specs.Layout.{place_in, run_of, HasRun}
use Rattle.bitmap_tree.specs.Trail.{WasClaimed}

-- the seat has an empty run
abbrev pub IsBlank : Known → Type 0
IsBlank m = (base : ℕ) × HasRun (run base 0) m

-- the bits of both halves of a region, at the level of the halves
abbrev pub both_halves : ℕ → Region → Run
both_halves n r = run (place_in n ((r.dim - 1) / 6) r.base) (2 * 2 ^ ((r.dim - 1) % 6))

-- an aligned region of dimension k of the machine of dimension n
pub record IsIn (n k : ℕ) (r : Region) : Type 0 where
  pub dimension : r.dim ≡ k
  pub begins : r.base % 2 ^ r.dim ≡ 0
  pub within : r.base + 2 ^ r.dim ≤ 2 ^ n
  pub fits : r.dim ≤ n

-- The seat has just the run of the block, which is aligned and of dimension k. Its newest step
-- claimed it.
pub record HasTaken (n k : ℕ) (m : Known) (r : Region) : Type 0 where
  pub run : HasRun (run_of n r) m
  pub block : IsIn n k r
  pub claimed : WasClaimed (run_of n r) m.0.trail

-- the trail of a seat has grown by at most this number of steps
abbrev pub Grows : ℕ → Known → Known → Type 0
Grows most old new = length new.0.trail ≤ length old.0.trail + most
