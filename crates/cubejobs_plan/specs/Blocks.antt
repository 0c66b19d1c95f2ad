-- What a call about a block does.
use Rattle.std.specs.Prelude.{◌≡◌, ℕ, Some}
use Rattle.cube_shape.specs.declared.region.Region.{Region}
use Rattle.cube_shape.specs.Region.{IsAligned}
use Rattle.sched_law.specs.State.{Sched, IsVacant, occupy, vacate}
use Rattle.sched_core.specs.declared.scheduler.Core.{Core}
use Rattle.sched_core.specs.Shows.{HasSameJobs, ShowsCore, dim_of}

-- The block of this dimension that begins at this processor, if there is one.
abbrev pub block_at : ℕ → ℕ → Region
block_at base dim = record { base = base; dim = dim }

-- The machine of a scheduler has the block.
abbrev pub HasBlock : Region → Core → Type 0
HasBlock r core = IsAligned (dim_of core) r

-- No part of the block is held or out of service.
abbrev pub IsVacantIn : Region → Core → Type 0
IsVacantIn r core = (w : Sched) → ShowsCore w core → IsVacant w r

-- A part of the block is held or out of service.
abbrev pub IsInUse : Region → Core → Type 0
IsInUse r core = (w : Sched) → ShowsCore w core → IsVacant w r → ⊥

-- The block is out of service as one block.
abbrev pub IsOut : Region → Core → Type 0
IsOut r core = (w : Sched) → ShowsCore w core → w.occupied r.base ≡ Some r

-- The block is not out of service as one block.
abbrev pub IsNotOut : Region → Core → Type 0
IsNotOut r core = (w : Sched) → ShowsCore w core → w.occupied r.base ≡ Some r → ⊥

-- A vacant block goes out of service, and all jobs stay where they are.
pub record IsOccupied (r : Region) (old new : Core) : Type 0 where
  pub vacant : IsVacantIn r old
  pub shows : (w : Sched) → ShowsCore w old → ShowsCore (occupy r w) new
  pub jobs : HasSameJobs old new

-- A block that was out of service is in service again, and all jobs stay where they are.
pub record IsVacated (r : Region) (old new : Core) : Type 0 where
  pub out : IsOut r old
  pub shows : (w : Sched) → ShowsCore w old → ShowsCore (vacate r w) new
  pub jobs : HasSameJobs old new
