-- The invariant of every reply.
use Rattle.std.specs.Prelude.{ℕ, length}
use Rattle.cube_shape.specs.declared.region.Region.{Region}
use Rattle.cube_shape.specs.Region.{IsAligned}
use Rattle.job_types.specs.declared.work.Work.{Work}
use Rattle.job_types.specs.Dim.{dim_of}
use Rattle.job_types.specs.Job.{JobData}
use Rattle.job_types.specs.Inner.Items.{numbers_in}
use Rattle.job_types.specs.Inner.Kept.{IsShown}
use Rattle.job_types.specs.Inner.Work.{IsMade, job_in, kept_in}

-- The block of a job that begins at this processor: the least that has a processor for each item.
abbrev pub region_at : JobData → ℕ → Region
region_at job base = record { base = base; dim = dim_of (length job.items) }

-- The block that it keeps could run the job, and what else is kept shows the result of its
-- collective.
pub record IsAnswer (work : Work) : Type 0 where
  pub made : IsMade work
  pub aligned : IsAligned work.machine (region_at (job_in work) work.base)
  pub computed : IsShown work.kind (numbers_in work.items) (kept_in work)
