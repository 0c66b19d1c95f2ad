-- What a contract sees of a reply.
use Rattle.cube_shape.specs.declared.region.Region.{Region}
use Rattle.job_types.specs.declared.reply.JobId.{JobId}
use Rattle.job_types.specs.Job.{JobData}

-- A reply: the id of the job, the job, and the block that it ran on. These determine its result and
-- its rounds and messages.
pub record ReplyData : Type 0 where
  pub id : JobId
  pub job : JobData
  pub region : Region
