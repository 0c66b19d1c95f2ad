-- Replies: the jobs that they answer, and the blocks that they name.
use Rattle.std.specs.Prelude.{◌≡◌, ℕ, length}
use Rattle.cube_shape.specs.declared.region.Region.{Region}
use Rattle.cube_shape.specs.Region.{IsAligned}
use Rattle.job_types.specs.Dim.{dim_of}
use Rattle.job_types.specs.Reply.{ReplyData}
use Rattle.job_queue.specs.declared.record.QueuedJob.{QueuedJob}
use Rattle.job_queue.specs.Record.{queued}

-- The job that a reply answers, with its id, as the queue had it.
abbrev pub answered : ReplyData → QueuedJob
answered reply = queued reply.id reply.job

-- The block that a reply names.
abbrev pub region_of : ReplyData → Region
region_of reply = reply.region

-- The reply is right for the machine of dimension `n`. Its job was made for that machine. It names
-- an aligned block of the least dimension with a processor for each item. The result is no part of
-- it: every value of type `Reply` has the right one (`Reply::at`, `Reply::tally`).
pub record IsRight (n : ℕ) (reply : ReplyData) : Type 0 where
  pub machine : reply.job.machine ≡ n
  pub aligned : IsAligned n reply.region
  pub dimension : reply.region.dim ≡ dim_of (length reply.job.items)
