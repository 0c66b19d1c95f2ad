-- The end of a lane, by the record of its lane.
use Rattle.std.specs.Prelude.{◌≡◌, ℕ, ◌++◌, List, length}
use Rattle.job_types.specs.Job.{JobData}
use Rattle.job_queue.specs.declared.record.LaneRecord.{LaneRecord}
use Rattle.job_queue.specs.Record.{accepted_jobs}
use Rattle.dispatcher.specs.Stop.{given_back}
use Rattle.dispatcher_threads.specs.declared.running.LaneEnd.{LaneEnd}
use Rattle.dispatcher_threads.specs.InnerStop.{StopsBy}

-- The values of the end are those of the lane's record. What the lane has accepted, and what it did
-- not submit, are the jobs of its number.
pub record HasEnded (jobs : ℕ → List JobData) (lane : LaneRecord) (end : LaneEnd) : Type 0 where
  pub number : end.lane ≡ lane.number
  pub accepted : end.accepted ≡ length (accepted_jobs lane)
  pub entries : end.entries ≡ length lane.entries
  pub all_jobs : accepted_jobs lane ++ given_back end.back ++ end.left.items ≡ jobs lane.number
  pub stopped : StopsBy lane end.back end.left.items end.stop
