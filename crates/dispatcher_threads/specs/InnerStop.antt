-- Why a feed has stopped, by the record of its lane.
use Rattle.std.specs.Prelude.{◌≡◌, ◌≤◌, Bool, true, false, ◌++◌, ◌∷◌, List, [], Option, Some, None, IsSome, length}
use Rattle.job_types.specs.Job.{JobData}
use Rattle.cube_shape.specs.declared.limits.TheConstants.{MAX_ENTRIES}
use Rattle.job_queue.specs.declared.record.LaneRecord.{LaneRecord}
use Rattle.job_queue.specs.declared.job_line.Refused.{Refused}
use Rattle.job_queue.specs.declared.job_line.Refused.TheVariants as refused
use Rattle.dispatcher.specs.declared.feeding.FeedStop.{FeedStop}
use Rattle.dispatcher.specs.declared.feeding.FeedStop.TheVariants.{Done, Closed, LaneSpent, Turns}
use Rattle.dispatcher.specs.Stop.{given_back, EndsWith}
use Rattle.dispatcher_threads.specs.declared.member.Offer.{Offer}
use Rattle.dispatcher_threads.specs.declared.member.Offer.TheVariants as offer
use Rattle.dispatcher_threads.specs.declared.member.Progress.{Progress}
use Rattle.dispatcher_threads.specs.declared.member.Progress.TheVariants.{NotRun, UnderWay, Stopped}

-- The reason of a feed's stop agrees with the record of its lane, the job that came back, and the
-- jobs left. It is `IsStopOf` for records. Here the last count that was read with the closed mark
-- takes the part of the close number.
abbrev pub StopsBy : LaneRecord → Option JobData → List JobData → Option FeedStop → Type 0
StopsBy lane back left None = (lane.entries ≡ []) × (back ≡ None)
StopsBy lane back left (Some Done) = given_back back ++ left ≡ []
StopsBy lane back left (Some (Closed seen)) = IsSome back × EndsWith lane.seen seen
StopsBy lane back left (Some LaneSpent) = IsSome back × (MAX_ENTRIES ≤ length lane.entries)
StopsBy lane back left (Some Turns) = ⊥

-- A refused job is the first of those left if the queue was full. Otherwise it is the job that came
-- back, and the feed stops.
abbrev pub IsTakenBack : JobData
    → List JobData
    → List JobData
    → Option JobData
    → Option JobData
    → Refused
    → Option FeedStop
    → Type 0
IsTakenBack job left again back after refused.Full stop =
    (again ≡ job ∷ left) × (after ≡ back) × (stop ≡ None)
IsTakenBack job left again back after (refused.Closed seen) stop =
    (again ≡ left) × (after ≡ Some job) × (stop ≡ Some (Closed seen))
IsTakenBack job left again back after refused.LaneSpent stop =
    (again ≡ left) × (after ≡ Some job) × (stop ≡ Some LaneSpent)

-- A feed that has not stopped has no job that came back. One that never ran has made no entry.
abbrev pub HasCome : LaneRecord → Option JobData → List JobData → Progress → Type 0
HasCome lane back left NotRun = (lane.entries ≡ []) × (back ≡ None)
HasCome lane back left UnderWay = back ≡ None
HasCome lane back left (Stopped stop) = StopsBy lane back left (Some stop)

-- Whether the feed is under way.
abbrev pub is_under_way : Progress → Bool
is_under_way NotRun = false
is_under_way UnderWay = true
is_under_way (Stopped stop) = false

-- Why the feed has stopped, if it has.
abbrev pub stop_in : Progress → Option FeedStop
stop_in NotRun = None
stop_in UnderWay = None
stop_in (Stopped stop) = Some stop

-- Whether the feed goes on after a try.
abbrev pub goes_on : Offer → Bool
goes_on offer.Accepted = true
goes_on offer.Full = true
goes_on offer.Stopped = false
