-- Why a feed stops at a refusal.
use Rattle.job_queue.specs.declared.job_line.Refused.{Refused}
use Rattle.job_queue.specs.declared.job_line.Refused.TheVariants as refused
use Rattle.dispatcher.specs.declared.feeding.FeedStop.{FeedStop}
use Rattle.dispatcher.specs.declared.feeding.FeedStop.TheVariants.{Closed, LaneSpent, Turns}

-- Why a feed stops, if it stops at this refusal.
abbrev pub stop_at : Refused → FeedStop
stop_at (refused.Closed seen) = Closed seen
stop_at refused.Full = Turns
stop_at refused.LaneSpent = LaneSpent
