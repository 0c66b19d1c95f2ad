-- When all jobs of a run were submitted, and why they were not.
use Rattle.std.specs.Prelude.{◌≡◌, ◌≢◌, Bool, true, false, not, ◌&&◌, Option, Some, None, if◌then◌else◌}
use Rattle.std.specs.List.{All, list_any}
use Rattle.dispatcher.specs.declared.feeding.FeedStop.{FeedStop}
use Rattle.dispatcher.specs.declared.feeding.FeedStop.TheVariants.{Done, Closed, LaneSpent, Turns}
use Rattle.dispatcher.specs.declared.stop.Stop.{Stop}
use Rattle.dispatcher.specs.declared.stop.Stop.TheVariants.{Ended, OutOfMemory as WorkerOutOfMemory, NotRun, Enough}
use Rattle.dispatcher_threads.specs.declared.running.RunEnd.{RunEnd}
use Rattle.dispatcher_threads.specs.declared.answering.StopReason.{StopReason}
use Rattle.dispatcher_threads.specs.declared.answering.StopReason.TheVariants.{OutOfMemory, Spent}

-- Each lane submitted its whole list, and each worker ran.
pub record IsDone {M : Type 0} (end : RunEnd M) : Type 0 where
  pub lanes : All (λ l. l.stop ≡ Some Done) end.lanes.items
  pub workers : All (λ stop. stop ≢ NotRun) end.stops.items

-- The feed never ran, or found the queue closed, since memory was refused.
abbrev pub is_cut_off : Option FeedStop → Bool
is_cut_off None = true
is_cut_off (Some Done) = false
is_cut_off (Some (Closed seen)) = true
is_cut_off (Some LaneSpent) = false
is_cut_off (Some Turns) = false

-- The lane was spent: it has made as many entries as a lane may.
abbrev pub is_spent : Option FeedStop → Bool
is_spent None = false
is_spent (Some Done) = false
is_spent (Some (Closed seen)) = false
is_spent (Some LaneSpent) = true
is_spent (Some Turns) = false

-- The worker never ran.
abbrev pub is_idle : Stop → Bool
is_idle Ended = false
is_idle WorkerOutOfMemory = false
is_idle NotRun = true
is_idle Enough = false

-- Why not all jobs of a run were submitted. It is `Spent` if a lane was spent, no other lane was
-- cut off, and each worker ran. In all other cases it is `OutOfMemory`.
abbrev pub reason_of : {M : Type 0} → RunEnd M → StopReason
reason_of end =
    if list_any (λ l. is_spent l.stop) end.lanes.items && not
    (list_any (λ l. is_cut_off l.stop) end.lanes.items) && not (list_any is_idle end.stops.items)
    then Spent else OutOfMemory
