-- What a feed changes in the record of its lane.
use Rattle.std.specs.Prelude.{◌≡◌, ◌≤◌, ℕ, List, [], ◌∷◌, ◌++◌, map, length, drop, is_some, cond}
use Rattle.ghost_history.specs.Sums.{total}
use Rattle.cube_shape.specs.declared.limits.TheConstants.{MAX_ENTRIES}
use Rattle.job_types.specs.Job.{JobData}
use Rattle.job_queue.specs.declared.record.Entry.{Entry}
use Rattle.job_queue.specs.declared.record.LaneRecord.{LaneRecord}
use Rattle.job_queue.specs.Record.{accepted, job_of}
use Rattle.dispatcher.specs.Stop.{given_back, EndsWith}
use Rattle.dispatcher.specs.declared.feeding.FeedEnd.{FeedEnd}
use Rattle.dispatcher.specs.declared.feeding.FeedStop.{FeedStop}
use Rattle.dispatcher.specs.declared.feeding.FeedStop.TheVariants.{Done, Closed, LaneSpent, Turns}

-- The entries that a lane made from one record to a later one.
abbrev pub entries_since : LaneRecord → LaneRecord → List Entry
entries_since before after = drop (length before.entries) after.entries

-- How many of these entries found the queue full and brought no job.
abbrev pub full_since : LaneRecord → LaneRecord → ℕ
full_since before after = total (λ e. cond (is_some e.job) 0 1) (entries_since before after)

-- The count that a feed read together with the closed mark, if that is why it stopped.
abbrev pub seen_at : FeedStop → List ℕ
seen_at Done = []
seen_at (Closed seen) = seen ∷ []
seen_at LaneSpent = []
seen_at Turns = []

-- A feed submitted these jobs: the first ones were accepted, the others are left.
pub record HandsIn (jobs left : List JobData) (stop : FeedStop)
    (before after : LaneRecord) : Type 0 where
  -- The lane's record gained entries, and the count that was seen at the end, and nothing else.
  pub gains : after ≡ record before {
    entries = before.entries
        ++ entries_since before after;
    seen = before.seen ++ seen_at stop;
  }
  -- The jobs of the new entries are the accepted ones, in order.
  pub brings : map job_of (accepted (entries_since before after)) ++ left ≡ jobs

-- The reason of a feed's stop agrees with the record of its lane. `Done` has no job left. `Closed`
-- has the count that the lane saw last. With `LaneSpent` the lane has made as many entries as a
-- lane may.
pub record IsStopFor (lane : LaneRecord) (end : FeedEnd) : Type 0 where
  pub done : end.stop ≡ Done → given_back end.back ++ end.left.items ≡ []
  pub closed : (seen : ℕ) → end.stop ≡ Closed seen → EndsWith lane.seen seen
  pub spent : end.stop ≡ LaneSpent → MAX_ENTRIES ≤ length lane.entries
