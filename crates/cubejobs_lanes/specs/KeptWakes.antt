-- What a producer does that looks for a worker which sleeps.
use Rattle.std.specs.Prelude.{◌≡◌, ◌<◌}
use Rattle.lanes.specs.Lanes.{LaneOf, LanesId}
use Rattle.wake_calls.specs.declared.waking.Wake.{Wake as WakeOutcome}
use Rattle.wake_calls.specs.declared.waking.Wake.TheVariants.{Again, Nobody, Worker}
use Rattle.wake_pool.specs.Words.{word_count}

-- A producer looked whether a worker is to be woken. With `Again` it has still to look from this
-- word of sleepers on. Otherwise it has looked at all words, and a worker that was given its token
-- is one of these lanes.
abbrev pub LooksForSleepers : LanesId → WakeOutcome → LaneOf → Type 0
LooksForSleepers id (Worker x) lane =
    (x < id.plan.sleepers) × (lane.next ≡ word_count id.plan.sleepers)
LooksForSleepers id Nobody lane = lane.next ≡ word_count id.plan.sleepers
LooksForSleepers id (Again left) lane =
    (lane.next ≡ left) × (left < word_count id.plan.sleepers)
