-- What a wake changes, and what a look for a token changes.
use Rattle.std.specs.Prelude.{◌≡◌}
use Rattle.std.specs.Arc.{arc_value}
use Rattle.wake_calls.specs.declared.waking.Wake.{Wake as WakeOutcome}
use Rattle.lanes.specs.Deeds.{after_wake}
use Rattle.cubejobs_lanes.specs.KeptWakes.{LooksForSleepers}
use Rattle.cubejobs_lanes.specs.declared.find_answer.WakeAnswer.{WakeAnswer}
use Rattle.cubejobs_lanes.specs.declared.sides.LaneSide.{LaneSide}
use Rattle.cubejobs_lanes.specs.Finds.{wake_answer}
use Rattle.cubejobs_lanes.specs.Resting.{Resting}

-- The producer looked whether a worker is to be woken, and this is the answer. It gave a token to
-- the worker that the answer names, and to no other.
pub record HasWoken (answer : WakeAnswer) (old new : LaneSide) : Type 0 where
  pub wake : WakeOutcome
  pub answer_is : answer ≡ wake_answer wake
  pub same : arc_value new.common ≡ arc_value old.common
  pub known : new.lane.known ≡ old.lane.known
  pub looks : LooksForSleepers (arc_value old.common).lanes wake new.lane
  pub gives : new.lane.deeds ≡ after_wake wake old.lane.deeds

-- A look for the token: nothing changed but where the worker is.
pub record IsAfterToken (old new : Resting) : Type 0 where
  pub common : new.common ≡ old.common
  pub kept : new.kept ≡ old.kept
  pub known : new.known ≡ old.known
  pub deeds : new.deeds ≡ old.deeds
