-- A worker that may sleep, before and after a call.
use Rattle.std.specs.Prelude.{◌≡◌, ℕ, ◌<◌}
use Rattle.wake_pool.specs.declared.phase.WakePhase.{WakePhase as Phase}
use Rattle.lanes.specs.Lanes.{ChangesOnly, LanesId}
use Rattle.lanes.specs.Record.{take_of}
use Rattle.lanes.specs.Sleep.{SleeperOf}

-- the worker is one of these lanes, may sleep, and is in this phase
pub record MaySleepIn (lanes : LanesId) (now : Phase) (sleeper : SleeperOf) : Type 0 where
  pub id : sleeper.id ≡ lanes
  pub number : sleeper.known.number < lanes.plan.sleepers
  pub phase : sleeper.phase ≡ now

-- the worker is one of these lanes, and knows that this many jobs of a lane were taken
pub record HasHead (lanes : LanesId) (lane count : ℕ) (sleeper : SleeperOf) : Type 0 where
  pub id : sleeper.id ≡ lanes
  pub inside : lane < lanes.plan.sizes.lanes
  pub head : count ≡ (take_of lane sleeper.known).head

-- the worker is one of these lanes, has the deeds that it had, and did nothing in other lanes
pub record StaysInLane (lanes : LanesId) (lane : ℕ) (old new : SleeperOf) : Type 0 where
  pub id : new.id ≡ lanes
  pub deeds : new.deeds ≡ old.deeds
  pub only : ChangesOnly lane old.known new.known
