-- What contracts see of a worker that may sleep, and what its calls do.
use Rattle.std.specs.Prelude.{◌≡◌, ◌≢◌, ℕ, ◌+◌, ◌-◌, ◌<◌, ◌≤◌, true, false, List, [], ◌∷◌, ◌++◌, length}
use Rattle.wake_pool.specs.declared.phase.WakePhase.{WakePhase as Phase}
use Rattle.wake_calls.specs.declared.deed.WakeDeed.{WakeDeed}
use Rattle.lanes.specs.declared.record.LaneJob.{LaneJob}
use Rattle.lanes.specs.declared.record.Sight.{Sight}
use Rattle.lanes.specs.declared.record.TakeRecord.{TakeRecord}
use Rattle.lanes.specs.declared.record.WorkerRecord.{WorkerRecord}
use Rattle.lanes.specs.declared.finder.At.{At}
use Rattle.lanes.specs.declared.finder.At.TheVariants.{Idle, Parked}
use Rattle.lanes.specs.declared.finder.Found.{Found}
use Rattle.lanes.specs.declared.finder.Found.TheVariants.{Job, Ended, Park, Again}
use Rattle.lanes.specs.Record.{take_of, sight}
use Rattle.lanes.specs.declared.rounds.TakenAny.TheVariants.{AnyJob}
use Rattle.lanes.specs.Lanes.{LanesId, TakesAny, TakesNothing, call_steps, look_steps}
use Rattle.lanes.specs.Phases.{IsAwake, IsFree}

-- Which lanes they are, what the worker is known to have done, and what it does at the moment. The
-- deeds are what it did for other threads and with its calls, the latest first.
pub record SleeperOf : Type 0 where
  pub id : LanesId
  pub known : WorkerRecord
  pub phase : Phase
  pub deeds : List WakeDeed

-- The same of a worker that finds jobs, and where it is between two calls.
pub record FinderOf : Type 0 where
  pub id : LanesId
  pub known : WorkerRecord
  pub at : At
  pub deeds : List WakeDeed

-- The number of atomic steps that each round of `find` makes at most in one lane.
abbrev pub find_steps : ℕ
find_steps = call_steps + look_steps + look_steps

-- The worker took no job, and made at most this number of atomic steps in each lane.
pub record FindsNone (lanes steps : ℕ) (old new : WorkerRecord) : Type 0 where
  pub number : new.number ≡ old.number
  pub plan : new.plan ≡ old.plan
  pub long : length new.lanes ≡ length old.lanes
  pub nothing : (k : ℕ) → k < lanes → TakesNothing steps (take_of k old) (take_of k new)

-- It took the job in one round of all lanes from the lane `from` on: from the first lane where it
-- could. Before that round and after it, it took none.
pub record TakesInRound (lanes from steps lane : ℕ) (job : LaneJob) (old new : WorkerRecord) : Type 0
  where
    pub before : WorkerRecord
    pub after : WorkerRecord
    pub left : ℕ
    pub first : FindsNone lanes steps old before
    pub round : TakesAny lanes from before (AnyJob lane job left) after
    pub last : FindsNone lanes steps after new

-- It took one job, from this lane, and none in another. `left` accepted jobs come after it in that
-- lane, as far as the worker knows.
pub record FindsOne (lanes from steps lane : ℕ) (job : LaneJob) (left : ℕ) (old new : WorkerRecord)
    : Type 0 where
  pub number : new.number ≡ old.number
  pub plan : new.plan ≡ old.plan
  pub long : length new.lanes ≡ length old.lanes
  pub low : lane < lanes
  pub taken : (take_of lane new).taken ≡ (take_of lane old).taken ++ job ∷ []
  pub left_is : left ≡ (take_of lane new).tail - (job.seq + 1)
  pub others : (k : ℕ) → k < lanes → k ≢ lane → (take_of k new).taken ≡ (take_of k old).taken
  pub few : (k : ℕ) → k < lanes → (take_of k new).steps ≤ (take_of k old).steps + steps
  -- It looked in the lanes from `from` on.
  pub in_round : TakesInRound lanes from steps lane job old new

-- What the worker found last in the lane is its end: all accepted jobs were taken, beside the
-- closed mark.
abbrev pub SawEnd : TakeRecord → Type 0
SawEnd take =
    (before : List Sight) × (count : ℕ) × (take.empties ≡ before ++ sight count true ∷ [])

-- What the worker found last in the lane: it was open, and all accepted jobs were taken.
abbrev pub SawOpen : TakeRecord → Type 0
SawOpen take =
    (before : List Sight) × (count : ℕ) × (take.empties ≡ before ++ sight count false ∷ [])

-- It found that in one of the lanes.
abbrev pub SawOneOpen : ℕ → WorkerRecord → Type 0
SawOneOpen lanes known = (lane : ℕ) × (lane < lanes) × SawOpen (take_of lane known)

-- What `find` does to the worker's record, from this lane on.
abbrev pub Finds : ℕ → ℕ → ℕ → WorkerRecord → Found → WorkerRecord → Type 0
Finds lanes from steps old (Job lane job left) new =
    FindsOne lanes from steps lane job left old new
Finds lanes from steps old Ended new =
    FindsNone lanes steps old new × ((k : ℕ) → k < lanes → SawEnd (take_of k new))
Finds lanes from steps old Park new = FindsNone lanes steps old new
Finds lanes from steps old Again new = FindsNone lanes steps old new

-- Where the worker is after it.
abbrev pub StopsAt : Found → At → Type 0
StopsAt (Job lane job left) at = IsFree at
StopsAt Ended at = at ≡ Idle
StopsAt Park at = at ≡ Parked
StopsAt Again at = IsAwake at

-- It found no job, and no end.
abbrev pub IsNone : Found → Type 0
IsNone (Job lane job left) = ⊥
IsNone Ended = ⊥
IsNone Park = Unit {0}
IsNone Again = Unit {0}
