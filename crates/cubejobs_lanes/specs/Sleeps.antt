-- What a worker of lanes that may lie down has, and what its calls change.
use Rattle.std.specs.Prelude.{◌≡◌, ℕ, ◌<◌, ◌*◌, Option, Some, None, IfSome}
use Rattle.std.specs.Arc.{arc_value}
use Rattle.lanes.specs.declared.finder.At.{At}
use Rattle.lanes.specs.declared.finder.At.TheVariants.{Idle, Parked}
use Rattle.lanes.specs.declared.finder.Found.{Found}
use Rattle.lanes.specs.declared.finder.Found.TheVariants.{Job, Ended, Park, Again}
use Rattle.lanes.specs.declared.record.WorkerRecord.{WorkerRecord}
use Rattle.lanes.specs.Phases.{IsAwake, IsFree}
use Rattle.lanes.specs.Sleep.{Finds, find_steps}
use Rattle.cubejobs_lanes.specs.declared.tries.TheConstants.{TRIES}
use Rattle.cubejobs_lanes.specs.declared.sleeper_side.KeptJob.{KeptJob}
use Rattle.cubejobs_lanes.specs.declared.sleeper_side.SleeperSide.{SleeperSide}

-- What a worker found that kept this job, if it kept one.
abbrev pub kept_found : KeptJob → Found
kept_found one = Job one.lane one.job one.left

-- What a worker found by now: what its call returns, or the job that it keeps for the next call.
abbrev pub found_by : Option KeptJob → Found → Found
found_by None found = found
found_by (Some one) found = kept_found one

-- A worker that keeps no job finds this in the lanes, from one on. One that keeps a job looks in no
-- lane.
abbrev pub FindsNow : Option KeptJob → ℕ → ℕ → WorkerRecord → Found → WorkerRecord → Type 0
FindsNow None lanes from old found new = Finds lanes from (TRIES * find_steps) old found new
FindsNow (Some one) lanes from old found new = (found ≡ kept_found one) × (new ≡ old)

-- Where the worker is after its call. It keeps a job only if the caller is to call again.
abbrev pub Stops : Option KeptJob → Found → At → Type 0
Stops None (Job lane job left) at = at ≡ Idle
Stops None Ended at = at ≡ Idle
Stops None Park at = at ≡ Parked
Stops None Again at = IsAwake at
Stops (Some one) Again at = IsFree at
Stops (Some one) (Job lane job left) at = ⊥
Stops (Some one) Ended at = ⊥
Stops (Some one) Park at = ⊥

-- The worker went on to find a job in its lanes, from this one on, and this is what it returns.
pub record Seeks (from : ℕ) (old new : SleeperSide) (found : Found) : Type 0 where
  pub same : arc_value new.common ≡ arc_value old.common
  pub finds : FindsNow old.kept (arc_value old.common).lanes.plan.sizes.lanes from old.finder.known
      (found_by new.kept found) new.finder.known
  pub stops : Stops new.kept found new.finder.at
