-- What a scheduler answers, in terms of its state.
use Rattle.std.specs.Prelude.{◌≡◌, ◌≢◌, ℕ, ◌⊎◌, Option, Some, None, IfSome}
use Rattle.cube_shape.specs.declared.region.Region.{Region}
use Rattle.sched_law.specs.declared.job.Place.{Place}
use Rattle.sched_law.specs.declared.job.Place.TheVariants.{Absent, Waiting, Running}
use Rattle.sched_law.specs.declared.job.Reservation.{Reservation}
use Rattle.sched_law.specs.declared.job.SchedJob.{SchedJob}
use Rattle.sched_law.specs.declared.job.SchedWait.{SchedWait}
use Rattle.sched_law.specs.declared.job.SchedRun.{SchedRun}
use Rattle.sched_law.specs.State.{Sched, Runs}
use Rattle.sched_law.specs.Policy.{Decides, IsBlocked, IsLatest, Prepares}
use Rattle.sched_jobs.specs.Counts.{WaitsBefore}
use Rattle.sched_core.specs.declared.assigned.Assigned.{Assigned}
use Rattle.sched_core.specs.declared.assigned.Forecast.{Forecast}
use Rattle.sched_core.specs.declared.assigned.Forecast.TheVariants.{Nothing, Queued, Promised, Started}
use Rattle.sched_core.specs.declared.scheduler.Core.{Core}
use Rattle.sched_core.specs.Shows.{job_arrival}

-- The number of the job in a slot, if there is a slot.
abbrev pub answer_of : Core → Option ℕ → Option ℕ
answer_of core None = None
answer_of core (Some slot) = Some (job_arrival core slot)

-- The slot that gets a block.
abbrev pub slot_of : Option Assigned → Option ℕ
slot_of None = None
slot_of (Some it) = Some it.slot

-- Nothing changes but that a block may be reserved for a head that no block is free for.
abbrev pub IsPrepared : Sched → Sched → Type 0
IsPrepared w v =
    (v ≡ w) ⊎ ((h : ℕ) × (head : SchedWait) × IsBlocked w h head × Prepares w h head v)

-- The decision in a state is announced: it leads to `u`, from `w` and also from the state `v`
-- that is left. The job that starts gets the announced block.
pub record IsAnnounced (w v u : Sched) (core : Core) (answer : Option Assigned) : Type 0 where
  pub prepared : IsPrepared w v
  pub decides : Decides w (answer_of core (slot_of answer)) u
  pub again : Decides v (answer_of core (slot_of answer)) u
  pub block : IfSome answer (λ it. (run : SchedRun) × Runs u (job_arrival core it.slot) run
      × (run.block ≡ it.block))

-- A waiting job has the block that is reserved for it, with its latest end; or none is reserved
-- for it.
abbrev pub IsWaitForecast : Sched → ℕ → Forecast → Type 0
IsWaitForecast w j answer =
    ((r : Region) × (t : ℕ) × (w.reserved ≡ Some (record { job = j; block = r })) × IsLatest w r t
    × (answer ≡ Promised r t))
    ⊎ (((r : Region) → w.reserved ≡ Some (record { job = j; block = r }) → ⊥) × (answer ≡ Queued))

-- Job `i` comes before the waiting job `j`: the reserved job comes before all others, and these
-- come in order.
abbrev pub ComesBeforeBy : Option Reservation → Sched → ℕ → SchedJob → ℕ → Type 0
ComesBeforeBy None w j job i = WaitsBefore w j job i
ComesBeforeBy (Some reserved) w j job i =
    (reserved.job ≢ j) × ((i ≡ reserved.job) ⊎ WaitsBefore w j job i)

-- The same, by the reservation of the state.
abbrev pub ComesBefore : Sched → ℕ → SchedJob → ℕ → Type 0
ComesBefore w j job i = ComesBeforeBy w.reserved w j job i

-- The forecast of a job at a place. That of a running job is its block and estimated end.
abbrev pub IsForecast : Sched → ℕ → Place → Forecast → Type 0
IsForecast w j Absent answer = answer ≡ Nothing
IsForecast w j (Waiting wait) answer = IsWaitForecast w j answer
IsForecast w j (Running run) answer = Runs w j run × (answer ≡ Started run.block run.end)
