-- What calls read of a shared scheduler.
use Rattle.std.specs.Prelude.{◌≡◌, ℕ, ◌<◌, ◌^◌, Option, Some, None}
use Rattle.cube_shape.specs.Falling.{IsHeld}
use Rattle.sched_law.specs.State.{Sched, held as held_of}
use Rattle.sched_core.specs.{DoesRun, DoesWait, IsCount, asked as asked_of}
use Rattle.sched_core.specs.declared.assigned.Forecast.{Forecast}
use Rattle.sched_core.specs.declared.scheduler.Core.{Core}
use Rattle.sched_core.specs.Answers.{IsForecast}
use Rattle.sched_core.specs.Shows.{IsTaken, ShowsCore, job_arrival, job_place, job_ticket, slots_of}
use Rattle.sched_threads.specs.declared.counts.SchedCounts.{SchedCounts}
use Rattle.sched_threads.specs.Desk.{DeskData}

-- The call reads this of the scheduler, and changes nothing.
abbrev pub Reads : (Core → Type 0) → DeskData → DeskData → Type 0
Reads Says x y = Says x.board.pool.core × (y ≡ x)

-- What is known of when and where the job with this ticket runs.
pub record IsLook (ticket : ℕ) (forecast : Forecast) (core : Core) : Type 0 where
  pub slot : ℕ
  pub inside : slot < slots_of core
  pub taken : IsTaken core slot
  pub named : ticket ≡ job_ticket core slot
  pub known : (w : Sched) → ShowsCore w core
      → IsForecast w (job_arrival core slot) (job_place core slot) forecast

-- No job that is not over has this ticket.
abbrev pub HasNoJob : ℕ → Core → Type 0
HasNoJob ticket core =
    (slot : ℕ) → slot < slots_of core → IsTaken core slot → ticket ≡ job_ticket core slot → ⊥

-- What it answers to look for a job.
abbrev pub IsLookAnswer : ℕ → Option Forecast → Core → Type 0
IsLookAnswer ticket (Some forecast) core = IsLook ticket forecast core
IsLookAnswer ticket None core = HasNoJob ticket core

-- How many jobs wait and run, and how many processors they ask for, they hold and are out of
-- service.
pub record IsCounted (w : Sched) (counts : SchedCounts) : Type 0 where
  pub waiting : IsCount (DoesWait w) w.next counts.waiting
  pub running : IsCount (DoesRun w) w.next counts.running
  pub asked : counts.asked ≡ asked_of w
  pub held : IsCount (IsHeld (held_of w)) (2 ^ w.dim) counts.held
  pub occupied : IsCount (IsHeld w.occupied) (2 ^ w.dim) counts.occupied

-- The numbers of each state that the scheduler shows.
abbrev pub HasCounts : SchedCounts → Core → Type 0
HasCounts counts core = (w : Sched) → ShowsCore w core → IsCounted w counts
