-- What calls answer by which a shared scheduler is emptied.
use Rattle.std.specs.Prelude.{◌≡◌, ◌≢◌, ℕ, ◌<◌, ◌⊎◌, Bool, true, false, Option, Result, Ok, Err}
use Rattle.sched_law.specs.State.{Sched}
use Rattle.sched_core.specs.{DoesRun, DoesWait, IsCount}
use Rattle.sched_core.specs.declared.scheduler.Core.{Core}
use Rattle.sched_core.specs.Shows.{ShowsCore}
use Rattle.sched_board.specs.declared.board.JobBoard.{JobBoard}
use Rattle.sched_board.specs.declared.calls.RestJob.{RestJob}
use Rattle.sched_board.specs.JobBoard.{IsClosed}
use Rattle.sched_threads.specs.declared.chair.Chair.TheVariants.{Free}
use Rattle.sched_threads.specs.declared.desk.WrongState.{WrongState}
use Rattle.sched_threads.specs.Desk.{DeskData, chair_of}
use Rattle.sched_threads.specs.Turns.{IsRestAnswer}

-- What it answers to take a job back, if it is an error while jobs may come.
abbrev pub IsGivenBack : ℕ → Result (Option RestJob) WrongState → JobBoard → JobBoard → Type 0
IsGivenBack from (Ok rest) x y = IsClosed x × IsRestAnswer from rest x y
IsGivenBack from (Err why) x y = (IsClosed x → ⊥) × (y ≡ x)

-- As many jobs do this.
abbrev pub HasJobs : (Sched → ℕ → Type 0) → ℕ → Core → Type 0
HasJobs Does count core = (w : Sched) → ShowsCore w core → IsCount (Does w) w.next count

-- No thread is a worker, and no job waits or runs.
abbrev pub IsUnused : DeskData → Type 0
IsUnused x =
    ((u : ℕ) → chair_of x u ≡ Free) × HasJobs DoesWait 0 x.board.pool.core
    × HasJobs DoesRun 0 x.board.pool.core

-- A thread is a worker, or a job waits or runs.
abbrev pub IsUsed : DeskData → Type 0
IsUsed x =
    ((u : ℕ) × (chair_of x u ≢ Free))
    ⊎ (((n : ℕ) × (0 < n) × HasJobs DoesWait n x.board.pool.core)
    ⊎ ((n : ℕ) × (0 < n) × HasJobs DoesRun n x.board.pool.core))

-- Whether the scheduler is used.
abbrev pub SaysUse : Bool → DeskData → Type 0
SaysUse true x = IsUsed x
SaysUse false x = IsUnused x

-- The call says whether the scheduler is used, and changes nothing.
abbrev pub LooksForUse : Bool → DeskData → DeskData → Type 0
LooksForUse answer x y = SaysUse answer x × (y ≡ x)
