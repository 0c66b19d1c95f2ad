-- What a look at the scheduler finds.
use Rattle.std.specs.Prelude.{◌≡◌, ℕ, ◌+◌, ◌%◌, ◌==◌, if◌then◌else◌}
use Rattle.sched_law.specs.State.{Sched}
use Rattle.sched_jobs.specs.declared.nodes.TheConstants.{MAX_SLOTS}
use Rattle.sched_core.specs.declared.scheduler.Core.{Core}
use Rattle.sched_core.specs.Shows.{HasNoneTaken, IsNextTaken, ShowsCore}
use Rattle.cubejobs_plan.specs.declared.answer.PlanJob.{PlanJob}
use Rattle.cubejobs_plan.specs.Answers.{IsListed}

-- The slot after that of a ticket, whether the ticket's job is over or not. There are slots from 0
-- on, and no job has the ticket 0.
abbrev pub slot_after : ℕ → ℕ
slot_after ticket = if ticket == 0 then 0 else ticket % MAX_SLOTS + 1

-- The answer is that of the first job in a slot after a ticket's. It does not say how many come
-- before the job.
pub record IsAfter (ticket : ℕ) (answer : PlanJob) (core : Core) : Type 0 where
  pub slot : ℕ
  pub next : IsNextTaken core (slot_after ticket) slot
  pub listed : (w : Sched) → ShowsCore w core → IsListed w core slot answer
  pub before : answer.before ≡ 0

-- No slot after a ticket's has a job.
abbrev pub HasNoneAfter : ℕ → Core → Type 0
HasNoneAfter ticket core = HasNoneTaken core (slot_after ticket)
