-- Which job a call is about, and what it does to the scheduler.
use Rattle.std.specs.Prelude.{◌≡◌, ℕ, ◌+◌, ◌<◌, ◌⊎◌, Some, None}
use Rattle.sched_law.specs.declared.job.TheConstants.{NEVER}
use Rattle.sched_law.specs.declared.job.Place.TheVariants.{Absent, Waiting, Running}
use Rattle.sched_law.specs.declared.job.SchedJob.{SchedJob}
use Rattle.sched_law.specs.declared.job.SchedWait.{SchedWait}
use Rattle.sched_law.specs.declared.job.SchedRun.{SchedRun}
use Rattle.sched_law.specs.State.{Sched, at, cancel, finish, submit}
use Rattle.sched_law.specs.Law.{IsSound}
use Rattle.sched_law.specs.Policy.{Decides}
use Rattle.sched_core.specs.declared.scheduler.Core.{Core}
use Rattle.sched_core.specs.Shows.{IsSpent, IsTaken, KeepsGenerations, KeepsOthers, KeepsSlots, ShowsCore, dim_of, job_arrival, job_generation, job_place, job_ticket, slots_of, submitted_of}
use Rattle.sched_core.specs.declared.request.JobRequest.{JobRequest}
use Rattle.sched_core.specs.Request.{IsAskable, IsAsked}
use Rattle.cubejobs_plan.specs.declared.answer.PlanJob.{PlanJob}
use Rattle.cubejobs_plan.specs.Answers.{IsAnswer}

-- ---- tickets

-- The slot has a job with this ticket.
pub record IsJobWith (ticket : ℕ) (core : Core) (slot : ℕ) : Type 0 where
  pub inside : slot < slots_of core
  pub taken : IsTaken core slot
  pub is : ticket ≡ job_ticket core slot

-- No job that is not over has this ticket.
abbrev pub HasNoJobWith : ℕ → Core → Type 0
HasNoJobWith ticket core = (slot : ℕ) → IsJobWith ticket core slot → ⊥

-- The job with this ticket waits.
abbrev pub HasWaitingWith : ℕ → Core → Type 0
HasWaitingWith ticket core =
    (slot : ℕ) × IsJobWith ticket core slot × ((wait : SchedWait) × (job_place core slot ≡ Waiting wait))

-- The job with this ticket runs.
abbrev pub HasRunningWith : ℕ → Core → Type 0
HasRunningWith ticket core =
    (slot : ℕ) × IsJobWith ticket core slot × ((run : SchedRun) × (job_place core slot ≡ Running run))

-- ---- submit

-- There is no room for a job: each slot has one, or has had as many as it may have. Or as many jobs
-- were submitted as can be numbered.
abbrev pub IsFull : Core → Type 0
IsFull core =
    (submitted_of core ≡ NEVER)
    ⊎ ((slot : ℕ) → slot < slots_of core → IsTaken core slot ⊎ IsSpent core slot)

-- The job can be had, and there is no room for it.
abbrev pub IsRefused : JobRequest → Core → Type 0
IsRefused request core = IsAskable (dim_of core) request × IsFull core

-- The job that was asked for waits in a slot that had none, and the answer is its.
pub record IsSubmitted (request : JobRequest) (answer : PlanJob) (old new : Core) : Type 0 where
  pub slot : ℕ
  pub job : SchedJob
  pub asked : IsAsked request job
  pub sound : (w : Sched) → ShowsCore w old → IsSound w.dim job
  pub shows : (w : Sched) → ShowsCore w old → ShowsCore (submit job w) new
  pub inside : slot < slots_of new
  pub free : IsTaken old slot → ⊥
  pub place : job_place new slot ≡ Waiting (record { job = job; passed = 0 })
  pub arrival : job_arrival new slot ≡ submitted_of old
  pub generation : job_generation new slot ≡ job_generation old slot + 1
  pub others : KeepsOthers old new slot
  pub tells : (w : Sched) → ShowsCore w new → IsAnswer w new slot answer

-- ---- cancel and finish

-- The job with this ticket is over, and the answer says where it was. All other jobs stay.
pub record IsOver (ticket : ℕ) (answer : PlanJob) (end : ℕ → Sched → Sched) (old new : Core) : Type 0 where
  pub slot : ℕ
  pub job : IsJobWith ticket old slot
  pub tells : (w : Sched) → ShowsCore w old → IsAnswer w old slot answer
  pub shows : (w : Sched) → ShowsCore w old → ShowsCore (end (job_arrival old slot) w) new
  pub place : job_place new slot ≡ Absent
  pub generations : KeepsGenerations old new
  pub others : KeepsOthers old new slot

-- The job waited, and was taken back.
abbrev pub IsCancelled : ℕ → PlanJob → Core → Core → Type 0
IsCancelled ticket answer old new = HasWaitingWith ticket old × IsOver ticket answer cancel old new

-- The job ran, and has ended.
abbrev pub IsFinished : ℕ → PlanJob → Core → Core → Type 0
IsFinished ticket answer old new = HasRunningWith ticket old × IsOver ticket answer finish old new

-- ---- next

-- The job in a slot starts at this time by the decision, and the answer is its.
pub record IsStarted (now : ℕ) (answer : PlanJob) (old new : Core) : Type 0 where
  pub slot : ℕ
  pub inside : slot < slots_of new
  pub runs : (run : SchedRun) × (job_place new slot ≡ Running run)
  pub decides : (w : Sched) → ShowsCore w old → (v : Sched)
      × Decides (at now w) (Some (job_arrival new slot)) v × ShowsCore v new
  pub generations : KeepsGenerations old new
  pub keeps : KeepsSlots old new
  pub tells : (w : Sched) → ShowsCore w new → IsAnswer w new slot answer

-- No job may start at this time. A block may be reserved.
pub record IsAtRest (now : ℕ) (old new : Core) : Type 0 where
  pub decides : (w : Sched) → ShowsCore w old → (v : Sched) × Decides (at now w) None v × ShowsCore v new
  pub generations : KeepsGenerations old new
  pub keeps : KeepsSlots old new

-- ---- looks

-- The answer is that of the job with this ticket.
abbrev pub IsFound : ℕ → PlanJob → Core → Type 0
IsFound ticket answer core =
    (slot : ℕ) × IsJobWith ticket core slot × ((w : Sched) → ShowsCore w core → IsAnswer w core slot answer)
