-- What the answer about a job says.
use Rattle.std.specs.Prelude.{◌≡◌, ℕ, ◌⊎◌, Some}
use Rattle.cube_shape.specs.declared.region.Region.{Region}
use Rattle.sched_law.specs.declared.job.TheConstants.{NEVER}
use Rattle.sched_law.specs.declared.job.Place.{Place}
use Rattle.sched_law.specs.declared.job.Place.TheVariants.{Absent, Waiting, Running}
use Rattle.sched_law.specs.declared.job.SchedJob.{SchedJob}
use Rattle.sched_law.specs.declared.job.SchedRun.{SchedRun}
use Rattle.sched_law.specs.State.{Sched}
use Rattle.sched_law.specs.Policy.{IsLatest}
use Rattle.alloc_bits.specs.Count.{IsCount}
use Rattle.sched_core.specs.declared.scheduler.Core.{Core}
use Rattle.sched_core.specs.Answers.{ComesBefore}
use Rattle.sched_core.specs.Shows.{job_arrival, job_place, job_ticket}
use Rattle.cubejobs_plan.specs.declared.answer.PlanJob.{PlanJob}
use Rattle.cubejobs_plan.specs.declared.codes.TheConstants.{DONE}
use Rattle.cubejobs_plan.specs.declared.states.TheConstants.{RESERVED, RUNS, WAITS}

-- The answer has the numbers with which the job was submitted.
pub record HasNumbers (job : SchedJob) (answer : PlanJob) : Type 0 where
  pub payload : answer.payload ≡ job.payload
  pub processors : answer.processors ≡ job.processors
  pub class : answer.job_class ≡ job.class

-- The answer says that the job runs in its block, and when it ends by its estimate.
pub record SaysRuns (run : SchedRun) (answer : PlanJob) : Type 0 where
  pub state : answer.state ≡ RUNS
  pub base : answer.base ≡ run.block.base
  pub dim : answer.dim ≡ run.block.dim
  pub time : answer.time ≡ run.end

-- The answer says that this block is reserved for the job. Its time is the block's latest end.
pub record SaysReserved (w : Sched) (r : Region) (answer : PlanJob) : Type 0 where
  pub state : answer.state ≡ RESERVED
  pub base : answer.base ≡ r.base
  pub dim : answer.dim ≡ r.dim
  pub promise : IsLatest w r answer.time

-- The answer says that the job waits, and how large a block it needs.
pub record SaysWaits (job : SchedJob) (answer : PlanJob) : Type 0 where
  pub state : answer.state ≡ WAITS
  pub base : answer.base ≡ 0
  pub dim : answer.dim ≡ job.dim
  pub time : answer.time ≡ NEVER

-- The block is reserved for job `j`.
abbrev pub IsReservedFor : Sched → ℕ → Region → Type 0
IsReservedFor w j r = w.reserved ≡ Some (record { job = j; block = r })

-- The answer says of a waiting job which block is reserved for it, or that none is.
abbrev pub SaysQueued : Sched → ℕ → SchedJob → PlanJob → Type 0
SaysQueued w j job answer =
    ((r : Region) × IsReservedFor w j r × SaysReserved w r answer)
    ⊎ (((r : Region) → IsReservedFor w j r → ⊥) × SaysWaits job answer)

-- The answer says where job `j` is, which is at this place.
abbrev pub SaysPlace : Sched → ℕ → Place → PlanJob → Type 0
SaysPlace w j Absent answer = ⊥
SaysPlace w j (Waiting wait) answer = HasNumbers wait.job answer × SaysQueued w j wait.job answer
SaysPlace w j (Running run) answer = HasNumbers run.job answer × SaysRuns run answer

-- How many waiting jobs come before job `j` at this place: the reserved job first, the others in
-- order.
abbrev pub IsBefore : Sched → ℕ → Place → ℕ → Type 0
IsBefore w j Absent count = ⊥
IsBefore w j (Waiting wait) count = IsCount (ComesBefore w j wait.job) w.next count
IsBefore w j (Running run) count = count ≡ 0

-- The answer is that of the job in a slot, except how many come before it.
pub record IsListed (w : Sched) (core : Core) (slot : ℕ) (answer : PlanJob) : Type 0 where
  pub code : answer.code ≡ DONE
  pub ticket : answer.ticket ≡ job_ticket core slot
  pub arrival : answer.arrival ≡ job_arrival core slot
  pub place : SaysPlace w (job_arrival core slot) (job_place core slot) answer

-- The answer is that of the job in a slot.
pub record IsAnswer (w : Sched) (core : Core) (slot : ℕ) (answer : PlanJob) : Type 0 where
  pub listed : IsListed w core slot answer
  pub before : IsBefore w (job_arrival core slot) (job_place core slot) answer.before

-- The answer is of no job: all but the code is 0.
pub record SaysNothing (answer : PlanJob) : Type 0 where
  pub state : answer.state ≡ 0
  pub ticket : answer.ticket ≡ 0
  pub payload : answer.payload ≡ 0
  pub base : answer.base ≡ 0
  pub time : answer.time ≡ 0
  pub before : answer.before ≡ 0
  pub arrival : answer.arrival ≡ 0
  pub processors : answer.processors ≡ 0
  pub dim : answer.dim ≡ 0
  pub job_class : answer.job_class ≡ 0
