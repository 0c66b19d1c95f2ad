-- A ticket names one job.
use Rattle.std.proofs.Common.{◌≡◌, ℕ, ◌+◌, ◌*◌, ◌<◌, ◌≤◌, sym, ◌∙◌, ap, arith}
use Rattle.sched_jobs.specs.declared.nodes.TheConstants.{MAX_SLOTS}
use Rattle.sched_law.specs.declared.job.Place.TheVariants.{Waiting, Running}
use Rattle.sched_law.specs.declared.job.SchedWait.{SchedWait}
use Rattle.sched_law.specs.declared.job.SchedRun.{SchedRun}
use Rattle.sched_law.specs.State.{Sched}
use Rattle.sched_law.proofs.SetLemmas.{runs_waits}
use Rattle.sched_core.specs.declared.scheduler.Core.{Core}
use Rattle.sched_core.specs.Shows.{ShowsCore, job_generation, job_place, slots_of}
use Rattle.cubejobs_plan.specs.Jobs.{HasRunningWith, HasWaitingWith, IsJobWith}

module _ (w : Sched) (core : Core) (k : ShowsCore w core) (ticket : ℕ) where
  pub one_job : (a b : ℕ) → IsJobWith ticket core a → IsJobWith ticket core b → a ≡ b
  one_job a b first second =
      let same : job_generation core a * MAX_SLOTS + a ≡ job_generation core b * MAX_SLOTS + b = sym first.is ∙ second.is in
      let limit : slots_of core ≤ MAX_SLOTS = k.jobs.1.limit in
      let one : a < MAX_SLOTS = omega (arith, first.inside, limit) in
      let other : b < MAX_SLOTS = omega (arith, second.inside, limit) in
      omega (arith, one, other, same)

  module _ (slot : ℕ) (job : IsJobWith ticket core slot) where
    -- the job that runs is that of the slot
    pub runs_here : HasRunningWith ticket core → (run : SchedRun) × (job_place core slot ≡ Running run)
    runs_here (at, other, (run, is)) = (run, ap (job_place core) (one_job slot at job other) ∙ is)

    pub waits_here : HasWaitingWith ticket core → (wait : SchedWait) × (job_place core slot ≡ Waiting wait)
    waits_here (at, other, (wait, is)) = (wait, ap (job_place core) (one_job slot at job other) ∙ is)

  -- it does not both wait and run
  pub waits_or_runs : HasWaitingWith ticket core → HasRunningWith ticket core → ⊥
  waits_or_runs (a, first, (wait, waits)) running =
      let run = runs_here a first running in runs_waits (sym run.1 ∙ waits)
