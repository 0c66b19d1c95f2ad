-- A scheduler shows the state after a call.
use Rattle.std.proofs.Common.{◌≡◌, ℕ, ◌≤◌, inl, inr, Option, Some, None, refl, sym, ◌∙◌, ap, subst, arith}
use Rattle.std.specs.Prelude.{IfSome}
use Rattle.cube_shape.specs.declared.region.Region.{Region}
use Rattle.cube_shape.specs.Region.{IsAligned}
use Rattle.cube_shape.specs.declared.limits.TheConstants.{MAX_BITMAP_DIM}
use Rattle.std.proofs.lemmas.Bool.{cases_eq}
use Rattle.sched_law.specs.declared.job.SchedJob.{SchedJob}
use Rattle.sched_law.specs.declared.job.SchedWait.{SchedWait}
use Rattle.sched_law.specs.declared.job.SchedRun.{SchedRun}
use Rattle.sched_law.specs.declared.job.Place.TheVariants.{Absent, Waiting, Running}
use Rattle.sched_law.specs.State.{Sched, at, cancel, finish, occupy, pass, start, submit, vacate, without}
use Rattle.sched_law.specs.Law.{IsSafe, IsSound}
use Rattle.sched_law.proofs.SetLemmas.{absent_waits, runs_waits}
use Rattle.sched_blocks.specs.Layout.{Layout}
use Rattle.sched_blocks.specs.Shows.{Shows}
use Rattle.sched_blocks.proofs.SameLemmas.{at_shows, cancel_shows, pass_shows, submit_shows}
use Rattle.sched_jobs.specs.declared.jobs.Jobs.{Jobs}
use Rattle.sched_jobs.specs.Shows.{HasJob, HasOtherJobs, HasOthers, ShowsJobs, arrival_of, capacity_of, place_of}
use Rattle.sched_core.specs.declared.assigned.Assigned.{Assigned}
use Rattle.sched_core.specs.declared.scheduler.Core.{Core}
use Rattle.sched_core.specs.Shows.{ShowsCore, ShowsKept}
use Rattle.sched_core.specs.Inner.{kept_beside, kept_without}
use Rattle.sched_core.proofs.JobLemmas.{slot_once, slot_waits, submitted_free, waiting_present}
use Rattle.sched_core.proofs.KeptLemmas.{StaysWaiting, kept_clears, kept_ends, kept_stays, others_stay}

module _ (w : Sched) (core : Core) (k : ShowsCore w core) where
  pub core_safe : IsSafe w
  core_safe = k.machine.trees.2.safe

  -- a waiting job fits in the machine
  pub waiting_fits : (u : ℕ) (wait : SchedWait) → place_of core.jobs u ≡ Waiting wait → wait.job.dim ≤ core.blocks.dim
  waiting_fits u wait is =
      let sound = core_safe.waiting (arrival_of core.jobs u) wait (slot_waits w core.jobs k.jobs u wait is) in
      omega (arith, sound.fits, k.machine.dim)

  -- a reserved block is aligned
  pub kept_aligned : (it : Assigned) → core.reserved ≡ Some it → IsAligned core.blocks.dim it.block
  kept_aligned it is =
      let shown = subst (ShowsKept w.reserved core.jobs) is k.kept in
      subst (λ n. IsAligned n it.block) k.machine.dim (core_safe.kept (record { job = arrival_of core.jobs it.slot; block = it.block }) shown.2).0

  pub at_core : (t : ℕ) → ShowsCore (at t w) (record core { time = t })
  at_core t = record {
    limit = k.limit;
    machine = at_shows w core.blocks k.machine t;
    jobs = k.jobs;
    time = refl;
    patience = k.patience;
    kept = k.kept;
  }

  -- ---- jobs come and go

  module _ (jobs : Jobs) (slot : ℕ) (slots : capacity_of jobs ≡ capacity_of core.jobs) (others : HasOthers core.jobs jobs slot) where
    -- the reserved job is in another slot
    pub kept_elsewhere : ((wait : SchedWait) → place_of core.jobs slot ≡ Waiting wait → ⊥) → ShowsKept w.reserved jobs core.reserved
    kept_elsewhere other =
        kept_stays w.reserved core.jobs jobs core.reserved slots
        (λ it is wait waits. others_stay core.jobs jobs slot it.slot others (λ here. other wait (ap (place_of core.jobs) (sym here) ∙ waits)) wait waits) k.kept

    pub submit_core : (job : SchedJob) → IsSound core.blocks.dim job → ShowsJobs (submit job w) jobs → arrival_of jobs slot ≡ core.jobs.next
        → ShowsCore (submit job w) (record core { jobs = jobs })
    submit_core job sound shown arrived = record {
      limit = k.limit;
      machine = submit_shows w core.blocks k.machine job (subst (λ n. IsSound n job) (sym k.machine.dim) sound);
      jobs = shown;
      time = k.time;
      patience = k.patience;
      kept = kept_elsewhere (λ wait waits. submitted_free w job core.jobs jobs slot k.jobs shown arrived others (waiting_present (place_of core.jobs slot) wait waits));
    }

    pub kept_over : HasJob core.jobs slot → ShowsKept (without (arrival_of core.jobs slot) w.reserved) jobs (kept_without slot core.reserved)
    kept_over has =
        kept_ends w.reserved core.jobs jobs slot slots others (λ u has_u same. slot_once w core.jobs k.jobs u slot has_u has same) core.reserved k.kept

    pub cancel_core : (wait : SchedWait) → place_of core.jobs slot ≡ Waiting wait → ShowsJobs (cancel (arrival_of core.jobs slot) w) jobs
        → ShowsCore (cancel (arrival_of core.jobs slot) w) (record core { jobs = jobs; reserved = kept_without slot core.reserved })
    cancel_core wait waits shown = record {
      limit = k.limit;
      machine = cancel_shows w core.blocks k.machine (arrival_of core.jobs slot) wait (slot_waits w core.jobs k.jobs slot wait waits);
      jobs = shown;
      time = k.time;
      patience = k.patience;
      kept = kept_over (waiting_present (place_of core.jobs slot) wait waits);
    }

    pub finish_core : (blocks : Layout) (run : SchedRun) → blocks.dim ≡ core.blocks.dim → place_of core.jobs slot ≡ Running run
        → Shows (finish (arrival_of core.jobs slot) w) blocks → ShowsJobs (finish (arrival_of core.jobs slot) w) jobs
        → ShowsCore (finish (arrival_of core.jobs slot) w) (record core { blocks = blocks; jobs = jobs })
    finish_core blocks run dims runs held shown = record {
      limit = subst (λ n. n ≤ MAX_BITMAP_DIM) (sym dims) k.limit;
      machine = held;
      jobs = shown;
      time = k.time;
      patience = k.patience;
      kept = kept_elsewhere (λ wait waits. runs_waits (sym runs ∙ waits));
    }

    pub start_core : (blocks : Layout) (wait : SchedWait) (r : Region) → blocks.dim ≡ core.blocks.dim → place_of core.jobs slot ≡ Waiting wait
        → Shows (start (arrival_of core.jobs slot) wait.job r w) blocks → ShowsJobs (start (arrival_of core.jobs slot) wait.job r w) jobs
        → ShowsCore (start (arrival_of core.jobs slot) wait.job r w) (record core { blocks = blocks; jobs = jobs; reserved = kept_without slot core.reserved })
    start_core blocks wait r dims waits held shown = record {
      limit = subst (λ n. n ≤ MAX_BITMAP_DIM) (sym dims) k.limit;
      machine = held;
      jobs = shown;
      time = k.time;
      patience = k.patience;
      kept = kept_over (waiting_present (place_of core.jobs slot) wait waits);
    }

    pub pass_core : (wait now : SchedWait) (d : ℕ) → place_of core.jobs slot ≡ Waiting wait → place_of jobs slot ≡ Waiting now
        → arrival_of jobs slot ≡ arrival_of core.jobs slot → ShowsJobs (pass (arrival_of core.jobs slot) wait d w) jobs
        → ShowsCore (pass (arrival_of core.jobs slot) wait d w) (record core { jobs = jobs })
    pass_core wait now d waits after arrived shown = record {
      limit = k.limit;
      machine = pass_shows w core.blocks k.machine (arrival_of core.jobs slot) wait d (slot_waits w core.jobs k.jobs slot wait waits);
      jobs = shown;
      time = k.time;
      patience = k.patience;
      kept = kept_stays w.reserved core.jobs jobs core.reserved slots stays k.kept;
    }
      where
        stays : (it : Assigned) → core.reserved ≡ Some it → StaysWaiting core.jobs jobs it.slot
        stays it is old was = elim (cases_eq it.slot slot) [
          | inl here ↦ (
            (now, ap (place_of jobs) here ∙ after),
            ap (arrival_of jobs) here ∙ arrived ∙ ap (arrival_of core.jobs) (sym here),
          )
          | inr other ↦ others_stay core.jobs jobs slot it.slot others other old was
        ]

  -- ---- blocks

  pub occupy_core : (blocks : Layout) (r : Region) → blocks.dim ≡ core.blocks.dim → Shows (occupy r w) blocks
      → ShowsCore (occupy r w) (record core { blocks = blocks; reserved = kept_beside r core.reserved })
  occupy_core blocks r dims held = record {
    limit = subst (λ n. n ≤ MAX_BITMAP_DIM) (sym dims) k.limit;
    machine = held;
    jobs = k.jobs;
    time = k.time;
    patience = k.patience;
    kept = kept_clears r w.reserved core.jobs core.reserved k.kept;
  }

  pub vacate_core : (blocks : Layout) (r : Region) → blocks.dim ≡ core.blocks.dim → Shows (vacate r w) blocks
      → ShowsCore (vacate r w) (record core { blocks = blocks })
  vacate_core blocks r dims held = record {
    limit = subst (λ n. n ≤ MAX_BITMAP_DIM) (sym dims) k.limit;
    machine = held;
    jobs = k.jobs;
    time = k.time;
    patience = k.patience;
    kept = k.kept;
  }

-- ---- the slot of a new job

module _ (w : Sched) (core : Core) (k : ShowsCore w core) (jobs : Jobs) (job : SchedJob) (slots : capacity_of jobs ≡ capacity_of core.jobs) where
  pub submit_some : IsSound core.blocks.dim job → (o : Option ℕ) → IfSome o (λ slot. arrival_of jobs slot ≡ core.jobs.next) → IfSome o (HasOthers core.jobs jobs)
      → IfSome o (λ slot. ShowsJobs (submit job w) jobs) → IfSome o (λ slot. ShowsCore (submit job w) (record core { jobs = jobs }))
  submit_some sound None arrived others shown = tt
  submit_some sound (Some slot) arrived others shown = submit_core w core k jobs slot slots others job sound shown arrived

  pub submit_free : (o : Option ℕ) → IfSome o (λ slot. arrival_of jobs slot ≡ core.jobs.next) → IfSome o (HasOthers core.jobs jobs)
      → IfSome o (λ slot. ShowsJobs (submit job w) jobs) → IfSome o (λ slot. HasJob core.jobs slot → ⊥)
  submit_free None arrived others shown = tt
  submit_free (Some slot) arrived others shown = submitted_free w job core.jobs jobs slot k.jobs shown arrived others

  -- the slot was named by the caller
  pub submit_named : (slot : ℕ) → IsSound core.blocks.dim job → place_of core.jobs slot ≡ Absent → HasOtherJobs core.jobs jobs slot → ShowsJobs (submit job w) jobs
      → ShowsCore (submit job w) (record core { jobs = jobs })
  submit_named slot sound absent others shown = record {
    limit = k.limit;
    machine = submit_shows w core.blocks k.machine job (subst (λ n. IsSound n job) (sym k.machine.dim) sound);
    jobs = shown;
    time = k.time;
    patience = k.patience;
    kept = kept_stays w.reserved core.jobs jobs core.reserved slots stays k.kept;
  }
    where
      stays : (it : Assigned) → core.reserved ≡ Some it → StaysWaiting core.jobs jobs it.slot
      stays it is wait waits =
          let on = others it.slot (λ here. absent_waits (sym absent ∙ ap (place_of core.jobs) (sym here) ∙ waits)) in
          ((wait, on.0 ∙ waits), on.1 (waiting_present (place_of core.jobs it.slot) wait waits))
