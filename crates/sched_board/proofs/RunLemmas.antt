-- Which jobs run after a decision, by their numbers and by their slots.
use Rattle.std.proofs.Common.{◌≡◌, ℕ, ◌+◌, ◌^◌, ◌<◌, ◌⊎◌, inl, inr, min, Option, Some, None, refl, sym, ◌∙◌, ap, subst}
use Rattle.cube_shape.specs.Region.{block}
use Rattle.sched_law.specs.declared.job.TheConstants.{NEVER}
use Rattle.sched_law.specs.declared.job.SchedJob.{SchedJob}
use Rattle.sched_law.specs.declared.job.SchedWait.{SchedWait}
use Rattle.sched_law.specs.declared.job.SchedRun.{SchedRun}
use Rattle.sched_law.specs.declared.job.Place.{Place}
use Rattle.sched_law.specs.declared.job.Place.TheVariants.{Waiting, Running}
use Rattle.sched_law.specs.State.{Sched, Runs, Waits, at, end_after, pass, set}
use Rattle.sched_law.specs.Policy.{Decides}
use Rattle.sched_law.specs.Policy as policy
use Rattle.sched_law.proofs.SetLemmas.{look, runs_waits, same, set_else}
use Rattle.sched_law.proofs.PolicyLemmas.{head_waits}
use Rattle.sched_law.proofs.SafeLemmas.{prepare_same}
use Rattle.sched_law.proofs.LawLemmas.{prepared_runs, prepared_waits, starts_by}
use Rattle.sched_core.specs.declared.scheduler.Core.{Core}
use Rattle.sched_core.specs.Answers.{answer_of}
use Rattle.sched_core.specs.Shows.{IsTaken, KeepsSlots, ShowsCore, job_arrival, job_place, slots_of}
use Rattle.sched_core.proofs.JobLemmas.{place_slot, running_present, slot_once, slot_place, slot_runs}
use Rattle.sched_board.specs.Pool.{RunsIn}

-- ---- by numbers

-- a job that waits changes its place, and the others run on
runs_beside : (place : ℕ → Place) (j : ℕ) (wait : SchedWait) (x : Place) → place j ≡ Waiting wait
    → (a : ℕ) (run : SchedRun) → place a ≡ Running run → set place j x a ≡ Running run
runs_beside place j wait x waits a run is =
    set_else place j x a (λ here. runs_waits (sym is ∙ ap place here ∙ waits)) ∙ is

-- a job of this size that starts at this time in this block
running : ℕ → SchedJob → ℕ → Place
running now job m = Running (record { job = job; block = block job.dim m; end = end_after now job.estimate })

passed : SchedWait → ℕ → Place
passed head k = Waiting (record { job = head.job; passed = min (head.passed + 2 ^ k) NEVER })

pub runs_on : (w v : Sched) (answer : Option ℕ) → Decides w answer v → (a : ℕ) (run : SchedRun) → Runs w a run → Runs v a run
unfolding running passed
runs_on w _ _ (policy.idles none) a run is = is
runs_on w _ _ (policy.starts h m head head_is first) a run is =
    runs_beside w.place h head (running w.now head.job m) (head_waits w h head head_is) a run is
runs_on w _ _ (policy.passes h j m head wait u blocked prepares may first block_is) a run is =
    let places = (prepare_same w u h head prepares).0 in
    let waits : u.place h ≡ Waiting head = ap (λ (p : ℕ → Place). p h) places ∙ head_waits w h head blocked.0 in
    let ran : u.place a ≡ Running run = ap (λ (p : ℕ → Place). p a) places ∙ is in
    runs_beside (pass h head wait.job.dim u).place j wait (running u.now wait.job m)
    (set_else u.place h (passed head wait.job.dim) j may.0 ∙ may.1) a run
    (runs_beside u.place h head (passed head wait.job.dim) waits a run ran)
runs_on w v _ (policy.waits h head _ blocked prepares none) a run is =
    ap (λ (p : ℕ → Place). p a) (prepare_same w v h head prepares).0 ∙ is

pub runs_back : (w v : Sched) (answer : Option ℕ) → Decides w answer v → (a : ℕ) (run : SchedRun) → Runs v a run → (answer ≡ Some a) ⊎ Runs w a run
unfolding running passed
runs_back w _ _ (policy.idles none) a run is = inr is
runs_back w _ _ (policy.starts h m head head_is first) a run is =
    elim (look w.place h (running w.now head.job m) a (Running run) is) [
      | inl (here, _) ↦ inl (ap Some (sym here))
      | inr (_, was) ↦ inr was
    ]
runs_back w _ _ (policy.passes h j m head wait u blocked prepares may first block_is) a run is =
    elim (look (pass h head wait.job.dim u).place j (running u.now wait.job m) a (Running run) is) [
      | inl (here, _) ↦ inl (ap Some (sym here))
      | inr (_, old) ↦ elim (look u.place h (passed head wait.job.dim) a (Running run) old) [
        | inl (_, waits) ↦ absurd (runs_waits (sym waits))
        | inr (_, was) ↦ inr (prepared_runs w u h head prepares a run was)
      ]
    ]
runs_back w v _ (policy.waits h head _ blocked prepares none) a run is = inr (prepared_runs w v h head prepares a run is)

-- the job that starts waited
pub started_waited : (w v : Sched) (answer : Option ℕ) (a : ℕ) → Decides w answer v → answer ≡ Some a → (wait : SchedWait) × Waits w a wait
started_waited w v answer a decides is = elim (starts_by w v answer a decides is) [
  | inl starts ↦ (starts.head, head_waits w a starts.head starts.head_is)
  | inr p ↦ (p.wait, (prepared_waits w p.u p.h p.head p.prepares a p.wait).0 (p.may).1)
]

-- ---- by slots

module _ (w v : Sched) (now : ℕ) (old new : Core) (answer : Option ℕ) (k : ShowsCore w old) (after : ShowsCore v new)
    (slots : slots_of new ≡ slots_of old) (keeps : KeepsSlots old new) (decides : Decides (at now w) (answer_of new answer) v) where
  pub slot_runs_on : (s : ℕ) → RunsIn old s → RunsIn new s
  slot_runs_on s (inside, (run, is)) =
      let kept = keeps s (running_present (job_place old s) run is) in
      let ran = runs_on (at now w) v (answer_of new answer) decides (job_arrival old s) run (slot_runs w old.jobs k.jobs s run is) in
      (subst (λ n. s < n) (sym slots) inside, (run, sym (slot_place v new.jobs after.jobs s kept.0) ∙ ap v.place kept.1 ∙ ran))

  -- the job that starts did not run
  pub slot_waited : (s : ℕ) → answer ≡ Some s → RunsIn old s → ⊥
  slot_waited s is (inside, (run, ran)) =
      let kept = keeps s (running_present (job_place old s) run ran) in
      let waited = started_waited (at now w) v (answer_of new answer) (job_arrival new s) decides (ap (answer_of new) is) in
      runs_waits (sym (slot_runs w old.jobs k.jobs s run ran) ∙ ap w.place (sym kept.1) ∙ waited.1)

  -- only that job runs besides those that ran
  pub slot_ran : ((t : ℕ) → answer ≡ Some t → IsTaken new t) → (s : ℕ) → RunsIn new s → (answer ≡ Some s) ⊎ RunsIn old s
  slot_ran taken s (inside, (run, is)) =
      elim (runs_back (at now w) v (answer_of new answer) decides (job_arrival new s) run (slot_runs v new.jobs after.jobs s run is)) [
        | inl starts ↦ inl (it answer taken starts)
        | inr ran ↦ inr (earlier ran)
      ]
    where
      it : (o : Option ℕ) → ((t : ℕ) → o ≡ Some t → IsTaken new t) → answer_of new o ≡ Some (job_arrival new s) → o ≡ Some s
      it None has none = cc
      it (Some t) has some =
          ap Some (slot_once v new.jobs after.jobs t s (has t refl) (running_present (job_place new s) run is) (same some))

      earlier : w.place (job_arrival new s) ≡ Running run → RunsIn old s
      earlier ran =
          let found = place_slot w old.jobs k.jobs (job_arrival new s) (running_present (w.place (job_arrival new s)) run ran) in
          let kept = keeps found.0 found.1 in
          let here : found.0 ≡ s = slot_once v new.jobs after.jobs found.0 s kept.0 (running_present (job_place new s) run is) (kept.1 ∙ found.2) in
          let was : job_place old found.0 ≡ Running run = sym (slot_place w old.jobs k.jobs found.0 found.1) ∙ ap w.place found.2 ∙ ran in
          (subst (λ n. s < n) slots inside, (run, subst (λ x. job_place old x ≡ Running run) here was))
