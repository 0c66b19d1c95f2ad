-- What a decision does to the place of each job.
use Rattle.std.proofs.Common.{◌≡◌, ℕ, ◌+◌, ◌^◌, inl, inr, min, Option, Some, refl, sym, ◌∙◌, ap, subst}
use Rattle.std.proofs.lemmas.Bool.{cases_eq}
use Rattle.cube_shape.specs.Region.{block}
use Rattle.sched_law.specs.declared.job.TheConstants.{NEVER}
use Rattle.sched_law.specs.declared.job.SchedJob.{SchedJob}
use Rattle.sched_law.specs.declared.job.SchedWait.{SchedWait}
use Rattle.sched_law.specs.declared.job.SchedRun.{SchedRun}
use Rattle.sched_law.specs.declared.job.Place.{Place}
use Rattle.sched_law.specs.declared.job.Place.TheVariants.{Absent, Waiting, Running}
use Rattle.sched_law.specs.State.{Sched, Runs, Waits, end_after, pass, set}
use Rattle.sched_law.specs.Policy.{Decides, Prepares}
use Rattle.sched_law.specs.Policy as policy
use Rattle.sched_law.proofs.SetLemmas.{absent_waits, runs_waits, set_else, set_here}
use Rattle.sched_law.proofs.PolicyLemmas.{head_waits}
use Rattle.sched_law.proofs.SafeLemmas.{prepare_same}
use Rattle.sched_law.proofs.LawLemmas.{prepared_waits, starts_by}

-- a job at the first place may be at the second one, if it was not started or removed
pub record Stays (p q : Place) : Type 0 where
  pub waits : (wait : SchedWait) → p ≡ Waiting wait → (later : SchedWait) × (q ≡ Waiting later)
  pub runs : (run : SchedRun) → p ≡ Running run → q ≡ Running run
  pub absent : p ≡ Absent → q ≡ Absent
  pub ran : (run : SchedRun) → q ≡ Running run → p ≡ Running run

pub stays_same : (p q : Place) → q ≡ p → Stays p q
stays_same p q is = record {
  waits = λ wait was. (wait, is ∙ was);
  runs = λ run was. is ∙ was;
  absent = λ was. is ∙ was;
  ran = λ run now. sym is ∙ now;
}

stays_on : (p q r : Place) → Stays p q → Stays q r → Stays p r
stays_on p q r a b = record {
  waits = λ wait was. let next = a.waits wait was in b.waits next.0 next.1;
  runs = λ run was. b.runs run (a.runs run was);
  absent = λ was. b.absent (a.absent was);
  ran = λ run now. a.ran run (b.ran run now);
}

-- one job waits at another place than before
passed_stays : (place : ℕ → Place) (h : ℕ) (head new : SchedWait) → place h ≡ Waiting head → (a : ℕ) → Stays (place a) (set place h (Waiting new) a)
passed_stays place h head new waits a = elim (cases_eq a h) [
  | inl here ↦
      let was : place a ≡ Waiting head = ap place here ∙ waits in
      let now : set place h (Waiting new) a ≡ Waiting new = ap (set place h (Waiting new)) here ∙ set_here place h (Waiting new) in
      record {
        waits = λ wait is. (new, now);
        runs = λ run is. absurd (runs_waits (sym is ∙ was));
        absent = λ is. absurd (absent_waits (sym is ∙ was));
        ran = λ run is. absurd (runs_waits (sym is ∙ now));
      }
  | inr other ↦ stays_same (place a) (set place h (Waiting new) a) (set_else place h (Waiting new) a other)
]

running : ℕ → SchedJob → ℕ → Place
running now job m = Running (record { job = job; block = block job.dim m; end = end_after now job.estimate })

passed : SchedWait → ℕ → SchedWait
passed head k = record { job = head.job; passed = min (head.passed + 2 ^ k) NEVER }

-- each job that does not start stays
pub decided_stays : (w v : Sched) (answer : Option ℕ) → Decides w answer v → (a : ℕ) → (answer ≡ Some a → ⊥) → Stays (w.place a) (v.place a)
unfolding running passed
decided_stays w _ _ (policy.idles none) a other = stays_same (w.place a) (w.place a) refl
decided_stays w _ _ (policy.starts h m head head_is first) a other =
    stays_same (w.place a) (set w.place h (running w.now head.job m) a) (set_else w.place h (running w.now head.job m) a (λ here. other (ap Some (sym here))))
decided_stays w _ _ (policy.passes h j m head wait u blocked prepares may first block_is) a other =
    let places : u.place ≡ w.place = (prepare_same w u h head prepares).0 in
    let waits : u.place h ≡ Waiting head = ap (λ (p : ℕ → Place). p h) places ∙ head_waits w h head blocked.0 in
    let middle : ℕ → Place = set u.place h (Waiting (passed head wait.job.dim)) in
    stays_on (w.place a) (u.place a) (set middle j (running u.now wait.job m) a)
    (stays_same (w.place a) (u.place a) (ap (λ (p : ℕ → Place). p a) places))
    (stays_on (u.place a) (middle a) (set middle j (running u.now wait.job m) a)
    (passed_stays u.place h head (passed head wait.job.dim) waits a)
    (stays_same (middle a) (set middle j (running u.now wait.job m) a)
    (set_else middle j (running u.now wait.job m) a (λ here. other (ap Some (sym here))))))
decided_stays w v _ (policy.waits h head _ blocked prepares none) a other =
    stays_same (w.place a) (v.place a) (ap (λ (p : ℕ → Place). p a) (prepare_same w v h head prepares).0)

-- no job comes
pub decided_next : (w v : Sched) (answer : Option ℕ) → Decides w answer v → v.next ≡ w.next
decided_next w _ _ (policy.idles none) = refl
decided_next w _ _ (policy.starts h m head head_is first) = refl
decided_next w _ _ (policy.passes h j m head wait u blocked prepares may first block_is) = (prepare_same w u h head prepares).4
decided_next w v _ (policy.waits h head _ blocked prepares none) = (prepare_same w v h head prepares).4

-- the job that starts waited, and runs
pub started_waited : (w v : Sched) (a : ℕ) → Decides w (Some a) v → (wait : SchedWait) × Waits w a wait
started_waited w v a decides = elim (starts_by w v (Some a) a decides refl) [
  | inl starts ↦ (starts.head, head_waits w a starts.head starts.head_is)
  | inr p ↦ (p.wait, (prepared_waits w p.u p.h p.head p.prepares a p.wait).0 (p.may).1)
]

pub started_runs : (w v : Sched) (a : ℕ) → Decides w (Some a) v → (run : SchedRun) × Runs v a run
started_runs w v a decides = elim (starts_by w v (Some a) a decides refl) [
  | inl p ↦
      let run : SchedRun = record { job = p.head.job; block = block p.head.job.dim p.m; end = end_after w.now p.head.job.estimate } in
      (run, subst (λ (x : Sched). Runs x a run) p.is (set_here w.place a (Running run)))
  | inr p ↦
      let run : SchedRun = record { job = p.wait.job; block = block p.wait.job.dim p.m; end = end_after (p.u).now p.wait.job.estimate } in
      (run, subst (λ (x : Sched). Runs x a run) p.is (set_here (pass p.h p.head p.wait.job.dim p.u).place a (Running run)))
]
