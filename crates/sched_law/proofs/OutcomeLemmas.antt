-- How often each job was started and cancelled, by the place where it is.
use Rattle.std.proofs.Common.{◌≡◌, ◌≢◌, ℕ, ◌+◌, ◌<◌, ◌≤◌, ◌⊎◌, inl, inr, List, [], ◌∷◌, Some, None, refl, sym, ◌∙◌, ap, subst, arith}
use Rattle.std.proofs.lemmas.Bool.{cases_eq, cases_lt}
use Rattle.ghost_history.proofs.SumLemmas.{is_at-same, is_at-other}
use Rattle.sched_law.specs.declared.job.SchedWait.{SchedWait}
use Rattle.sched_law.specs.declared.job.SchedRun.{SchedRun}
use Rattle.sched_law.specs.declared.job.Place.{Place}
use Rattle.sched_law.specs.declared.job.Place.TheVariants.{Absent, Waiting, Running}
use Rattle.sched_law.specs.State.{Sched, Runs, Waits, at, set}
use Rattle.sched_law.specs.Law.{IsSafe}
use Rattle.sched_law.proofs.SetLemmas.{absent_runs, absent_waits, runs_waits, set_else, set_here}
use Rattle.sched_law.specs.Team.{Deed, IsHistory, May, Team, after, end_of, team_of}
use Rattle.sched_law.specs.Team.Deed.{submits, cancels, occupies, vacates, asks, leaves, ends, starts, settles, closes}
use Rattle.sched_law.specs.Team.Does.{has}
use Rattle.sched_law.specs.Outcome.{IsLeft, WasCancelled, WasRun, cancels_of, is_cancel, is_start, starts_of}
use Rattle.sched_law.proofs.DecideLemmas.{Stays, decided_next, decided_stays, started_runs, started_waited, stays_same}
use Rattle.sched_law.proofs.TeamLemmas.{IsGood, good, none_some, some_is}

-- ---- one job

-- what happened to a job that was cancelled and started this often, and is at this place
pub data Fate (c s : ℕ) (p : Place) : Type 0 where
  left : c ≡ 0 → s ≡ 0 → (wait : SchedWait) → p ≡ Waiting wait → Fate c s p
  runs : c ≡ 0 → s ≡ 1 → (run : SchedRun) → p ≡ Running run → Fate c s p
  over : c ≡ 0 → s ≡ 1 → p ≡ Absent → Fate c s p
  removed : c ≡ 1 → s ≡ 0 → p ≡ Absent → Fate c s p

fate_stays : (c s d r : ℕ) (p q : Place) → Fate c s p → d ≡ c → r ≡ s → Stays p q → Fate d r q
fate_stays c s d r p q (left none zero_s wait is) cs ss k = let later = k.waits wait is in left (cs ∙ none) (ss ∙ zero_s) later.0 later.1
fate_stays c s d r p q (runs none one run is) cs ss k = runs (cs ∙ none) (ss ∙ one) run (k.runs run is)
fate_stays c s d r p q (over none one is) cs ss k = over (cs ∙ none) (ss ∙ one) (k.absent is)
fate_stays c s d r p q (removed one none is) cs ss k = removed (cs ∙ one) (ss ∙ none) (k.absent is)

-- a waiting job was neither started nor cancelled
fate_waits : (c s : ℕ) (p : Place) (wait : SchedWait) → Fate c s p → p ≡ Waiting wait → (c ≡ 0) × (s ≡ 0)
fate_waits c s p wait (left none zero_s _ is) waits = (none, zero_s)
fate_waits c s p wait (runs none one run is) waits = absurd (runs_waits (sym is ∙ waits))
fate_waits c s p wait (over none one is) waits = absurd (absent_waits (sym is ∙ waits))
fate_waits c s p wait (removed one none is) waits = absurd (absent_waits (sym is ∙ waits))

-- a running job was started
fate_runs : (c s : ℕ) (p : Place) (run : SchedRun) → Fate c s p → p ≡ Running run → (c ≡ 0) × (s ≡ 1)
fate_runs c s p run (left none zero_s wait is) ran = absurd (runs_waits (sym ran ∙ is))
fate_runs c s p run (runs none one _ is) ran = (none, one)
fate_runs c s p run (over none one is) ran = absurd (absent_runs (sym is ∙ ran))
fate_runs c s p run (removed one none is) ran = absurd (absent_runs (sym is ∙ ran))

-- ---- all jobs

-- each submitted job has one of the outcomes, and nothing happened to the others
pub record IsKnown (c s : ℕ → ℕ) (w : Sched) : Type 0 where
  pub fate : (j : ℕ) → j < w.next → Fate (c j) (s j) (w.place j)
  pub fresh : (j : ℕ) → w.next ≤ j → (c j ≡ 0) × (s j ≡ 0)

-- the counts stay, and so do the jobs
known_stays : (c s d r : ℕ → ℕ) (w v : Sched) → IsKnown c s w → ((j : ℕ) → d j ≡ c j) → ((j : ℕ) → r j ≡ s j) → v.next ≡ w.next
    → ((j : ℕ) → Stays (w.place j) (v.place j)) → IsKnown d r v
known_stays c s d r w v k cs ss next stays = record {
  fate = λ j below. fate_stays (c j) (s j) (d j) (r j) (w.place j) (v.place j) (k.fate j (omega (arith, below, next))) (cs j) (ss j) (stays j);
  fresh = λ j from. let was = k.fresh j (omega (arith, from, next)) in (cs j ∙ was.0, ss j ∙ was.1);
}

-- the fate of one job changes
known_moved : (c s d r : ℕ → ℕ) (w v : Sched) (i : ℕ) → IsKnown c s w → i < w.next → v.next ≡ w.next
    → ((j : ℕ) → j ≢ i → d j ≡ c j) → ((j : ℕ) → j ≢ i → r j ≡ s j) → ((j : ℕ) → j ≢ i → Stays (w.place j) (v.place j))
    → Fate (d i) (r i) (v.place i) → IsKnown d r v
known_moved c s d r w v i k inside next cs ss stays new = record {
  fate = λ j below. elim (cases_eq j i) [
    | inl here ↦ subst (λ x. Fate (d x) (r x) (v.place x)) (sym here) new
    | inr other ↦
        fate_stays (c j) (s j) (d j) (r j) (w.place j) (v.place j) (k.fate j (omega (arith, below, next))) (cs j other) (ss j other) (stays j other)
  ];
  fresh = λ j from.
      let other : j ≢ i = λ here. omega (arith, from, next, inside, here) in
      let was = k.fresh j (omega (arith, from, next)) in
      (cs j other ∙ was.0, ss j other ∙ was.1);
}

-- a job that is somewhere was submitted
inside_waits : (w : Sched) (j : ℕ) (wait : SchedWait) → IsSafe w → Waits w j wait → j < w.next
inside_waits w j wait k is = elim (cases_lt j w.next) [
  | inl below ↦ below
  | inr past ↦ absurd (absent_waits (sym (k.absent j past) ∙ is))
]

inside_runs : (w : Sched) (j : ℕ) (run : SchedRun) → IsSafe w → Runs w j run → j < w.next
inside_runs w j run k is = elim (cases_lt j w.next) [
  | inl below ↦ below
  | inr past ↦ absurd (absent_runs (sym (k.absent j past) ∙ is))
]

-- ---- each deed

abbrev pub Known : Team → List Deed → Type 0
Known t history = IsKnown (cancels_of history) (starts_of history) t.sched

set_stays : (place : ℕ → Place) (i : ℕ) (x : Place) (j : ℕ) → j ≢ i → Stays (place j) (set place i x j)
set_stays place i x j other = stays_same (place j) (set place i x j) (set_else place i x j other)

known_end : (t : Team) (u j : ℕ) (history : List Deed) → IsGood t → Known t history → t.does u ≡ has j
    → IsKnown (cancels_of (ends u ∷ history)) (starts_of (ends u ∷ history)) (end_of t u (t.does u)).sched
known_end t u j history g k is =
    subst (λ d. IsKnown (cancels_of (ends u ∷ history)) (starts_of (ends u ∷ history)) (end_of t u d).sched) (sym is)
    (known_moved (cancels_of history) (starts_of history) (cancels_of (ends u ∷ history)) (starts_of (ends u ∷ history)) t.sched (end_of t u (has j)).sched j k
    inside refl (λ i other. omega arith) (λ i other. omega arith) (set_stays t.sched.place j Absent)
    (over (omega (arith, was.0)) (omega (arith, was.1)) (set_here t.sched.place j Absent)))
  where
    ran : (run : SchedRun) × Runs t.sched j run
    ran = g.manned.runs u j is

    inside : j < t.sched.next
    inside = inside_runs t.sched j ran.0 g.safe ran.1

    was : (cancels_of history j ≡ 0) × (starts_of history j ≡ 1)
    was = fate_runs (cancels_of history j) (starts_of history j) (t.sched.place j) ran.0 (k.fate j inside) ran.1

-- the counts and the places stay
known_same : (t : Team) (history : List Deed) (d : Deed) (v : Sched) → Known t history → ((j : ℕ) → is_cancel j d ≡ 0) → ((j : ℕ) → is_start j d ≡ 0)
    → v.next ≡ t.sched.next → ((j : ℕ) → Stays (t.sched.place j) (v.place j)) → IsKnown (cancels_of (d ∷ history)) (starts_of (d ∷ history)) v
known_same t history d v k none zero_s next stays =
    known_stays (cancels_of history) (starts_of history) (cancels_of (d ∷ history)) (starts_of (d ∷ history)) t.sched v k
    (λ j. omega (arith, none j)) (λ j. omega (arith, zero_s j)) next stays

stays_refl : (w : Sched) (j : ℕ) → Stays (w.place j) (w.place j)
stays_refl w j = stays_same (w.place j) (w.place j) refl

known_submit : (t : Team) (history : List Deed) (d : Deed) (v : Sched) (wait : SchedWait) → Known t history
    → ((j : ℕ) → is_cancel j d ≡ 0) → ((j : ℕ) → is_start j d ≡ 0)
    → v.next ≡ t.sched.next + 1 → v.place ≡ set t.sched.place t.sched.next (Waiting wait)
    → IsKnown (cancels_of (d ∷ history)) (starts_of (d ∷ history)) v
known_submit t history d v wait k none zero_s next places = record {
  fate = λ j below. elim (cases_eq j t.sched.next) [
    | inl here ↦
        let was = k.fresh j (omega (arith, here)) in
        left (omega (arith, none j, was.0)) (omega (arith, zero_s j, was.1)) wait
        (ap (λ (p : ℕ → Place). p j) places ∙ ap (set t.sched.place t.sched.next (Waiting wait)) here ∙ set_here t.sched.place t.sched.next (Waiting wait))
    | inr other ↦
        fate_stays (cancels_of history j) (starts_of history j) (cancels_of (d ∷ history) j) (starts_of (d ∷ history) j) (t.sched.place j) (v.place j)
        (k.fate j (omega (arith, below, next, other))) (omega (arith, none j)) (omega (arith, zero_s j))
        (stays_same (t.sched.place j) (v.place j) (ap (λ (p : ℕ → Place). p j) places ∙ set_else t.sched.place t.sched.next (Waiting wait) j other))
  ];
  fresh = λ j from.
      let was = k.fresh j (omega (arith, from, next)) in
      (omega (arith, none j, was.0), omega (arith, zero_s j, was.1));
}

-- the job waited, so it was neither started nor cancelled
waited : (t : Team) (history : List Deed) (j : ℕ) (wait : SchedWait) → IsGood t → Known t history → Waits t.sched j wait
    → (j < t.sched.next) × (cancels_of history j ≡ 0) × (starts_of history j ≡ 0)
waited t history j wait g k is =
    let inside = inside_waits t.sched j wait g.safe is in
    let was = fate_waits (cancels_of history j) (starts_of history j) (t.sched.place j) wait (k.fate j inside) is in
    (inside, was.0, was.1)

known_after : (workers : ℕ) (t : Team) (history : List Deed) (d : Deed) → IsGood t → Known t history → May workers t d → Known (after t d) (d ∷ history)
known_after workers t history (submits job) g k may =
    known_submit t history (submits job) (after t (submits job)).sched (record { job = job; passed = 0 }) k (λ j. refl) (λ j. refl) refl refl
known_after workers t history (cancels i) g k (wait, is) =
    let was = waited t history i wait g k is in
    known_moved (cancels_of history) (starts_of history) (cancels_of (cancels i ∷ history)) (starts_of (cancels i ∷ history)) t.sched (after t (cancels i)).sched i k
    was.0 refl (λ j other. omega (arith, is_at-other j i (λ here. other (sym here)))) (λ j other. omega arith) (set_stays t.sched.place i Absent)
    (removed (omega (arith, is_at-same i, was.1)) (omega (arith, was.2)) (set_here t.sched.place i Absent))
known_after workers t history (occupies r) g k may =
    known_same t history (occupies r) (after t (occupies r)).sched k (λ j. refl) (λ j. refl) refl (stays_refl t.sched)
known_after workers t history (vacates r) g k may =
    known_same t history (vacates r) (after t (vacates r)).sched k (λ j. refl) (λ j. refl) refl (stays_refl t.sched)
known_after workers t history (asks u) g k may =
    known_same t history (asks u) t.sched k (λ j. refl) (λ j. refl) refl (stays_refl t.sched)
known_after workers t history (leaves u) g k may =
    known_same t history (leaves u) t.sched k (λ j. refl) (λ j. refl) refl (stays_refl t.sched)
known_after workers t history (ends u) g k (j, is) = known_end t u j history g k is
known_after workers t history (starts now u i v) g k may =
    let wait = started_waited (at now t.sched) v i may.2 in
    let was = waited t history i wait.0 g k wait.1 in
    let run = started_runs (at now t.sched) v i may.2 in
    known_moved (cancels_of history) (starts_of history) (cancels_of (starts now u i v ∷ history)) (starts_of (starts now u i v ∷ history)) t.sched v i k
    was.0 (decided_next (at now t.sched) v (Some i) may.2) (λ j other. omega arith) (λ j other. omega (arith, is_at-other j i (λ here. other (sym here))))
    (λ j other. decided_stays (at now t.sched) v (Some i) may.2 j (λ it. other (sym (some_is it))))
    (runs (omega (arith, was.1)) (omega (arith, is_at-same i, was.2)) run.0 run.1)
known_after workers t history (settles now v) g k may =
    known_same t history (settles now v) v k (λ j. refl) (λ j. refl) (decided_next (at now t.sched) v None may)
    (λ j. decided_stays (at now t.sched) v None may j none_some)
known_after workers t history closes g k may =
    known_same t history closes t.sched k (λ j. refl) (λ j. refl) refl (stays_refl t.sched)

pub known : (dim patience workers : ℕ) (history : List Deed) → IsHistory dim patience workers history → Known (team_of dim patience history) history
known dim patience workers [] may = record {
  fate = λ j below. absurd (omega (arith, below));
  fresh = λ j from. (refl, refl);
}
known dim patience workers (d ∷ history) (may, before) =
    known_after workers (team_of dim patience history) history d (good dim patience workers history before) (known dim patience workers history before) may

-- ---- the outcome

outcome_of : (t : Team) (history : List Deed) (j : ℕ) → IsGood t → Fate (cancels_of history j) (starts_of history j) (t.sched.place j)
    → IsLeft t history j ⊎ (WasRun t history j ⊎ WasCancelled t history j)
outcome_of t history j g (left none zero_s wait is) = inl (none, zero_s, (wait, is))
outcome_of t history j g (runs none one run is) =
    let worker = g.manned.all j run is in
    inr (inl (none, one, inl (worker.0, (run, (worker.1, is)))))
outcome_of t history j g (over none one is) = inr (inl (none, one, inr is))
outcome_of t history j g (removed one none is) = inr (inr (one, none, is))

pub outcome : (dim patience workers : ℕ) (history : List Deed) (j : ℕ) → IsHistory dim patience workers history → j < (team_of dim patience history).sched.next
    → IsLeft (team_of dim patience history) history j ⊎ (WasRun (team_of dim patience history) history j ⊎ WasCancelled (team_of dim patience history) history j)
outcome dim patience workers history j is submitted =
    outcome_of (team_of dim patience history) history j (good dim patience workers history is) ((known dim patience workers history is).fate j submitted)
