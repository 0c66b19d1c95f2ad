-- Each deed leads from a safe state in which each running job has a worker to another one.
use Rattle.std.proofs.Common.{◌≡◌, ◌≢◌, ℕ, ◌⊎◌, inl, inr, List, [], ◌∷◌, Option, Some, None, refl, sym, ◌∙◌, ap, subst, arith}
use Rattle.std.proofs.lemmas.Bool.{cases_eq}
use Rattle.sched_law.specs.declared.job.SchedRun.{SchedRun}
use Rattle.sched_law.specs.declared.job.Place.{Place}
use Rattle.sched_law.specs.declared.job.Place.TheVariants.{Absent, Waiting, Running}
use Rattle.sched_law.specs.State.{Sched, Runs, at, cancel, finish, set, submit}
use Rattle.sched_law.specs.Policy.{Decides}
use Rattle.sched_law.specs.Law.{IsSafe}
use Rattle.sched_law.proofs.SetLemmas.{absent_runs, look, runs_waits, set_else, set_here}
use Rattle.sched_law.proofs.SafeLemmas.{at_safe, cancel_safe, decide_safe, finish_safe, initial_safe, occupy_safe, submit_safe, vacate_safe}
use Rattle.sched_law.specs.Team.{Deed, Does, IsHistory, May, Team, after, end_of, opened, team_of}
use Rattle.sched_law.specs.Team.Deed.{submits, cancels, occupies, vacates, asks, leaves, ends, starts, settles, closes}
use Rattle.sched_law.specs.Team.Does.{away, waits, has}
use Rattle.sched_law.specs.Outcome.{IsManned}
use Rattle.sched_law.proofs.DecideLemmas.{decided_stays, started_runs, started_waited}

-- ---- what a worker does

pub away_has : {j : ℕ} → away ≡ has j → ⊥
away_has e = cc

pub waits_has : {j : ℕ} → waits ≡ has j → ⊥
waits_has e = cc

pub has_is : {i j : ℕ} → has i ≡ has j → i ≡ j
has_is e = cc

pub some_is : {i j : ℕ} → ◌≡◌ {A = Option ℕ} (Some i) (Some j) → i ≡ j
some_is e = cc

pub none_some : {j : ℕ} → ◌≡◌ {A = Option ℕ} None (Some j) → ⊥
none_some e = cc

-- a value that changes is not `y` before or after
module _ {A : Type 0} (f : ℕ → A) (u : ℕ) (x old y : A) (was : f u ≡ old) (not_old : old ≡ y → ⊥) (not_new : x ≡ y → ⊥) (t : ℕ) where
  pub kept_back : set f u x t ≡ y → f t ≡ y
  kept_back is = elim (look f u x t y is) [
    | inl (_, new) ↦ absurd (not_new new)
    | inr (_, before) ↦ before
  ]

  pub kept_on : f t ≡ y → set f u x t ≡ y
  kept_on is = set_else f u x t (λ here. not_old (sym was ∙ ap f (sym here) ∙ is)) ∙ is

-- ---- the same jobs run and the workers have the same jobs

module _ (s t : Team) (k : IsManned s)
    (has_back : (u j : ℕ) → t.does u ≡ has j → s.does u ≡ has j) (has_on : (u j : ℕ) → s.does u ≡ has j → t.does u ≡ has j)
    (runs_back : (j : ℕ) (run : SchedRun) → Runs t.sched j run → Runs s.sched j run)
    (runs_on : (j : ℕ) (run : SchedRun) → Runs s.sched j run → Runs t.sched j run) where
  pub manned_same : IsManned t
  manned_same = record {
    runs = λ u j is. let found = k.runs u j (has_back u j is) in (found.0, runs_on j found.0 found.1);
    apart = λ u v j is_u is_v. k.apart u v j (has_back u j is_u) (has_back v j is_v);
    all = λ j run is. let found = k.all j run (runs_back j run is) in (found.0, has_on found.0 j found.1);
  }

-- a job that did not run changes its place, and does not run after that
moved_manned : (t : Team) (j : ℕ) (old new : Place) (w : Sched) → IsManned t → w.place ≡ set t.sched.place j new → t.sched.place j ≡ old
    → ((run : SchedRun) → old ≡ Running run → ⊥) → ((run : SchedRun) → new ≡ Running run → ⊥) → IsManned (record t { sched = w })
moved_manned t j old new w k places was not_old not_new =
    manned_same t (record t { sched = w }) k (λ u i is. is) (λ u i is. is)
    (λ i run is. kept_back t.sched.place j new old (Running run) was (not_old run) (not_new run) i (ap (λ (p : ℕ → Place). p i) (sym places) ∙ is))
    (λ i run is. ap (λ (p : ℕ → Place). p i) places ∙ kept_on t.sched.place j new old (Running run) was (not_old run) (not_new run) i is)

-- a worker without a job does something else without one
idle_manned : (t : Team) (u : ℕ) (old new : Does) → IsManned t → t.does u ≡ old
    → ((j : ℕ) → old ≡ has j → ⊥) → ((j : ℕ) → new ≡ has j → ⊥) → IsManned (record t { does = set t.does u new })
idle_manned t u old new k was not_old not_new =
    manned_same t (record t { does = set t.does u new }) k
    (λ v j is. kept_back t.does u new old (has j) was (not_old j) (not_new j) v is)
    (λ v j is. kept_on t.does u new old (has j) was (not_old j) (not_new j) v is)
    (λ j run is. is) (λ j run is. is)

-- ---- a worker's job is over

module _ (t : Team) (k : IsManned t) (u j : ℕ) (has_j : t.does u ≡ has j) where
  abbrev ended : Team
  ended = record t { sched = finish j t.sched; does = set t.does u away }

  ended_has : (v i : ℕ) → ended.does v ≡ has i → (v ≢ u) × (t.does v ≡ has i)
  ended_has v i is = elim (look t.does u away v (has i) is) [
    | inl (_, new) ↦ absurd (away_has new)
    | inr old ↦ old
  ]

  pub end_manned : IsManned ended
  end_manned = record {
    runs = λ v i is.
        let old = ended_has v i is in
        let found = k.runs v i old.1 in
        (found.0, set_else t.sched.place j Absent i (λ here. old.0 (k.apart v u j (old.1 ∙ ap has here) has_j)) ∙ found.1);
    apart = λ v x i is_v is_x. k.apart v x i (ended_has v i is_v).1 (ended_has x i is_x).1;
    all = λ i run is. elim (look t.sched.place j Absent i (Running run) is) [
      | inl (_, new) ↦ absurd (absent_runs new)
      | inr (other, was) ↦
          let found = k.all i run was in
          (found.0, set_else t.does u away found.0 (λ here. other (has_is (sym found.1 ∙ ap t.does here ∙ has_j))) ∙ found.1)
    ];
  }

-- ---- a worker gets a job

module _ (t : Team) (k : IsManned t) (now u j : ℕ) (v : Sched) (idle : t.does u ≡ waits) (decides : Decides (at now t.sched) (Some j) v) where
  abbrev begun : Team
  begun = record t { sched = v; does = set t.does u (has j) }

  had_not : (x : ℕ) → t.does x ≡ has j → ⊥
  had_not x is =
      let runs = k.runs x j is in
      let waited = started_waited (at now t.sched) v j decides in
      runs_waits (sym runs.1 ∙ waited.1)

  begun_has : (x i : ℕ) → begun.does x ≡ has i → ((x ≡ u) × (j ≡ i)) ⊎ (t.does x ≡ has i)
  begun_has x i is = elim (look t.does u (has j) x (has i) is) [
    | inl (here, new) ↦ inl (here, has_is new)
    | inr (_, old) ↦ inr old
  ]

  stays_runs : (i : ℕ) (run : SchedRun) → Runs t.sched i run → Runs v i run
  stays_runs i run is =
      (decided_stays (at now t.sched) v (Some j) decides i (λ starts.
      let waited = started_waited (at now t.sched) v j decides in
      runs_waits (sym is ∙ ap t.sched.place (sym (some_is starts)) ∙ waited.1))).runs run is

  pub start_manned : IsManned begun
  start_manned = record {
    runs = λ x i is. elim (begun_has x i is) [
      | inl (_, it) ↦ subst (λ n. (run : SchedRun) × Runs v n run) it (started_runs (at now t.sched) v j decides)
      | inr old ↦ let found = k.runs x i old in (found.0, stays_runs i found.0 found.1)
    ];
    apart = λ x y i is_x is_y. elim (begun_has x i is_x) [
      | inl (at_x, it) ↦ elim (begun_has y i is_y) [
        | inl (at_y, _) ↦ at_x ∙ sym at_y
        | inr old ↦ absurd (had_not y (old ∙ ap has (sym it)))
      ]
      | inr old_x ↦ elim (begun_has y i is_y) [
        | inl (_, it) ↦ absurd (had_not x (old_x ∙ ap has (sym it)))
        | inr old_y ↦ k.apart x y i old_x old_y
      ]
    ];
    all = λ i run is. elim (cases_eq i j) [
      | inl here ↦ (u, set_here t.does u (has j) ∙ ap has (sym here))
      | inr other ↦
          let was = (decided_stays (at now t.sched) v (Some j) decides i (λ starts. other (sym (some_is starts)))).ran run is in
          let found = k.all i run was in
          (found.0, set_else t.does u (has j) found.0 (λ here. waits_has (sym idle ∙ ap t.does (sym here) ∙ found.1)) ∙ found.1)
    ];
  }

-- ---- each deed

pub record IsGood (t : Team) : Type 0 where
  pub safe : IsSafe t.sched
  pub manned : IsManned t

pub good_end : (t : Team) (u j : ℕ) → IsGood t → t.does u ≡ has j → IsGood (end_of t u (t.does u))
good_end t u j k is =
    let runs = k.manned.runs u j is in
    subst (λ d. IsGood (end_of t u d)) (sym is)
    (record { safe = finish_safe t.sched j runs.0 k.safe runs.1; manned = end_manned t k.manned u j is })

pub good_after : (workers : ℕ) (t : Team) (d : Deed) → IsGood t → May workers t d → IsGood (after t d)
good_after workers t (submits job) k may = record {
  safe = submit_safe t.sched job k.safe may.1;
  manned = moved_manned t t.sched.next Absent (Waiting (record { job = job; passed = 0 })) (submit job t.sched) k.manned refl
      (k.safe.absent t.sched.next (omega arith)) (λ run e. absent_runs e) (λ run e. runs_waits (sym e));
}
good_after workers t (cancels j) k (wait, is) = record {
  safe = cancel_safe t.sched j k.safe;
  manned = moved_manned t j (Waiting wait) Absent (cancel j t.sched) k.manned refl is (λ run e. runs_waits (sym e)) (λ run e. absent_runs e);
}
good_after workers t (occupies r) k may = record {
  safe = occupy_safe t.sched r k.safe may.0 may.1;
  manned = manned_same t (after t (occupies r)) k.manned (λ u j is. is) (λ u j is. is) (λ j run is. is) (λ j run is. is);
}
good_after workers t (vacates r) k may = record {
  safe = vacate_safe t.sched r k.safe;
  manned = manned_same t (after t (vacates r)) k.manned (λ u j is. is) (λ u j is. is) (λ j run is. is) (λ j run is. is);
}
good_after workers t (asks u) k may = record {
  safe = k.safe;
  manned = idle_manned t u away waits k.manned may.1 (λ j e. away_has e) (λ j e. waits_has e);
}
good_after workers t (leaves u) k may = record {
  safe = k.safe;
  manned = idle_manned t u waits away k.manned may (λ j e. waits_has e) (λ j e. away_has e);
}
good_after workers t (ends u) k (j, is) = good_end t u j k is
good_after workers t (starts now u j v) k may = record {
  safe = decide_safe (at now t.sched) v (Some j) (at_safe t.sched now k.safe) may.2;
  manned = start_manned t k.manned now u j v may.0 may.2;
}
good_after workers t (settles now v) k may = record {
  safe = decide_safe (at now t.sched) v None (at_safe t.sched now k.safe) may;
  manned =
      let stays = decided_stays (at now t.sched) v None may in
      manned_same t (after t (settles now v)) k.manned (λ u j is. is) (λ u j is. is)
      (λ j run is. (stays j none_some).ran run is) (λ j run is. (stays j none_some).runs run is);
}
good_after workers t closes k may = record {
  safe = k.safe;
  manned = manned_same t (after t closes) k.manned (λ u j is. is) (λ u j is. is) (λ j run is. is) (λ j run is. is);
}

pub good_opened : (dim patience : ℕ) → IsGood (opened dim patience)
good_opened dim patience = record {
  safe = initial_safe dim patience;
  manned = record {
    runs = λ u j is. absurd (away_has is);
    apart = λ u v j is _. absurd (away_has is);
    all = λ j run is. absurd (absent_runs is);
  };
}

pub good : (dim patience workers : ℕ) (history : List Deed) → IsHistory dim patience workers history → IsGood (team_of dim patience history)
good dim patience workers [] may = good_opened dim patience
good dim patience workers (d ∷ history) (may, before) =
    good_after workers (team_of dim patience history) d (good dim patience workers history before) may
