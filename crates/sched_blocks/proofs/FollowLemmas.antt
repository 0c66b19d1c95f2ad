-- The blocks in use after a call or a step of a decision.
use Rattle.std.proofs.Common.{◌≡◌, ◌≢◌, ℕ, ◌+◌, ◌^◌, ◌<◌, ◌⊎◌, inl, inr, min, Bool, true, false, Option, Some, None, refl, sym, ◌∙◌, ap, subst, arith}
use Rattle.std.specs.Prelude.{◌↔◌}
use Rattle.std.proofs.lemmas.Nat.{pow_pos}
use Rattle.std.proofs.lemmas.Bool.{cases_eq, true≢false}
use Rattle.cube_shape.specs.declared.region.Region.{Region}
use Rattle.cube_shape.specs.Region.{AreApart}
use Rattle.cube_shape.specs.Machine.{IsFree}
use Rattle.cube_shape.specs.Node.{IsInCube, IsNodeOf}
use Rattle.cube_shape.proofs.RegionLemmas.{IsNodeOf-one_node, IsNodeOf-one_region}
use Rattle.sched_law.specs.declared.job.TheConstants.{NEVER}
use Rattle.sched_law.specs.declared.job.SchedJob.{SchedJob}
use Rattle.sched_law.specs.declared.job.SchedWait.{SchedWait}
use Rattle.sched_law.specs.declared.job.SchedRun.{SchedRun}
use Rattle.sched_law.specs.declared.job.Place.{Place}
use Rattle.sched_law.specs.declared.job.Place.TheVariants.{Absent, Waiting, Running}
use Rattle.sched_law.specs.State.{Sched, IsVacant, Runs, Waits, at, block_of, cancel, end_after, finish, held, initial, occupy, pass, reserve, set, start, submit, vacate}
use Rattle.sched_law.specs.Law.{IsSafe}
use Rattle.sched_law.proofs.SetLemmas.{absent_runs, held_run, look, none_is_some, run_is, runs_waits, same, set_else, set_here}
use Rattle.sched_blocks.specs.Use.{AreOwnEnds, AreUsed, HasBlock, IsInUse}

-- a block is not apart from itself
not_apart : (a b : Region) → a ≡ b → AreApart a b → ⊥
not_apart a b is apart =
    let apart_self : AreApart a a = subst (AreApart a) (sym is) apart in
    let inside : a.base < a.base + 2 ^ a.dim = omega (arith, pow_pos a.dim) in
    apart_self a.base (omega arith, inside) (omega arith, inside)

-- ---- what is in use

module _ (w v : Sched) (used : ℕ → Bool) (uses : AreUsed w used) (dims : v.dim ≡ w.dim) where
  here : (u : ℕ) (a : Region) → IsNodeOf v.dim u a → IsNodeOf w.dim u a
  here u a named = subst (λ n. IsNodeOf n u a) dims named

  pub used_same : ((a : Region) → IsInUse v a ↔ IsInUse w a) → AreUsed v used
  used_same alike = record {
    each = λ u a named. (
      λ is. (alike a).1 ((uses.each u a (here u a named)).0 is),
      λ in_use. (uses.each u a (here u a named)).1 ((alike a).0 in_use),
    );
  }

  module _ (x : ℕ) (r : Region) (of_r : IsNodeOf w.dim x r) where
    -- one block more is in use
    pub used_more : ((a : Region) → IsInUse v a → (a ≡ r) ⊎ IsInUse w a) → ((a : Region) → IsInUse w a → IsInUse v a) → IsInUse v r → AreUsed v (set used x true)
    used_more from to in_use_now = record { each = λ u a named. (into u a (here u a named), back u a (here u a named)) }
      where
        into : (u : ℕ) (a : Region) → IsNodeOf w.dim u a → set used x true u ≡ true → IsInUse v a
        into u a named is = elim (cases_eq u x) [
          | inl at_x ↦
              let one : a ≡ r = IsNodeOf-one_region w.dim x a r (subst (λ y. IsNodeOf w.dim y a) at_x named) of_r in
              subst (IsInUse v) (sym one) in_use_now
          | inr other ↦ to a ((uses.each u a named).0 (sym (set_else used x true u other) ∙ is))
        ]

        back : (u : ℕ) (a : Region) → IsNodeOf w.dim u a → IsInUse v a → set used x true u ≡ true
        back u a named in_use = elim (cases_eq u x) [
          | inl at_x ↦ ap (set used x true) at_x ∙ set_here used x true
          | inr other ↦ elim (from a in_use) [
            | inl one ↦ absurd (other (IsNodeOf-one_node w.dim u x r (subst (IsNodeOf w.dim u) one named) of_r))
            | inr old ↦ set_else used x true u other ∙ (uses.each u a named).1 old
          ]
        ]

    -- one block less is
    pub used_less : ((a : Region) → IsInUse v a → IsInUse w a × ((a ≡ r) → ⊥)) → ((a : Region) → IsInUse w a → (a ≡ r) ⊎ IsInUse v a) → AreUsed v (set used x false)
    used_less from to = record { each = λ u a named. (into u a (here u a named), back u a (here u a named)) }
      where
        into : (u : ℕ) (a : Region) → IsNodeOf w.dim u a → set used x false u ≡ true → IsInUse v a
        into u a named is = elim (cases_eq u x) [
          | inl at_x ↦ absurd (true≢false (sym is ∙ ap (set used x false) at_x ∙ set_here used x false))
          | inr other ↦ elim (to a ((uses.each u a named).0 (sym (set_else used x false u other) ∙ is))) [
            | inl one ↦ absurd (other (IsNodeOf-one_node w.dim u x r (subst (IsNodeOf w.dim u) one named) of_r))
            | inr stays ↦ stays
          ]
        ]

        back : (u : ℕ) (a : Region) → IsNodeOf w.dim u a → IsInUse v a → set used x false u ≡ true
        back u a named in_use = elim (cases_eq u x) [
          | inl at_x ↦
              absurd ((from a in_use).1 (IsNodeOf-one_region w.dim x a r (subst (λ y. IsNodeOf w.dim y a) at_x named) of_r))
          | inr other ↦ set_else used x false u other ∙ (uses.each u a named).1 (from a in_use).0
        ]

-- a block is held by a job that runs
held_of : (w : Sched) (a : Region) → HasBlock (held w) a → (j : ℕ) × (run : SchedRun) × Runs w j run × (run.block ≡ a)
held_of w a (s, is) = let found = held_run w.place s a is in (s, found.0, found.1, found.2)

of_run : (w : Sched) (j : ℕ) (run : SchedRun) (a : Region) → Runs w j run → run.block ≡ a → HasBlock (held w) a
of_run w j run a runs is = (j, ap block_of runs ∙ ap (λ (x : Region). Some x) is)

-- ---- the same jobs run, and the same blocks are out of service

module _ (w v : Sched) (dims : v.dim ≡ w.dim) (into : (j : ℕ) (run : SchedRun) → Runs v j run → Runs w j run)
    (back : (j : ℕ) (run : SchedRun) → Runs w j run → Runs v j run) where
  pub own_kept : (own : ℕ → ℕ) → AreOwnEnds w own → AreOwnEnds v own
  own_kept own owns = record {
    runs = λ u j run runs named. owns.runs u j run (into j run runs) (subst (λ n. IsNodeOf n u run.block) dims named);
    none = λ u within. elim (owns.none u (subst (λ n. IsInCube n u) dims within)) [
      | inl none ↦ inl none
      | inr (j, run, runs, named) ↦ inr (j, run, back j run runs, subst (λ n. IsNodeOf n u run.block) (sym dims) named)
    ];
  }

  pub used_kept : (used : ℕ → Bool) → AreUsed w used → v.occupied ≡ w.occupied → AreUsed v used
  used_kept used uses out = used_same w v used uses dims (λ a. (to_w a, to_v a))
    where
      to_w : (a : Region) → IsInUse v a → IsInUse w a
      to_w a (inl has) = let found = held_of v a has in inl (of_run w found.0 found.1 a (into found.0 found.1 found.2) found.3)
      to_w a (inr (b, is)) = inr (b, ap (λ (f : ℕ → Option Region). f b) (sym out) ∙ is)

      to_v : (a : Region) → IsInUse w a → IsInUse v a
      to_v a (inl has) = let found = held_of w a has in inl (of_run v found.0 found.1 a (back found.0 found.1 found.2) found.3)
      to_v a (inr (b, is)) = inr (b, ap (λ (f : ℕ → Option Region). f b) out ∙ is)

-- a job that does not run goes to a place where it does not run
module _ (place : ℕ → Place) (j : ℕ) (q : Place) where
  pub runs_before : ((run : SchedRun) → q ≡ Running run → ⊥) → (i : ℕ) (run : SchedRun) → set place j q i ≡ Running run → (i ≢ j) × (place i ≡ Running run)
  runs_before not i run is = elim (look place j q i (Running run) is) [
    | inl (at_j, it) ↦ absurd (not run it)
    | inr (other, was) ↦ (other, was)
  ]

  pub runs_after : ((run : SchedRun) → place j ≡ Running run → ⊥) → (i : ℕ) (run : SchedRun) → place i ≡ Running run → set place j q i ≡ Running run
  runs_after not i run is = set_else place j q i (λ at_j. not run (ap place (sym at_j) ∙ is)) ∙ is

absent_not : (run : SchedRun) → Absent ≡ Running run → ⊥
absent_not run is = absurd (absent_runs is)

waiting_not : (wait : SchedWait) (run : SchedRun) → Waiting wait ≡ Running run → ⊥
waiting_not wait run is = runs_waits (sym is)

waits_not : (w : Sched) (j : ℕ) (wait : SchedWait) → Waits w j wait → (run : SchedRun) → w.place j ≡ Running run → ⊥
waits_not w j wait waits run is = runs_waits (sym is ∙ waits)

-- The job that starts in a block.
abbrev started : Sched → SchedJob → Region → SchedRun
started w job r = record { job = job; block = r; end = end_after w.now job.estimate }

-- ---- calls and steps that leave the blocks in use

module _ (w : Sched) (own : ℕ → ℕ) (owns : AreOwnEnds w own) where
  pub at_own : (t : ℕ) → AreOwnEnds (at t w) own
  at_own t = own_kept w (at t w) refl (λ j run is. is) (λ j run is. is) own owns

  pub reserve_own : (j : ℕ) (r : Region) → AreOwnEnds (reserve j r w) own
  reserve_own j r = own_kept w (reserve j r w) refl (λ j run is. is) (λ j run is. is) own owns

  pub submit_own : (job : SchedJob) → IsSafe w → AreOwnEnds (submit job w) own
  submit_own job safe =
      let q : Place = Waiting (record { job = job; passed = 0 }) in
      own_kept w (submit job w) refl (λ i run is. (runs_before w.place w.next q (waiting_not (record { job = job; passed = 0 })) i run is).1)
      (runs_after w.place w.next q (λ run is. absent_not run (sym (safe.absent w.next (omega arith)) ∙ is))) own owns

  pub cancel_own : (j : ℕ) (wait : SchedWait) → Waits w j wait → AreOwnEnds (cancel j w) own
  cancel_own j wait waits =
      own_kept w (cancel j w) refl (λ i run is. (runs_before w.place j Absent absent_not i run is).1)
      (runs_after w.place j Absent (waits_not w j wait waits)) own owns

  pub pass_own : (h : ℕ) (head : SchedWait) (k : ℕ) → Waits w h head → AreOwnEnds (pass h head k w) own
  pass_own h head k waits =
      let wait : SchedWait = record { job = head.job; passed = min (head.passed + 2 ^ k) NEVER } in
      own_kept w (pass h head k w) refl (λ i run is. (runs_before w.place h (Waiting wait) (waiting_not wait) i run is).1)
      (runs_after w.place h (Waiting wait) (waits_not w h head waits)) own owns

  pub occupy_own : (r : Region) → AreOwnEnds (occupy r w) own
  occupy_own r = own_kept w (occupy r w) refl (λ j run is. is) (λ j run is. is) own owns

  pub vacate_own : (r : Region) → AreOwnEnds (vacate r w) own
  vacate_own r = own_kept w (vacate r w) refl (λ j run is. is) (λ j run is. is) own owns

  -- a job starts in a free block
  module _ (j x : ℕ) (wait : SchedWait) (job : SchedJob) (r : Region) (waits : Waits w j wait) (free : IsFree (held w) r) (of_r : IsNodeOf w.dim x r) where
    pub start_own : AreOwnEnds (start j job r w) (set own x (end_after w.now job.estimate))
    start_own = record { runs = runs; none = none }
      where
        runs : (u i : ℕ) (run : SchedRun) → set w.place j (Running (started w job r)) i ≡ Running run → IsNodeOf w.dim u run.block → set own x (end_after w.now job.estimate) u ≡ run.end
        runs u i run is named = elim (look w.place j (Running (started w job r)) i (Running run) is) [
          | inl (at_j, it) ↦
              let block_is : run.block ≡ r = sym (ap (λ (y : SchedRun). y.block) (run_is it)) in
              let node_is : u ≡ x = IsNodeOf-one_node w.dim u x r (subst (IsNodeOf w.dim u) block_is named) of_r in
              ap (set own x (end_after w.now job.estimate)) node_is ∙ set_here own x (end_after w.now job.estimate) ∙ ap (λ (y : SchedRun). y.end) (run_is it)
          | inr (other, was) ↦
              let not_x : u ≢ x = λ at_x. not_apart run.block r (IsNodeOf-one_region w.dim x run.block r (subst (λ y. IsNodeOf w.dim y run.block) at_x named) of_r) (free i run.block (ap block_of was)) in
              set_else own x (end_after w.now job.estimate) u not_x ∙ owns.runs u i run was named
        ]

        none : (u : ℕ) → IsInCube w.dim u → (set own x (end_after w.now job.estimate) u ≡ 0) ⊎ ((i : ℕ) × (run : SchedRun) × Runs (start j job r w) i run × IsNodeOf w.dim u run.block)
        none u within = elim (cases_eq u x) [
          | inl at_x ↦
              inr (j, started w job r, set_here w.place j (Running (started w job r)), subst (λ y. IsNodeOf w.dim y r) (sym at_x) of_r)
          | inr other ↦ elim (owns.none u within) [
            | inl zero_end ↦ inl (set_else own x (end_after w.now job.estimate) u other ∙ zero_end)
            | inr (i, run, was, named) ↦ inr (i, run, runs_after w.place j (Running (started w job r)) (waits_not w j wait waits) i run was, named)
          ]
        ]

  -- a job ends
  module _ (j x : ℕ) (run : SchedRun) (safe : IsSafe w) (is_run : Runs w j run) (of_r : IsNodeOf w.dim x run.block) where
    pub finish_own : AreOwnEnds (finish j w) (set own x 0)
    finish_own = record { runs = runs; none = none }
      where
        runs : (u i : ℕ) (other : SchedRun) → Runs (finish j w) i other → IsNodeOf w.dim u other.block → set own x 0 u ≡ other.end
        runs u i other is named =
            let was = runs_before w.place j Absent absent_not i other is in
            let not_x : u ≢ x = λ at_x. not_apart other.block run.block (IsNodeOf-one_region w.dim x other.block run.block (subst (λ y. IsNodeOf w.dim y other.block) at_x named) of_r)
            (safe.lawful.apart i j other.block run.block was.0 (ap block_of was.1) (ap block_of is_run)) in
            set_else own x 0 u not_x ∙ owns.runs u i other was.1 named

        none : (u : ℕ) → IsInCube w.dim u → (set own x 0 u ≡ 0) ⊎ ((i : ℕ) × (other : SchedRun) × Runs (finish j w) i other × IsNodeOf w.dim u other.block)
        none u within = elim (cases_eq u x) [
          | inl at_x ↦ inl (ap (set own x 0) at_x ∙ set_here own x 0)
          | inr not_x ↦ elim (owns.none u within) [
            | inl zero_end ↦ inl (set_else own x 0 u not_x ∙ zero_end)
            | inr (i, other, was, named) ↦ elim (cases_eq i j) [
              | inl at_j ↦
                  let one : other ≡ run = run_is (sym was ∙ ap w.place at_j ∙ is_run) in
                  absurd (not_x (IsNodeOf-one_node w.dim u x run.block (subst (λ (y : SchedRun). IsNodeOf w.dim u y.block) one named) of_r))
              | inr not_j ↦ inr (i, other, set_else w.place j Absent i not_j ∙ was, named)
            ]
          ]
        ]

pub initial_own : (n patience : ℕ) → AreOwnEnds (initial n patience) (λ u. 0)
initial_own n patience = record {
  runs = λ u j run runs named. absurd (absent_runs runs);
  none = λ u within. inl refl;
}

module _ (w : Sched) (used : ℕ → Bool) (uses : AreUsed w used) where
  pub at_used : (t : ℕ) → AreUsed (at t w) used
  at_used t = used_kept w (at t w) refl (λ j run is. is) (λ j run is. is) used uses refl

  pub reserve_used : (j : ℕ) (r : Region) → AreUsed (reserve j r w) used
  reserve_used j r = used_kept w (reserve j r w) refl (λ j run is. is) (λ j run is. is) used uses refl

  pub submit_used : (job : SchedJob) → IsSafe w → AreUsed (submit job w) used
  submit_used job safe =
      let q : Place = Waiting (record { job = job; passed = 0 }) in
      used_kept w (submit job w) refl (λ i run is. (runs_before w.place w.next q (waiting_not (record { job = job; passed = 0 })) i run is).1)
      (runs_after w.place w.next q (λ run is. absent_not run (sym (safe.absent w.next (omega arith)) ∙ is))) used uses refl

  pub cancel_used : (j : ℕ) (wait : SchedWait) → Waits w j wait → AreUsed (cancel j w) used
  cancel_used j wait waits =
      used_kept w (cancel j w) refl (λ i run is. (runs_before w.place j Absent absent_not i run is).1)
      (runs_after w.place j Absent (waits_not w j wait waits)) used uses refl

  pub pass_used : (h : ℕ) (head : SchedWait) (k : ℕ) → Waits w h head → AreUsed (pass h head k w) used
  pass_used h head k waits =
      let wait : SchedWait = record { job = head.job; passed = min (head.passed + 2 ^ k) NEVER } in
      used_kept w (pass h head k w) refl (λ i run is. (runs_before w.place h (Waiting wait) (waiting_not wait) i run is).1)
      (runs_after w.place h (Waiting wait) (waits_not w h head waits)) used uses refl

  pub start_used : (j x : ℕ) (wait : SchedWait) (job : SchedJob) (r : Region) → Waits w j wait → IsNodeOf w.dim x r → AreUsed (start j job r w) (set used x true)
  start_used j x wait job r waits of_r = used_more w (start j job r w) used uses refl x r of_r from to (inl (j, ap block_of (set_here w.place j (Running (started w job r)))))
    where
      from : (a : Region) → IsInUse (start j job r w) a → (a ≡ r) ⊎ IsInUse w a
      from a (inr out) = inr (inr out)
      from a (inl has) =
          let found = held_of (start j job r w) a has in
          elim (look w.place j (Running (started w job r)) found.0 (Running found.1) found.2) [
            | inl (at_j, it) ↦ inl (sym found.3 ∙ sym (ap (λ (y : SchedRun). y.block) (run_is it)))
            | inr (other, was) ↦ inr (inl (of_run w found.0 found.1 a was found.3))
          ]

      to : (a : Region) → IsInUse w a → IsInUse (start j job r w) a
      to a (inr out) = inr out
      to a (inl has) =
          let found = held_of w a has in
          inl (of_run (start j job r w) found.0 found.1 a (runs_after w.place j (Running (started w job r)) (waits_not w j wait waits) found.0 found.1 found.2) found.3)

  pub finish_used : (j x : ℕ) (run : SchedRun) → IsSafe w → Runs w j run → IsNodeOf w.dim x run.block → AreUsed (finish j w) (set used x false)
  finish_used j x run safe is_run of_r = used_less w (finish j w) used uses refl x run.block of_r from to
    where
      from : (a : Region) → IsInUse (finish j w) a → IsInUse w a × ((a ≡ run.block) → ⊥)
      from a (inr (b, is)) = (inr (b, is), λ one. not_apart run.block a (sym one) (safe.apart j b run.block a (ap block_of is_run) is))
      from a (inl has) =
          let found = held_of (finish j w) a has in
          let was = runs_before w.place j Absent absent_not found.0 found.1 found.2 in
          let old : held w found.0 ≡ Some a = ap block_of was.1 ∙ ap (λ (x : Region). Some x) found.3 in
          (inl (found.0, old), λ one. not_apart a run.block one (safe.lawful.apart found.0 j a run.block was.0 old (ap block_of is_run)))

      to : (a : Region) → IsInUse w a → (a ≡ run.block) ⊎ IsInUse (finish j w) a
      to a (inr out) = inr (inr out)
      to a (inl has) =
          let found = held_of w a has in
          elim (cases_eq found.0 j) [
            | inl at_j ↦
                let one : found.1 ≡ run = run_is (sym found.2 ∙ ap w.place at_j ∙ is_run) in
                inl (sym found.3 ∙ ap (λ (y : SchedRun). y.block) one)
            | inr other ↦ inr (inl (of_run (finish j w) found.0 found.1 a (set_else w.place j Absent found.0 other ∙ found.2) found.3))
          ]

  pub occupy_used : (x : ℕ) (r : Region) → IsSafe w → IsVacant w r → IsNodeOf w.dim x r → AreUsed (occupy r w) (set used x true)
  occupy_used x r safe vacant of_r = used_more w (occupy r w) used uses refl x r of_r from to (inr (r.base, set_here w.occupied r.base (Some r)))
    where
      from : (a : Region) → IsInUse (occupy r w) a → (a ≡ r) ⊎ IsInUse w a
      from a (inl has) = inr (inl has)
      from a (inr (b, is)) = elim (look w.occupied r.base (Some r) b (Some a) is) [
        | inl (at_base, it) ↦ inl (sym (same it))
        | inr (other, was) ↦ inr (inr (b, was))
      ]

      -- another block cannot begin where this one does
      elsewhere : (b : ℕ) (a : Region) → w.occupied b ≡ Some a → b ≢ r.base
      elsewhere b a is at_base =
          let begins : a.base ≡ r.base = safe.base b a is ∙ at_base in
          vacant.1 b a is r.base (omega (arith, begins), omega (arith, begins, pow_pos a.dim)) (omega arith, omega (arith, pow_pos r.dim))

      to : (a : Region) → IsInUse w a → IsInUse (occupy r w) a
      to a (inl has) = inl has
      to a (inr (b, is)) = inr (b, set_else w.occupied r.base (Some r) b (elsewhere b a is) ∙ is)

  pub vacate_used : (x : ℕ) (r : Region) → IsSafe w → w.occupied r.base ≡ Some r → IsNodeOf w.dim x r → AreUsed (vacate r w) (set used x false)
  vacate_used x r safe out of_r = used_less w (vacate r w) used uses refl x r of_r from to
    where
      from : (a : Region) → IsInUse (vacate r w) a → IsInUse w a × ((a ≡ r) → ⊥)
      from a (inl (s, is)) = (inl (s, is), λ one. not_apart a r one (safe.apart s r.base a r is out))
      from a (inr (b, is)) = elim (look w.occupied r.base None b (Some a) is) [
        | inl (at_base, it) ↦ absurd (none_is_some it)
        | inr (other, was) ↦
            (inr (b, was), λ one. not_apart a r one (safe.out.apart b r.base a r other was out))
      ]

      to : (a : Region) → IsInUse w a → (a ≡ r) ⊎ IsInUse (vacate r w) a
      to a (inl has) = inr (inl has)
      to a (inr (b, is)) = elim (cases_eq b r.base) [
        | inl at_base ↦ inl (same (sym is ∙ ap w.occupied at_base ∙ out))
        | inr other ↦ inr (inr (b, set_else w.occupied r.base None b other ∙ is))
      ]

pub initial_used : (n patience : ℕ) → AreUsed (initial n patience) (λ u. false)
initial_used n patience = record { each = λ u a named. (λ is. absurd (true≢false (sym is)), λ in_use. absurd (nothing a in_use)) }
  where
    nothing : (a : Region) → IsInUse (initial n patience) a → ⊥
    nothing a (inl (s, is)) = none_is_some is
    nothing a (inr (b, is)) = none_is_some is

-- what is vacant stays so when a job passes the head
pub pass_vacant : (w : Sched) (h : ℕ) (head : SchedWait) (k : ℕ) (r : Region) → IsVacant w r → IsVacant (pass h head k w) r
pass_vacant w h head k r vacant = (free, vacant.1)
  where
    free : IsFree (held (pass h head k w)) r
    free t a is =
        let found = held_run (pass h head k w).place t a is in
        let was = runs_before w.place h (Waiting (record { job = head.job; passed = min (head.passed + 2 ^ k) NEVER })) (waiting_not (record { job = head.job; passed = min (head.passed + 2 ^ k) NEVER })) t found.0 found.1 in
        vacant.0 t a (ap block_of was.1 ∙ ap (λ (x : Region). Some x) found.2)
