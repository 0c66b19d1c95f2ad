-- The running jobs asked for at most as many processors as there are.
use Rattle.std.proofs.Common.{◌≡◌, ℕ, zero, suc, ◌+◌, ◌^◌, ◌<◌, ◌≤◌, ◌⊎◌, inl, inr, refl, sym, ◌∙◌, ap, subst, arith}
use Rattle.std.proofs.lemmas.Bool.{cases_eq}
use Rattle.std.proofs.Math.Pow.{pow_mono}
use Rattle.cube_shape.specs.declared.limits.TheConstants.{MAX_BITMAP_DIM}
use Rattle.cube_shape.specs.Region.{Covers}
use Rattle.cube_shape.proofs.RegionLemmas.{IsAligned-end}
use Rattle.alloc_bits.specs.Count.{IsCount}
use Rattle.fit_tree.proofs.CountLemmas.{count_adds, count_alike, count_bound, count_changes, count_none}
use Rattle.sched_law.specs.declared.job.Place.{Place}
use Rattle.sched_law.specs.declared.job.Place.TheVariants.{Absent, Waiting, Running}
use Rattle.sched_law.specs.declared.job.SchedRun.{SchedRun}
use Rattle.sched_law.specs.State.{Sched, Runs, block_of}
use Rattle.sched_law.specs.Law.{IsSafe}
use Rattle.sched_law.proofs.SetLemmas.{absent_runs, run_is, runs_waits}
use Rattle.sched_jobs.specs.Sums.{asked, sum_below, used_by}

-- a row of processors
between : (base size n : ℕ) → base + size ≤ n → IsCount (λ p. (base ≤ p) × (p < base + size)) n size
between base zero n fits =
    count_none (λ p. (base ≤ p) × (p < base + 0)) n (λ p less is. (let low : base ≤ p = is.0 in let high : p < base + 0 = is.1 in omega (arith, low, high)))
between base (suc size) n fits =
    count_changes (λ p. (base ≤ p) × (p < base + size)) (λ p. (base ≤ p) × (p < base + suc size)) (base + size) 0 1
    (inr (refl, λ is. (let high : base + size < base + size = is.1 in omega (arith, high)))) (inl (refl, (omega arith, omega arith)))
    n size (suc size) (λ p less other. (
      (λ is. (let high : p < base + size = is.1 in (is.0, omega (arith, high)))),
      (λ is. (let high : p < base + suc size = is.1 in (is.0, omega (arith, high, other)))),
    ))
    (omega (arith, fits)) (omega arith) (between base size n (omega (arith, fits)))

module _ (w : Sched) (safe : IsSafe w) where
  -- a processor of a running job below a number
  abbrev HeldBelow : ℕ → ℕ → Type 0
  HeldBelow n p = (j : ℕ) × (j < n) × ((run : SchedRun) × Runs w j run × Covers run.block p)

  -- how many there are, and that the jobs asked for no more
  abbrev Bounds : ℕ → ℕ → Type 0
  Bounds n sum = (c : ℕ) × IsCount (HeldBelow n) (2 ^ w.dim) c × (sum ≤ c)

  none_more : (n sum : ℕ) → ((run : SchedRun) → Runs w n run → ⊥) → Bounds n sum → Bounds (suc n) (0 + sum)
  none_more n sum none (c, counted, few) = (
    c,
    count_alike (HeldBelow n) (HeldBelow (suc n)) (2 ^ w.dim) c (λ p less. (
      (λ has. (let below : has.0 < n = has.1 in (has.0, omega (arith, below), has.2))),
      (λ has. (has.0, lower p has, has.2)),
    )) counted,
    omega (arith, few),
  )
    where
      lower : (p : ℕ) (has : HeldBelow (suc n) p) → has.0 < n
      lower p has = elim (cases_eq has.0 n) [
        | inl same ↦ absurd (none has.2.0 (ap w.place (sym same) ∙ has.2.1))
        | inr other ↦ let below : has.0 < suc n = has.1 in omega (arith, below, other)
      ]

  one_more : (n sum : ℕ) (run : SchedRun) → Runs w n run → Bounds n sum → Bounds (suc n) (run.job.processors + sum)
  one_more n sum run is (c, counted, few) = (
    c + 2 ^ run.block.dim,
    count_adds (HeldBelow n) (Covers run.block) (HeldBelow (suc n)) (2 ^ w.dim) c (2 ^ run.block.dim) into back apart counted
        (between run.block.base (2 ^ run.block.dim) (2 ^ w.dim) (IsAligned-end w.dim run.block (safe.lawful.aligned n run.block (ap block_of is)))),
    omega (arith, few, enough),
  )
    where
      enough : run.job.processors ≤ 2 ^ run.block.dim
      enough = subst (λ (d : ℕ). run.job.processors ≤ 2 ^ d) (sym (safe.sized n run is)) (safe.running n run is).enough

      into : (p : ℕ) → p < 2 ^ w.dim → HeldBelow (suc n) p → HeldBelow n p ⊎ Covers run.block p
      into p less has = elim (cases_eq has.0 n) [
        | inl same ↦ inr (subst (λ (r : SchedRun). Covers r.block p) (run_is (sym has.2.1 ∙ ap w.place same ∙ is)) has.2.2)
        | inr other ↦ let below : has.0 < suc n = has.1 in inl (has.0, omega (arith, below, other), has.2)
      ]

      back : (p : ℕ) → p < 2 ^ w.dim → HeldBelow n p ⊎ Covers run.block p → HeldBelow (suc n) p
      back p less (inl has) = let below : has.0 < n = has.1 in (has.0, omega (arith, below), has.2)
      back p less (inr covers) = (n, omega arith, (run, is, covers))

      apart : (p : ℕ) → p < 2 ^ w.dim → HeldBelow n p → Covers run.block p → ⊥
      apart p less has covers =
          safe.lawful.apart has.0 n has.2.0.block run.block (λ same. (let below : has.0 < n = has.1 in omega (arith, same, below))) (ap block_of has.2.1) (ap block_of is) p has.2.2 covers

  step : (n sum : ℕ) (p : Place) → w.place n ≡ p → Bounds n sum → Bounds (suc n) (used_by p + sum)
  step n sum Absent is bounds = none_more n sum (λ run runs. absent_runs (sym is ∙ runs)) bounds
  step n sum (Waiting wait) is bounds = none_more n sum (λ run runs. runs_waits (sym runs ∙ is)) bounds
  step n sum (Running run) is bounds = one_more n sum run is bounds

  all_below : (n : ℕ) → Bounds n (sum_below used_by w.place n)
  all_below zero = (0, count_none (HeldBelow 0) (2 ^ w.dim) (λ p less has. (let below : has.0 < 0 = has.1 in omega (arith, below))), omega arith)
  all_below (suc n) = step n (sum_below used_by w.place n) (w.place n) refl (all_below n)

  pub asked_few : w.dim ≤ MAX_BITMAP_DIM → asked w ≤ 2 ^ MAX_BITMAP_DIM
  asked_few limit =
      let all = all_below w.next in
      let most = count_bound (HeldBelow w.next) (2 ^ w.dim) all.0 all.1 in
      let size : 2 ^ w.dim ≤ 2 ^ MAX_BITMAP_DIM = pow_mono limit in
      let sum = all.2 in
      omega (arith, most, size, sum)
