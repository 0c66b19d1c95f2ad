-- There is a block to reserve, and where no end is known, its latest end is not.
use Rattle.std.proofs.Common.{◌≡◌, ℕ, zero, suc, ◌+◌, ◌-◌, ◌*◌, ◌^◌, ◌<◌, ◌≤◌, ◌⊎◌, inl, inr, Option, Some, None, refl, sym, ◌∙◌, ap, subst, arith}
use Rattle.std.proofs.lemmas.Bool.{cases_eq, cases_lt}
use Rattle.std.proofs.lemmas.Nat.{pow_pos}
use Rattle.cube_shape.specs.declared.region.Region.{Region}
use Rattle.cube_shape.specs.Region.{AreApart, IsAligned, block}
use Rattle.cube_shape.specs.Machine.{Holdings, IsFree}
use Rattle.cube_shape.proofs.RegionLemmas.{IsAligned-block, IsAligned-end, IsNodeOf-of_aligned}
use Rattle.fit_tree.specs.Halves.{lower_half, upper_half}
use Rattle.sched_blocks.specs.Ends.{entry_of}
use Rattle.sched_blocks.specs.Busy.{IsEarlier}
use Rattle.sched_law.specs.declared.job.TheConstants.{NEVER}
use Rattle.sched_law.specs.declared.job.SchedRun.{SchedRun}
use Rattle.sched_law.specs.State.{Sched, IsUsable, IsVacant, Runs, block_of, held}
use Rattle.sched_law.specs.Policy.{Chooses, HasNone, HasUsable, HasUsableIn, IsBetter, IsLatest}
use Rattle.sched_law.specs.Policy as policy
use Rattle.sched_law.specs.Law.{IsSafe}
use Rattle.sched_law.proofs.SetLemmas.{held_run, none_is_some, same}
use Rattle.sched_law.proofs.BlockLemmas.{lower_aligned, no_block, upper_aligned}
use Rattle.sched_law.proofs.PolicyLemmas.{chosen, usable_in_machine}
use Rattle.sched_blocks.specs.Layout.{Layout}
use Rattle.sched_blocks.specs.Shows.{Shows}
use Rattle.sched_blocks.proofs.PartLemmas.{GoesTo, better_is, goes_high, goes_low}

-- ---- searches

-- the fact holds, or it does not
abbrev IsDecided : Type 0 → Type 0
IsDecided P = P ⊎ (P → ⊥)

-- of the numbers below a bound, one is so, or none is
find_below : (P : ℕ → Type 0) → ((i : ℕ) → IsDecided (P i)) → (n : ℕ) → ((i : ℕ) × (i < n) × P i) ⊎ ((i : ℕ) → i < n → P i → ⊥)
find_below P test zero = inr (λ i less _. omega (arith, less))
find_below P test (suc n) = elim (test n) [
  | inl here ↦ inl (n, omega arith, here)
  | inr lacks ↦ elim (find_below P test n) [
    | inl found ↦ inl (found.0, omega (arith, found.1), found.2)
    | inr none ↦ inr (λ i less is. elim (cases_eq i n) [
      | inl at ↦ lacks (subst P at is)
      | inr other ↦ none i (omega (arith, less, other)) is
    ])
  ]
]

-- two blocks overlap or not
apart_or : (a s : Region) → IsDecided (AreApart a s)
apart_or a s = elim (cases_lt a.base (s.base + 2 ^ s.dim)) [
  | inr after ↦ inl (λ p in_a in_s. omega (arith, after, in_a.0, in_s.1))
  | inl low ↦ elim (cases_lt s.base (a.base + 2 ^ a.dim)) [
    | inr before ↦ inl (λ p in_a in_s. omega (arith, before, in_a.1, in_s.0))
    | inl high ↦ elim (cases_lt a.base s.base) [
      | inl first ↦ inr (λ apart. apart s.base (omega (arith, first), high) (omega arith, (let some = pow_pos s.dim in omega (arith, some))))
      | inr second ↦ inr (λ apart. apart a.base (omega arith, (let some = pow_pos a.dim in omega (arith, some))) (second, low))
    ]
  ]
]

-- a station holds a block that overlaps one
abbrev Meets : Holdings → Region → ℕ → Type 0
Meets f s t = (a : Region) × (f t ≡ Some a) × (AreApart a s → ⊥)

meets_or : (f : Holdings) (s : Region) (t : ℕ) → IsDecided (Meets f s t)
meets_or f s t = at (f t) refl
  where
    at : (o : Option Region) → f t ≡ o → IsDecided (Meets f s t)
    at None is = inr (λ meets. none_is_some (sym is ∙ meets.1))
    at (Some a) is = elim (apart_or a s) [
      | inl apart ↦ inr (λ meets. meets.2 (subst (λ (x : Region). AreApart x s) (same (sym is ∙ meets.1)) apart))
      | inr overlap ↦ inl (a, is, overlap)
    ]

-- where stations from a bound on hold nothing, a block is free, or one of the held blocks meets it
free_or : (f : Holdings) (n : ℕ) → ((t : ℕ) (a : Region) → f t ≡ Some a → t < n) → (s : Region) → ((t : ℕ) × Meets f s t) ⊎ IsFree f s
free_or f n within s = elim (find_below (Meets f s) (meets_or f s) n) [
  | inl found ↦ inl (found.0, found.2)
  | inr none ↦ inr (λ t a is. elim (apart_or a s) [
    | inl apart ↦ apart
    | inr overlap ↦ absurd (none t (within t a is) (a, is, overlap))
  ])
]

-- ---- the way down

module _ (w : Sched) (b : Layout) (k : Shows w b) where
  safe : IsSafe w
  safe = k.trees.2.safe

  out_within : (t : ℕ) (a : Region) → w.occupied t ≡ Some a → t < 2 ^ w.dim
  out_within t a is =
      let base = safe.base t a is in
      let end = IsAligned-end w.dim a (safe.out.aligned t a is) in
      let some = pow_pos a.dim in
      omega (arith, base, end, some)

  usable_or : (s : Region) → IsDecided (IsUsable w s)
  usable_or s = elim (free_or w.occupied (2 ^ w.dim) out_within s) [
    | inl (t, (a, is, overlap)) ↦ inr (λ usable. overlap (usable t a is))
    | inr free ↦ inl free
  ]

  module _ (d : ℕ) (fits : d ≤ w.dim) (part : Region) where
    -- block `(m, d)` is usable, and in the part
    abbrev IsThere : ℕ → Type 0
    IsThere m = (part.base ≤ m * 2 ^ d) × (m * 2 ^ d + 2 ^ d ≤ part.base + 2 ^ part.dim) × IsUsable w (block d m)

    there_or : (m : ℕ) → IsDecided (IsThere m)
    there_or m = elim (cases_lt (m * 2 ^ d) part.base) [
      | inl before ↦ inr (λ is. omega (arith, before, is.0))
      | inr from ↦ elim (cases_lt (part.base + 2 ^ part.dim) (m * 2 ^ d + 2 ^ d)) [
        | inl past ↦ inr (λ is. omega (arith, past, is.1))
        | inr upto ↦ elim (usable_or (block d m)) [
          | inl usable ↦ inl (from, upto, usable)
          | inr not ↦ inr (λ is. not is.2)
        ]
      ]
    ]

    to_usable : (m : ℕ) → m < 2 ^ (w.dim - d) → IsThere m → HasUsableIn w d part
    to_usable m within is =
        (block d m, IsAligned-block w.dim d m fits within, refl, is.2, λ p in_m. (omega (arith, is.0, in_m.0), omega (arith, is.1, in_m.1)))

    of_usable : HasUsableIn w d part → (m : ℕ) × (m < 2 ^ (w.dim - d)) × IsThere m
    of_usable (s, aligned, dim, usable, covers) =
        let m : ℕ = aligned.1.0 in
        let is : s ≡ block d m = aligned.1.2 ∙ ap (λ i. block i m) dim in
        let some = pow_pos s.dim in
        let low = covers s.base (omega arith, omega (arith, some)) in
        let high = covers (s.base + 2 ^ s.dim - 1) (omega (arith, some), omega (arith, some)) in
        let base : s.base ≡ m * 2 ^ d = ap (λ (x : Region). x.base) is in
        let width : 2 ^ s.dim ≡ 2 ^ d = ap (λ i. 2 ^ i) dim in
        (m, subst (λ i. m < 2 ^ (w.dim - i)) dim aligned.1.1, (omega (arith, low.0, base), omega (arith, high.1, base, width, some), subst (IsUsable w) is usable))

    usable_in_or : IsDecided (HasUsableIn w d part)
    usable_in_or = elim (find_below IsThere there_or (2 ^ (w.dim - d))) [
      | inl found ↦ inl (to_usable found.0 found.1 found.2)
      | inr none ↦ inr (λ has. let at = of_usable has in none at.0 at.1 at.2)
    ]

  -- one half is the better one, or not
  better_or : (part : Region) → IsAligned w.dim part → 0 < part.dim → IsDecided (IsBetter w (upper_half part) (lower_half part))
  better_or part aligned some =
      let here : IsAligned b.dim part = subst (λ n. IsAligned n part) k.dim aligned in
      let low = IsNodeOf-of_aligned b.dim (lower_half part) (lower_aligned b.dim part some here) in
      let high = IsNodeOf-of_aligned b.dim (upper_half part) (upper_aligned b.dim part some here) in
      let test = better_is w b k part (lower_half part) (upper_half part) low.0 high.0 here some refl refl low.1 high.1 in
      elim (earlier_or b.ends b.busy high.0 low.0) [
        | inl earlier ↦ inl (test.0 earlier)
        | inr not ↦ inr (λ better. not (test.1 better))
      ]
    where
      earlier_or : (ends busy : _) (y x : ℕ) → IsDecided (IsEarlier ends busy y x)
      earlier_or ends busy y x = elim (cases_lt (entry_of ends y) (entry_of ends x)) [
        | inl less ↦ inl (inl less)
        | inr from ↦ elim (cases_eq (entry_of ends y) (entry_of ends x)) [
          | inr other ↦ inr (λ is. elim is [ inl less ↦ omega (arith, from, less) | inr both ↦ other both.0 ])
          | inl equal ↦ elim (cases_lt (entry_of busy y) (entry_of busy x)) [
            | inl less ↦ inl (inr (equal, less))
            | inr more ↦ inr (λ is. elim is [ inl less ↦ omega (arith, from, less) | inr both ↦ omega (arith, more, both.1) ])
          ]
        ]
      ]

  -- the half that the way down goes to
  half_of : (d : ℕ) (part : Region) → IsAligned w.dim part → d < part.dim → HasUsableIn w d part → (half : Region) × IsAligned w.dim half × (half.dim + 1 ≡ part.dim) × GoesTo w d part half
  half_of d part aligned less has =
      elim (usable_in_or d fits (upper_half part)) [
        | inr none ↦ to_low (λ up. absurd (none up))
        | inl up ↦ elim (usable_in_or d fits (lower_half part)) [
          | inr none ↦ to_high up (λ low. absurd (none low))
          | inl low ↦ elim (better_or part aligned some) [
            | inl better ↦ to_high up (λ _. better)
            | inr not ↦ to_low (λ _. (low, not))
          ]
        ]
      ]
    where
      some : 0 < part.dim
      some = omega (arith, less)

      fits : d ≤ w.dim
      fits = let inside = aligned.0 in omega (arith, less, inside)

      dims : part.dim - 1 + 1 ≡ part.dim
      dims = omega (arith, some)

      to_low : (HasUsableIn w d (upper_half part) → HasUsableIn w d (lower_half part) × (IsBetter w (upper_half part) (lower_half part) → ⊥))
          → (half : Region) × IsAligned w.dim half × (half.dim + 1 ≡ part.dim) × GoesTo w d part half
      to_low worse =
          let goes = goes_low w d part (lower_half part) refl aligned less worse has in
          (lower_half part, lower_aligned w.dim part some aligned, dims, goes)

      to_high : HasUsableIn w d (upper_half part) → (HasUsableIn w d (lower_half part) → IsBetter w (upper_half part) (lower_half part))
          → (half : Region) × IsAligned w.dim half × (half.dim + 1 ≡ part.dim) × GoesTo w d part half
      to_high up better =
          let goes = goes_high w d part (upper_half part) refl less up better in
          (upper_half part, upper_aligned w.dim part some aligned, dims, goes)

  way_down : (d steps : ℕ) (part : Region) → IsAligned w.dim part → part.dim ≡ d + steps → HasUsableIn w d part → (r : Region) × Chooses w d part r
  way_down d zero part aligned dims has = (part, policy.arrives part (omega (arith, dims)))
  way_down d (suc steps) part aligned dims has =
      let half = half_of d part aligned (omega (arith, dims)) has in
      let rest = way_down d steps half.0 half.1 (omega (arith, half.2, dims)) half.3.0 in
      (rest.0, half.3.1 rest.0 rest.1)

  -- there is a block to reserve
  pub some_chosen : (d : ℕ) → HasUsable w d → (r : Region) × Chooses w d (block w.dim 0) r
  some_chosen d has =
      let fits : d ≤ w.dim = subst (λ i. i ≤ w.dim) has.2 has.1.0 in
      way_down d (w.dim - d) (block w.dim 0) (IsAligned-block w.dim w.dim 0 (omega arith) (pow_pos (w.dim - w.dim))) (omega (arith, fits)) (usable_in_machine w d has)

  -- ---- its latest end

  held_within : (t : ℕ) (a : Region) → held w t ≡ Some a → t < w.next
  held_within t a is = elim (cases_lt t w.next) [
    | inl less ↦ less
    | inr past ↦ absurd (none_is_some (sym (ap block_of (safe.absent t past)) ∙ is))
  ]

  module _ (ends : (j : ℕ) (run : SchedRun) → Runs w j run → run.end < NEVER → ⊥) where
    -- a job in a block whose end is not known
    never : (r : Region) (t : ℕ) → Meets (held w) r t → IsLatest w r NEVER
    never r t (a, is, overlap) =
        let run = held_run w.place t a is in
        let unknown : (j : ℕ) (other : SchedRun) → Runs w j other → other.end ≡ NEVER = λ j other runs.
        let most = (safe.ends j other runs).1 in
        elim (cases_lt other.end NEVER) [ inl known ↦ absurd (ends j other runs known) | inr from ↦ omega (arith, most, from) ] in
        record {
          all = λ j other inside. (safe.ends j other inside.0).1;
          reached = inr (t, run.0, (run.1, λ apart. overlap (subst (λ (x : Region). AreApart x r) run.2 apart)), unknown t run.0 run.1);
        }

    pub latest_never : (d : ℕ) (r : Region) → HasUsable w d → HasNone w.dim d (IsVacant w) → Chooses w d (block w.dim 0) r → IsLatest w r NEVER
    latest_never d r has none chooses =
        let is = chosen w d r has chooses in
        elim (free_or (held w) w.next held_within r) [
          | inl (t, meets) ↦ never r t meets
          | inr free ↦ absurd (no_block w.dim d (IsVacant w) none r is.0 is.1 (free, is.2))
        ]
