-- The blocks of one dimension in a part of a machine.
use Rattle.std.proofs.Common.{◌≡◌, ℕ, suc, ◌+◌, ◌-◌, ◌*◌, ◌^◌, ◌<◌, ◌≤◌, ◌⊎◌, inl, inr, sym, ◌∙◌, ap, subst, arith, mul_assoc}
use Rattle.std.proofs.lemmas.Bool.{cases_lt}
use Rattle.std.proofs.lemmas.Nat.{mul-le, pow-add, pow_pos}
use Rattle.cube_shape.specs.declared.region.Region.{Region}
use Rattle.cube_shape.specs.Region.{Covers, IsAligned, block}
use Rattle.cube_shape.specs.Node.{IsNodeOf}
use Rattle.cube_shape.proofs.RegionLemmas.{IsAligned-block, IsNodeOf-of_aligned, IsNodeOf-one_node}
use Rattle.fit_tree.specs.Rooms.{IsNode}
use Rattle.fit_tree.specs.FirstApart.{HasNoneApart}
use Rattle.fit_tree.specs.Fit.{held_in}
use Rattle.fit_tree.specs.Halves.{lower_half, upper_half}
use Rattle.fit_tree.proofs.NodeLemmas.{IsNode-of}
use Rattle.fit_tree.proofs.SplitLemmas.{named_lower, named_upper}
use Rattle.sched_law.specs.State.{Sched}
use Rattle.sched_law.specs.Policy.{Chooses, HasNone, HasUsable, HasUsableIn, IsBetter, IsFirst, IsVacantBeside}
use Rattle.sched_law.specs.Policy as policy
use Rattle.sched_law.proofs.BlockLemmas.{inner, no_block, upper_aligned}
use Rattle.sched_law.proofs.PolicyLemmas.{usable_in_machine, vacant_inside}
use Rattle.sched_blocks.specs.Busy.{IsEarlier}
use Rattle.sched_blocks.proofs.ServeLemmas.{serves_better}
use Rattle.std.specs.Prelude.{◌↔◌, Bool, IsTrue, List, Option, Some, None, IfSome, IfNone}
use Rattle.sched_blocks.specs.Layout.{Layout}
use Rattle.sched_blocks.specs.Shows.{Shows}
use Rattle.sched_blocks.specs.Inner.{HasFreeIn}
use Rattle.sched_blocks.proofs.ShowsLemmas.{free_usable, free_vacant, none_beside, usable_free}

region_is : (b c d e : ℕ) → b ≡ c → d ≡ e → ◌≡◌ {A = Region} (record { base = b; dim = d }) (record { base = c; dim = e })
region_is b c d e same_base same_dim = ap (λ x. record { base = x; dim = d }) same_base ∙ ap (λ x. record { base = c; dim = x }) same_dim

-- ---- where a part begins

module _ (n k : ℕ) (part : Region) (aligned : IsAligned n part) (fits : k ≤ part.dim) where
  size : 2 ^ part.dim ≡ 2 ^ (part.dim - k) * 2 ^ k
  size =
      let parts : part.dim - k + k ≡ part.dim = omega (arith, fits) in
      ap (λ i. 2 ^ i) (sym parts) ∙ pow-add 2 (part.dim - k) k

  pub base_is : part.base ≡ aligned.1.0 * 2 ^ (part.dim - k) * 2 ^ k
  base_is = ap (λ (x : Region). x.base) aligned.1.2 ∙ ap (λ i. aligned.1.0 * i) size ∙ sym (mul_assoc aligned.1.0 (2 ^ (part.dim - k)) (2 ^ k))

-- ---- halves

-- a usable block of a lesser dimension is in one half
pub in_half : (w : Sched) (k : ℕ) (part : Region) → IsAligned w.dim part → k < part.dim → HasUsableIn w k part → HasUsableIn w k (lower_half part) ⊎ HasUsableIn w k (upper_half part)
in_half w k part aligned less (s, s_aligned, dim, usable, covers) = elim (cases_lt s.base (upper_half part).base) [
  | inl before ↦ inl (s, s_aligned, dim, usable, λ p in_s. (whole.0 p in_s, omega (arith, in_s.1, ends before)))
  | inr after ↦ inr (s, s_aligned, dim, usable, λ p in_s. (omega (arith, in_s.0, after), omega (arith, (covers p in_s).1, halves)))
]
  where
    some : 0 < part.dim
    some = omega (arith, less)

    high : IsAligned w.dim (upper_half part)
    high = upper_aligned w.dim part some aligned

    fits : k ≤ part.dim - 1
    fits = omega (arith, less)

    halves : 2 ^ part.dim ≡ 2 ^ (part.dim - 1) + 2 ^ (part.dim - 1)
    halves =
        let parts : part.dim ≡ 1 + (part.dim - 1) = omega (arith, some) in
        let double : 2 ^ part.dim ≡ 2 * 2 ^ (part.dim - 1) = ap (λ i. 2 ^ i) parts ∙ pow-add 2 1 (part.dim - 1) in
        omega (arith, double)

    whole : ((p : ℕ) → Covers s p → part.base ≤ p) × ((p : ℕ) → Covers s p → p < part.base + 2 ^ part.dim)
    whole = (λ p in_s. (covers p in_s).0, λ p in_s. (covers p in_s).1)

    ends : s.base < (upper_half part).base → s.base + 2 ^ s.dim ≤ (upper_half part).base
    ends before =
        let base : s.base ≡ s_aligned.1.0 * 2 ^ k = ap (λ (x : Region). x.base) s_aligned.1.2 ∙ ap (λ d. s_aligned.1.0 * 2 ^ d) dim in
        let other : (upper_half part).base ≡ high.1.0 * 2 ^ (part.dim - 1 - k) * 2 ^ k = base_is w.dim k (upper_half part) high fits in
        let width : 2 ^ s.dim ≡ 2 ^ k = ap (λ d. 2 ^ d) dim in
        elim (cases_lt s_aligned.1.0 (high.1.0 * 2 ^ (part.dim - 1 - k))) [
          | inl lower ↦
              let over : (s_aligned.1.0 + 1) * 2 ^ k ≤ high.1.0 * 2 ^ (part.dim - 1 - k) * 2 ^ k = mul-le (s_aligned.1.0 + 1) (2 ^ k) (high.1.0 * 2 ^ (part.dim - 1 - k)) (2 ^ k) (omega (arith, lower)) (omega arith) in
              let next : (s_aligned.1.0 + 1) * 2 ^ k ≡ s_aligned.1.0 * 2 ^ k + 2 ^ k = omega arith in
              omega (arith, over, next, base, other, width)
          | inr order ↦
              let over : high.1.0 * 2 ^ (part.dim - 1 - k) * 2 ^ k ≤ s_aligned.1.0 * 2 ^ k = mul-le (high.1.0 * 2 ^ (part.dim - 1 - k)) (2 ^ k) s_aligned.1.0 (2 ^ k) order (omega arith) in
              absurd (omega (arith, over, base, other, before))
        ]

-- ---- the way down

-- A half is the next part on the way to the block that is reserved.
abbrev pub GoesTo : Sched → ℕ → Region → Region → Type 0
GoesTo w k part half = HasUsableIn w k half × ((s : Region) → Chooses w k half s → Chooses w k part s)

pub goes_low : (w : Sched) (k : ℕ) (part half : Region) → half ≡ lower_half part → IsAligned w.dim part → k < part.dim
    → (HasUsableIn w k (upper_half part) → HasUsableIn w k (lower_half part) × (IsBetter w (upper_half part) (lower_half part) → ⊥))
    → HasUsableIn w k part → GoesTo w k part half
goes_low w k part half is aligned less worse has = subst (GoesTo w k part) (sym is) (low, λ s rest. policy.goes_lower part s less low (λ up. (worse up).1) rest)
  where
    low : HasUsableIn w k (lower_half part)
    low = elim (in_half w k part aligned less has) [ inl it ↦ it | inr up ↦ (worse up).0 ]

pub goes_high : (w : Sched) (k : ℕ) (part half : Region) → half ≡ upper_half part → k < part.dim → HasUsableIn w k (upper_half part)
    → (HasUsableIn w k (lower_half part) → IsBetter w (upper_half part) (lower_half part)) → GoesTo w k part half
goes_high w k part half is less up better = subst (GoesTo w k part) (sym is) (up, λ s rest. policy.goes_upper part s less up better rest)

module _ (w : Sched) (b : Layout) (k : Shows w b) where
  -- what is free of blocks out of service is usable
  pub usable_in : (d : ℕ) (part half : Region) → b.out.dim ≡ b.dim → half ≡ part → HasFreeIn b.out d half → HasUsableIn w d part
  usable_in d part half dims is (s, aligned, dim, free, covers) =
      (s, subst (λ n. IsAligned n s) (dims ∙ sym k.dim) aligned, dim, free_usable w b k s free, λ p in_s. subst (λ x. Covers x p) is (covers p in_s))

  pub free_in : (d : ℕ) (part half : Region) → b.out.dim ≡ b.dim → half ≡ part → HasUsableIn w d part → HasFreeIn b.out d half
  free_in d part half dims is (s, aligned, dim, usable, covers) =
      (s, subst (λ n. IsAligned n s) (k.dim ∙ sym dims) aligned, dim, usable_free w b k s usable, λ p in_s. subst (λ x. Covers x p) (sym is) (covers p in_s))

  module _ (part low high : Region) (x y v : ℕ) (some : 0 < part.dim) (low_is : low ≡ lower_half part) (high_is : high ≡ upper_half part) (of_low : IsNodeOf b.dim x low) (of_high : IsNodeOf b.dim y high)
      (named : IsNodeOf w.dim v part) where
    node : IsNode w.dim (suc (part.dim - 1)) v
    node = let down : part.dim ≡ suc (part.dim - 1) = omega (arith, some) in subst (λ d. IsNode w.dim d v) down (IsNode-of w.dim v part named)

    x_is : x ≡ 2 * v
    x_is = IsNodeOf-one_node w.dim x (2 * v) (lower_half part) (subst (IsNodeOf w.dim x) low_is (subst (λ n. IsNodeOf n x low) (sym k.dim) of_low)) (named_lower w.dim (part.dim - 1) v part node named)

    y_is : y ≡ 2 * v + 1
    y_is = IsNodeOf-one_node w.dim y (2 * v + 1) (upper_half part) (subst (IsNodeOf w.dim y) high_is (subst (λ n. IsNodeOf n y high) (sym k.dim) of_high)) (named_upper w.dim (part.dim - 1) v part node named)

    better_at : IsEarlier b.ends b.busy y x ↔ IsBetter w (upper_half part) (lower_half part)
    better_at =
        subst (λ i. IsEarlier b.ends b.busy i x ↔ IsBetter w (upper_half part) (lower_half part)) (sym y_is)
        (subst (λ i. IsEarlier b.ends b.busy (2 * v + 1) i ↔ IsBetter w (upper_half part) (lower_half part)) (sym x_is)
        (serves_better w k.trees.0 k.trees.1 b.ends b.busy k.trees.2 v part named some))

  -- the entries of both halves say which is the better one
  pub better_is : (part low high : Region) (x y : ℕ) → IsAligned b.dim part → 0 < part.dim → low ≡ lower_half part → high ≡ upper_half part
      → IsNodeOf b.dim x low → IsNodeOf b.dim y high → IsEarlier b.ends b.busy y x ↔ IsBetter w (upper_half part) (lower_half part)
  better_is part low high x y aligned some low_is high_is of_low of_high =
      let v = IsNodeOf-of_aligned w.dim part (subst (λ n. IsAligned n part) (sym k.dim) aligned) in
      better_at part low high x y v.0 some low_is high_is of_low of_high v.1

  -- ---- the largest block beside another one

  fewer : (avoid : Region) (l d : ℕ) → l ≤ w.dim → (HasNone w.dim l (IsVacantBeside w avoid) → ⊥) → HasNone w.dim d (IsVacantBeside w avoid) → l < d
  fewer avoid l d l_in some none = elim (cases_lt l d) [
    | inl less ↦ less
    | inr from ↦
        absurd (some (λ m within right.
        let found = inner w.dim d (block l m) (IsAligned-block w.dim l m l_in within) from in
        no_block w.dim d (IsVacantBeside w avoid) none found.0 found.1 found.2 (vacant_inside w (block l m) found.0 found.3 right.0, λ p in_avoid in_s. right.1 p in_avoid (found.3 p in_s))))
  ]

  none_apart : (n d : ℕ) (avoid : Region) → n ≡ b.dim → HasNone w.dim d (IsVacantBeside w avoid) → HasNoneApart n d (held_in b.used) avoid
  none_apart n d avoid dims none m within apart free = none m (subst (λ x. m < 2 ^ (x - d)) (dims ∙ sym k.dim) within) (free_vacant w b k (block d m) free, apart)

  pub exact_beside : (n : ℕ) (avoid : Region) → n ≡ b.dim → (o : Option ℕ) → IfSome o (λ l. l ≤ n) → IfSome o (λ l. HasNoneApart n l (held_in b.used) avoid → ⊥)
      → IfSome o (λ l. (j : ℕ) → l < j → j ≤ n → HasNoneApart n j (held_in b.used) avoid)
      → IfSome o (λ l. (d : ℕ) → d ≤ w.dim → HasNone w.dim d (IsVacantBeside w avoid) ↔ (l < d))
  exact_beside n avoid dims None l_in some larger = l_in
  exact_beside n avoid dims (Some l) l_in some larger = λ d d_in. (
    λ none. fewer avoid l d (omega (arith, l_in, dims, k.dim)) (λ none_l. some (none_apart n l avoid dims none_l)) none,
    λ more. none_beside w b k n d dims avoid (larger d more (omega (arith, d_in, dims, k.dim))),
  )

  pub none_beside_at_all : (n : ℕ) (avoid : Region) → n ≡ b.dim → (o : Option ℕ) → IfNone o ((j : ℕ) → j ≤ n → HasNoneApart n j (held_in b.used) avoid)
      → IfNone o ((d : ℕ) → d ≤ w.dim → HasNone w.dim d (IsVacantBeside w avoid))
  none_beside_at_all n avoid dims None none = λ d d_in. none_beside w b k n d dims avoid (none d (omega (arith, d_in, dims, k.dim)))
  none_beside_at_all n avoid dims (Some l) none = none

-- the machine as one block
pub root_is : (n : ℕ) → block n 0 ≡ record { base = 0; dim = n }
root_is n = let none : 0 * 2 ^ n ≡ 0 = omega arith in ap (λ (x : ℕ). record { base = x; dim = n }) none

-- the way down begins there
pub way_begins : (w : Sched) (b : Layout) → Shows w b → (k : ℕ) → HasUsable w k → GoesTo w k (block w.dim 0) (record { base = 0; dim = b.dim })
way_begins w b shows k has =
    let whole : GoesTo w k (block w.dim 0) (block w.dim 0) = (usable_in_machine w k has, λ s rest. rest) in
    subst (λ (d : ℕ). GoesTo w k (block w.dim 0) (record { base = 0; dim = d })) shows.dim (subst (GoesTo w k (block w.dim 0)) (root_is w.dim) whole)

pub machine_aligned : (n : ℕ) → IsAligned n (record { base = 0; dim = n })
machine_aligned n = subst (IsAligned n) (root_is n) (IsAligned-block n n 0 (omega arith) (pow_pos (n - n)))

-- the test of two entries, of the lists themselves
pub earlier_at : (r : Bool) (xs ys ends busy : List ℕ) (y x : ℕ) → xs ≡ ends → ys ≡ busy → IsTrue r ↔ IsEarlier xs ys y x → IsTrue r ↔ IsEarlier ends busy y x
earlier_at r xs ys ends busy y x same_ends same_busy test =
    subst (λ (bs : List ℕ). IsTrue r ↔ IsEarlier ends bs y x) same_busy (subst (λ (es : List ℕ). IsTrue r ↔ IsEarlier es ys y x) same_ends test)
