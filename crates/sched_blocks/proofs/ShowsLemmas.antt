-- What blocks that show a state say of it.
use Rattle.std.proofs.Common.{◌≡◌, ℕ, ◌-◌, ◌^◌, ◌<◌, ◌≤◌, inl, inr, false, Option, Some, None, IfSome, IfNone, refl, sym, ◌∙◌, ap, subst, arith}
use Rattle.std.specs.Prelude.{◌↔◌, List}
use Rattle.std.proofs.lemmas.Bool.{cases_lt}
use Rattle.std.proofs.lemmas.Option.{IfSome_then}
use Rattle.cube_shape.specs.declared.region.Region.{Region}
use Rattle.cube_shape.specs.Region.{IsAligned, block}
use Rattle.cube_shape.proofs.RegionLemmas.{IsAligned-block}
use Rattle.cube_shape.specs.Machine.{HasNoFit, IsFirstFit, IsFree}
use Rattle.fit_tree.specs.Fit.{Fit, held_in}
use Rattle.fit_tree.specs.FirstApart.{HasNoneApart, IsFirstApart}
use Rattle.sched_blocks.specs.Ends.{AreEnds}
use Rattle.sched_blocks.specs.Busy.{AreBusy}
use Rattle.sched_blocks.specs.Use.{IsInUse}
use Rattle.sched_blocks.proofs.FollowLemmas.{initial_own, initial_used}
use Rattle.sched_law.specs.State.{Sched, IsUsable, IsVacant, initial}
use Rattle.sched_law.specs.Policy.{HasNone, HasUsable, IsFirst, IsVacantBeside}
use Rattle.sched_law.proofs.BlockLemmas.{inner, no_block}
use Rattle.sched_law.proofs.PolicyLemmas.{usable_narrower, vacant_inside}
use Rattle.sched_law.proofs.SafeLemmas.{initial_safe}
use Rattle.sched_law.proofs.SetLemmas.{none_is_some}
use Rattle.sched_blocks.specs.Layout.{Layout}
use Rattle.sched_blocks.specs.Shows.{Shows}

module _ (w : Sched) (b : Layout) (k : Shows w b) where
  pub vacant_free : (r : Region) → IsVacant w r → IsFree (held_in b.used) r
  vacant_free r vacant t a is = elim ((k.only t a is).1) [
    | inl (j, holds) ↦ vacant.0 j a holds
    | inr (s, out) ↦ vacant.1 s a out
  ]

  pub free_vacant : (r : Region) → IsFree (held_in b.used) r → IsVacant w r
  free_vacant r free = (λ t a is. free a.base a (k.holds a (inl (t, is))), λ t a is. free a.base a (k.holds a (inr (t, is))))

  pub usable_free : (r : Region) → IsUsable w r → IsFree (held_in b.out) r
  usable_free r usable t a is = usable t a (sym (k.out t) ∙ is)

  pub free_usable : (r : Region) → IsFree (held_in b.out) r → IsUsable w r
  free_usable r free t a is = free t a (k.out t ∙ is)

  module _ (n d : ℕ) (dims : n ≡ b.dim) where
    here : n ≡ w.dim
    here = dims ∙ sym k.dim

    pub first_vacant : (m : ℕ) → IsFirstFit n d (held_in b.used) m → IsFirst w.dim d (IsVacant w) m
    first_vacant m first = record {
      in_cube = subst (λ x. m < 2 ^ (x - d)) here first.in_cube;
      right = free_vacant (block d m) first.free;
      least = λ i before vacant. first.least i before (vacant_free (block d i) vacant);
    }

    pub none_vacant : HasNoFit n d (held_in b.used) → HasNone w.dim d (IsVacant w)
    none_vacant none m within vacant = none m (subst (λ x. m < 2 ^ (x - d)) (sym here) within) (vacant_free (block d m) vacant)

    pub none_free : HasNone w.dim d (IsVacant w) → HasNoFit n d (held_in b.used)
    none_free none m within free = none m (subst (λ x. m < 2 ^ (x - d)) here within) (free_vacant (block d m) free)

    pub none_usable : HasNoFit n d (held_in b.out) → HasNone w.dim d (IsUsable w)
    none_usable none m within usable = none m (subst (λ x. m < 2 ^ (x - d)) (sym here) within) (usable_free (block d m) usable)

    pub usable_none : HasNone w.dim d (IsUsable w) → HasNoFit n d (held_in b.out)
    usable_none none m within free = none m (subst (λ x. m < 2 ^ (x - d)) here within) (free_usable (block d m) free)

    pub first_beside : (avoid : Region) (m : ℕ) → IsFirstApart n d (held_in b.used) avoid m → IsFirst w.dim d (IsVacantBeside w avoid) m
    first_beside avoid m first = record {
      in_cube = subst (λ x. m < 2 ^ (x - d)) here first.in_cube;
      right = (free_vacant (block d m) first.free, first.apart);
      least = λ i before right. first.least i before right.1 (vacant_free (block d i) right.0);
    }

    pub none_beside : (avoid : Region) → HasNoneApart n d (held_in b.used) avoid → HasNone w.dim d (IsVacantBeside w avoid)
    none_beside avoid none m within right = none m (subst (λ x. m < 2 ^ (x - d)) (sym here) within) right.1 (vacant_free (block d m) right.0)

    -- ---- answers of first fit

    pub some_first : (o : Option Region) → IfSome o (λ r. (m : ℕ) × (r ≡ block d m) × IsFirstFit n d (held_in b.used) m)
        → IfSome o (λ r. (m : ℕ) × (r ≡ block d m) × IsFirst w.dim d (IsVacant w) m)
    some_first o found = IfSome_then o found (λ r is. (is.0, is.1, first_vacant is.0 is.2))

    pub no_first : (o : Option Region) → IfNone o (HasNoFit n d (held_in b.used)) → IfNone o (HasNone w.dim d (IsVacant w))
    no_first None none = none_vacant none
    no_first (Some r) none = none

    pub some_beside : (avoid : Region) (o : Option Region) → IfSome o (λ r. (m : ℕ) × (r ≡ block d m) × IsFirstApart n d (held_in b.used) avoid m)
        → IfSome o (λ r. (m : ℕ) × (r ≡ block d m) × IsFirst w.dim d (IsVacantBeside w avoid) m)
    some_beside avoid o found = IfSome_then o found (λ r is. (is.0, is.1, first_beside avoid is.0 is.2))

    pub no_beside : (avoid : Region) (o : Option Region) → IfNone o (HasNoneApart n d (held_in b.used) avoid) → IfNone o (HasNone w.dim d (IsVacantBeside w avoid))
    no_beside avoid None none = none_beside avoid none
    no_beside avoid (Some r) none = none

-- the largest blocks
module _ (w : Sched) (b : Layout) (k : Shows w b) (n : ℕ) where
  none_larger : (l d : ℕ) → l ≤ w.dim → (HasNone w.dim l (IsVacant w) → ⊥) → HasNone w.dim d (IsVacant w) → l < d
  none_larger l d l_in some none = elim (cases_lt l d) [
    | inl less ↦ less
    | inr from ↦
        absurd (some (λ m within vacant.
        let found = inner w.dim d (block l m) (IsAligned-block w.dim l m l_in within) from in
        no_block w.dim d (IsVacant w) none found.0 found.1 found.2 (vacant_inside w (block l m) found.0 found.3 vacant)))
  ]

  pub exact_vacant : n ≡ b.dim → (o : Option ℕ) → IfSome o (λ l. l ≤ n) → IfSome o (λ l. HasNoFit n l (held_in b.used) → ⊥)
      → IfSome o (λ l. (j : ℕ) → l < j → j ≤ n → HasNoFit n j (held_in b.used))
      → IfSome o (λ l. (d : ℕ) → d ≤ w.dim → HasNone w.dim d (IsVacant w) ↔ (l < d))
  exact_vacant dims None l_in some larger = l_in
  exact_vacant dims (Some l) l_in some larger = λ d d_in. (
    λ none. none_larger l d (omega (arith, l_in, dims, k.dim)) (λ none_l. some (none_free w b k n l dims none_l)) none,
    λ more. none_vacant w b k n d dims (larger d more (omega (arith, d_in, dims, k.dim))),
  )

  pub none_vacant_at_all : n ≡ b.dim → (o : Option ℕ) → IfNone o ((j : ℕ) → j ≤ n → HasNoFit n j (held_in b.used))
      → IfNone o ((d : ℕ) → d ≤ w.dim → HasNone w.dim d (IsVacant w))
  none_vacant_at_all dims None none = λ d d_in. none_vacant w b k n d dims (none d (omega (arith, d_in, dims, k.dim)))
  none_vacant_at_all dims (Some l) none = none

  pub none_usable_at_all : n ≡ b.dim → ((j : ℕ) → j ≤ n → HasNoFit n j (held_in b.out)) → (d : ℕ) → HasUsable w d → ⊥
  none_usable_at_all dims none d (r, aligned, dim, usable) =
      no_block w.dim d (IsUsable w) (none_usable w b k n d dims (none d (omega (arith, aligned.0, dim, dims, k.dim)))) r aligned dim usable

  pub exact_usable : n ≡ b.dim → (l : ℕ) (r : Region) → IsAligned n r → (m : ℕ) × (r ≡ block l m) × IsFirstFit n l (held_in b.out) m
      → ((j : ℕ) → l < j → j ≤ n → HasNoFit n j (held_in b.out)) → (d : ℕ) → HasUsable w d ↔ (d ≤ r.dim)
  exact_usable dims l r aligned (m, is, first) larger d =
      let here : n ≡ w.dim = dims ∙ sym k.dim in
      let size : r.dim ≡ l = ap (λ (x : Region). x.dim) is in (
        λ has. elim (cases_lt l d) [
          | inl more ↦
              let fits : d ≤ n = omega (arith, has.1.0, has.2, here) in
              absurd (no_block w.dim d (IsUsable w) (none_usable w b k n d dims (larger d more fits)) has.0 has.1 has.2 has.3)
          | inr less ↦ omega (arith, less, size)
        ],
        λ less. usable_narrower w r.dim d less (r, subst (λ x. IsAligned x r) here aligned, refl, free_usable w b k r (subst (IsFree (held_in b.out)) (sym is) first.free)),
      )

-- blocks of which none is in use
pub shows_initial : (n patience : ℕ) (used out : Fit) (ends busy : List ℕ) → ((s : ℕ) → held_in used s ≡ None) → ((s : ℕ) → held_in out s ≡ None)
    → AreEnds n (λ u. 0) ends → AreBusy n (λ u. false) busy → Shows (initial n patience) (record { dim = n; used = used; out = out; ends = ends; busy = busy })
shows_initial n patience used out ends busy none_used none_out right_ends right_busy = record {
  dim = refl;
  holds = λ r in_use. absurd (nothing r in_use);
  only = λ s r is. absurd (none_is_some (sym (none_used s) ∙ is));
  out = λ s. none_out s;
  trees = (
    λ u. 0,
    λ u. false,
    record {
      safe = initial_safe n patience;
      owns = initial_own n patience;
      uses = initial_used n patience;
      latest = right_ends;
      counted = right_busy;
    },
  );
}
  where
    nothing : (a : Region) → IsInUse (initial n patience) a → ⊥
    nothing a (inl (s, is)) = none_is_some is
    nothing a (inr (s, is)) = none_is_some is
