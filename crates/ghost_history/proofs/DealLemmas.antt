-- Giving out the records of members from the first view, and joining them again. Lists that are
-- cut, the first view, and what holds for all views if one is changed, cut or joined.
use Rattle.std.proofs.Common.{◌≡◌, ◌≢◌, ℕ, zero, suc, ◌+◌, ◌<◌, ◌≤◌, ⊎_elim, List, [], ◌∷◌, ◌++◌, length, set, sym, refl, ap, ◌∙◌, subst, arith}
use Rattle.std.specs.List.{AllByRecursion}
use mathlib.Core.Logic.{dite}
use mathlib.Core.Option.{some, some-injective, some-ne-none}
use native.Mathlib.Decide.{ℕ_discrete}
use lib.ListN.{get_elem?}
use Rattle.atomic_table.proofs.Lists.{at_set, at_snoc}
use Rattle.ghost_history.specs.Lists.{first_of, rest_of, numbered_from}
use Rattle.ghost_history.specs.Sums.{total, is_at}
use Rattle.ghost_history.specs.Views.{Tied}
use Rattle.ghost_history.proofs.SumLemmas.{is_at-same, is_at-other}
use Rattle.ghost_history.proofs.ViewLemmas.{True}

-- ---- a list is cut

module _ {A : Type 0} where
  pub cut-all : (P : A → Type 0) (xs : List A)
      → AllByRecursion P xs
      → AllByRecursion P (rest_of xs) × AllByRecursion P (first_of xs)
  cut-all P [] all = (tt, tt)
  cut-all P (x ∷ xs) all = (all.1, (all.0, tt))

  pub cut-total : (f : A → ℕ) (xs : List A)
      → total f (rest_of xs) + total f (first_of xs) ≡ total f xs
  cut-total f [] = refl
  cut-total f (x ∷ xs) = omega arith

  pub cut-length : (xs : List A) → length (rest_of xs) + length (first_of xs) ≡ length xs
  cut-length [] = refl
  cut-length (x ∷ xs) = omega arith

-- ---- the records of members that have done nothing

-- one member, with the number 0
pub one_member : (k : ℕ) → is_at k 0 ≤ 1
one_member zero = omega arith
one_member (suc k) = omega (arith, is_at-other (suc k) 0 (λ e. omega arith))

module _ {R : Type 0} (fresh : ℕ → R) where
  pub fresh-count : (first count : ℕ) → length (numbered_from fresh first count) ≡ count
  fresh-count first zero = refl
  fresh-count first (suc count) = omega (arith, fresh-count (first + 1) count)

  module _ (number : R → ℕ) (is_numbered : (k : ℕ) → number (fresh k) ≡ k) where
    -- each record is its member's
    pub fresh-true : (first count n : ℕ)
        → first + count ≤ n
        → AllByRecursion (λ r. (r ≡ fresh (number r)) × (number r < n))
        (numbered_from fresh first count)
    fresh-true first zero n within = tt
    fresh-true first (suc count) n within = ((ap fresh (sym (is_numbered first)), omega (arith, is_numbered first)), fresh-true (first + 1) count n (omega arith))

    -- each number is there at most once, and none below the first
    pub fresh-once : (k first count : ℕ)
        → (total (λ r. is_at k (number r)) (numbered_from fresh first count) ≤ 1)
        × (k < first → total (λ r. is_at k (number r)) (numbered_from fresh first count) ≡ 0)
    fresh-once k first zero = (omega arith, λ _. refl)
    fresh-once k first (suc count) =
        let later = fresh-once k (first + 1) count in
        let here : is_at k (number (fresh first)) ≡ is_at k first = ap (is_at k) (is_numbered first) in
        dite (ℕ_discrete first k)
        (λ e. let one : is_at k first ≡ 1 = ap (is_at k) e ∙ is_at-same k in let none_later = later.1 (omega arith) in (omega (arith, here, one, none_later), λ lower. absurd (omega arith)))
        (λ ne. let none_here = is_at-other k first ne in (omega (arith, here, none_here, later.0), λ lower. omega (arith, here, none_here, later.1 (omega arith))))

-- ---- what holds of each view

module _ {V : Type 0} where
  -- the first view is the only one
  pub only_view : (P : V → Type 0) (v : V)
      → P v
      → (id : ℕ) (u : V)
      → get_elem? (v ∷ []) id ≡ some u
      → P u
  only_view P v holds zero u there = subst P (some-injective v u there) holds
  only_view P v holds (suc id) u there = absurd (some-ne-none u (sym there))

  -- one view is changed
  pub in_changed : (P : V → Type 0) (views : List V) (id : ℕ) (w : V)
      → P w
      → ((j : ℕ) (u : V) → get_elem? views j ≡ some u → P u)
      → (j : ℕ) (u : V)
      → get_elem? (set views id w) j ≡ some u
      → P u
  in_changed P views id w on_new on_others j u there = ⊎_elim
      (λ (q : (j ≡ id) × (w ≡ u)). subst P q.1 on_new)
      (λ (q : (j ≢ id) × (get_elem? views j ≡ some u)). on_others j u q.1)
      (at_set views id j w u there)

  -- one view is cut in two
  pub in_cut : (P : V → Type 0) (views : List V) (id : ℕ) (left right : V)
      → P left
      → P right
      → ((j : ℕ) (u : V) → get_elem? views j ≡ some u → P u)
      → (j : ℕ) (u : V)
      → get_elem? (set views id left ++ right ∷ []) j ≡ some u
      → P u
  in_cut P views id left right on_left on_right on_others j u there = ⊎_elim
      (λ (q : get_elem? (set views id left) j ≡ some u). in_changed P views id left on_left on_others j u q)
      (λ (q : right ≡ u). subst P q on_right)
      (at_snoc (set views id left) right u j there)

  -- one view takes the records of another
  pub in_joined : (P : V → Type 0) (views : List V) (id other : ℕ) (both spent : V)
      → P both
      → P spent
      → ((j : ℕ) (u : V) → get_elem? views j ≡ some u → P u)
      → (j : ℕ) (u : V)
      → get_elem? (set (set views id both) other spent) j ≡ some u
      → P u
  in_joined P views id other both spent on_both on_spent on_others = in_changed P (set views id both) other spent on_spent (in_changed P views id both on_both on_others)

module _ {V R : Type 0} (records : V → List R) (number : R → ℕ) where
  -- the first view has the records of all members
  pub first-tied : (fresh : ℕ → R)
      → ((k : ℕ) → number (fresh k) ≡ k)
      → (count : ℕ) (v : V)
      → records v ≡ numbered_from fresh 0 count
      → Tied records number count fresh (v ∷ [])
  first-tied fresh is_numbered count v has = record {
    each = only_view (λ u. AllByRecursion (True records number count fresh) (records u)) v (subst (AllByRecursion (True records number count fresh)) (sym has) (fresh-true fresh number is_numbered 0 count count (omega arith)));
    once = λ k. omega (arith, ap (total (λ r. is_at k (number r))) has, (fresh-once fresh number is_numbered k 0 count).0);
  }

  -- the first view has the record of the one member
  pub one-tied : (recorded : ℕ → R) (v : V) (r : R)
      → records v ≡ r ∷ []
      → r ≡ recorded 0
      → number r ≡ 0
      → Tied records number 1 recorded (v ∷ [])
  one-tied recorded v r has is zero_number = record {
    each = only_view (λ u. AllByRecursion (True records number 1 recorded) (records u)) v
        (subst (AllByRecursion (True records number 1 recorded)) (sym has) ((is ∙ ap recorded (sym zero_number), omega (arith, zero_number)), tt));
    once = λ k. omega (arith, ap (total (λ r. is_at k (number r))) has, ap (is_at k) zero_number, one_member k);
  }
