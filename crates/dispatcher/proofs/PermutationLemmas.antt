-- Lists that weigh the same however their elements are weighed are permutations of each other.
use Rattle.std.proofs.Common.{◌≡◌, ◌≢◌, ℕ, ◌+◌, ◌<◌, List, [], ◌∷◌, ◌++◌, refl, sym, ap, subst, ◌∙◌, arith}
use Rattle.std.specs.List.{AllByRecursion, fold}
use Rattle.std.specs.List.Sorted.{IsPermutation}
use Rattle.std.proofs.lemmas.List.Sorted.{IsPermutation-cons, IsPermutation-middle, IsPermutation-refl, IsPermutation-sym, IsPermutation-trans, sum_by-IsPermutation}
use mathlib.Core.HLevel.{Discrete}
use mathlib.Core.Logic.{dite}
use Rattle.ghost_history.specs.Sums.{total}
use Rattle.ghost_history.proofs.SumLemmas.{total-append}

-- 1 for what holds, and 0 for what does not.
one_if : {P : Type 0} → Dec P → ℕ
one_if (yes p) = 1
one_if (no n) = 0

one_where : {P : Type 0} (d : Dec P) → P → one_if d ≡ 1
unfolding one_if
one_where (yes p) holds = refl
one_where (no n) holds = absurd (n holds)

none_where : {P : Type 0} (d : Dec P) → ¬ P → one_if d ≡ 0
unfolding one_if
none_where (yes p) other = absurd (other p)
none_where (no n) other = refl

module _ {A : Type 0} (same : Discrete A) where
  -- 1 for x itself, and 0 for all others.
  is : A → A → ℕ
  is x y = one_if (same x y)

  is-same : (x : A) → is x x ≡ 1
  unfolding is
  is-same x = one_where (same x x) refl

  is-other : (x y : A) → x ≢ y → is x y ≡ 0
  unfolding is
  is-other x y other = none_where (same x y) other

  -- An element that weighs something is in the list.
  found : (x : A) (ys : List A)
      → 0 < total (is x) ys
      → (front : List A) × (back : List A) × (ys ≡ front ++ x ∷ back)
  found x [] positive = absurd (omega (arith, positive))
  found x (y ∷ ys) positive = dite (same x y)
      (λ e. ([], ys, ap (λ (z : A). z ∷ ys) (sym e)))
      (λ other. let later = found x ys (omega (arith, positive, is-other x y other)) in (y ∷ later.0, later.1, ap (λ (zs : List A). y ∷ zs) later.2))

  pub balanced : (xs ys : List A)
      → ((weight : A → ℕ) → total weight xs ≡ total weight ys)
      → IsPermutation xs ys
  balanced [] [] weigh = IsPermutation-refl []
  balanced [] (y ∷ ys) weigh = absurd (omega (arith, weigh (λ _. 1)))
  balanced (x ∷ xs) ys weigh =
      let split = found x ys (omega (arith, weigh (is x), is-same x)) in
      let front = split.0 in
      let back = split.1 in
      let rest : IsPermutation xs (front ++ back) = balanced xs (front ++ back) (λ weight.
      omega (arith, weigh weight, ap (total weight) split.2, total-append weight front (x ∷ back), total-append weight front back)) in
      subst (IsPermutation (x ∷ xs)) (sym split.2)
      (IsPermutation-trans _ _ _ (IsPermutation-cons x xs (front ++ back) rest) (IsPermutation-sym _ _ (IsPermutation-middle front x back)))

  -- What holds of each element holds of one that weighs something in the list.
  of_found : (P : A → Type 0) (y : A) (xs : List A)
      → AllByRecursion P xs
      → 0 < total (is y) xs
      → P y
  of_found P y [] all positive = absurd (omega (arith, positive))
  of_found P y (x ∷ xs) all positive = dite (same y x)
      (λ e. subst P (sym e) all.0)
      (λ other. of_found P y xs all.1 (omega (arith, positive, is-other y x other)))

  module _ (Before : A → A → Type 0) where
    -- Each element comes before all later ones.
    abbrev pub Rises : List A → Type 0
    Rises [] = Unit {0}
    Rises (x ∷ xs) = AllByRecursion (Before x) xs × Rises xs

    -- No later element comes before an earlier one.
    abbrev pub NeverFalls : List A → Type 0
    NeverFalls [] = Unit {0}
    NeverFalls (x ∷ xs) = AllByRecursion (λ y. ¬ Before y x) xs × NeverFalls xs

    -- A list that rises is the only one of its elements that never falls.
    pub in_order : (xs ys : List A)
        → ((weight : A → ℕ) → total weight xs ≡ total weight ys)
        → Rises xs
        → NeverFalls ys
        → ys ≡ xs
    in_order [] [] weigh rises falls = refl
    in_order [] (y ∷ ys) weigh rises falls = absurd (omega (arith, weigh (λ _. 1)))
    in_order (x ∷ xs) [] weigh rises falls = absurd (omega (arith, weigh (λ _. 1)))
    in_order (x ∷ xs) (y ∷ ys) weigh rises falls = dite (same x y)
        (λ e. ap (λ (z : A). z ∷ ys) (sym e) ∙ ap (λ (zs : List A). x ∷ zs) (in_order xs ys (λ weight. omega (arith, weigh weight, ap weight e)) rises.1 falls.1))
        (λ other.
        let later : 0 < total (is x) ys = omega (arith, weigh (is x), is-same x, is-other x y other) in
        let earlier : 0 < total (is y) xs = omega (arith, weigh (is y), is-same y, is-other y x (λ e. other (sym e))) in
        absurd (of_found (λ z. ¬ Before z y) x ys falls.0 later (of_found (Before x) y xs rises.0 earlier)))

fold_total : {A : Type 0} (f : A → ℕ) (a : ℕ) (xs : List A)
    → fold (λ b x. b + f x) a xs ≡ a + total f xs
fold_total f a [] = omega arith
fold_total f a (x ∷ xs) = fold_total f (a + f x) xs ∙ omega arith

-- A permutation weighs the same.
pub total-IsPermutation : {A : Type 0} (f : A → ℕ) (xs ys : List A)
    → IsPermutation xs ys
    → total f xs ≡ total f ys
total-IsPermutation f xs ys same = omega (arith, fold_total f 0 xs, fold_total f 0 ys, sum_by-IsPermutation f xs ys same)
