-- Sums over lists and over the numbers below a bound, and the pigeonhole lemma.
use Rattle.std.proofs.Common.{◌≡◌, ◌≢◌, ℕ, zero, suc, ◌+◌, ◌*◌, ◌<◌, ◌≤◌, cond, eqb, eq-eqb, ne_eqb, List, [], ◌∷◌, ◌++◌, map, length, set, sym, refl, ap, ◌∙◌, arith}
use Rattle.std.specs.List.{AllByRecursion}
use mathlib.Core.Logic.{dite}
use mathlib.Core.Option.{some, some-injective, some-ne-none}
use native.Mathlib.Decide.{ℕ_discrete}
use lib.ListN.{get_elem?}
use Rattle.ghost_history.specs.Sums.{total, below, is_at}

-- ---- one number

pub is_at-same : (k : ℕ) → is_at k k ≡ 1
is_at-same k = ap (λ b. cond b 1 0) (eq-eqb k k refl)

pub is_at-other : (k x : ℕ) → x ≢ k → is_at k x ≡ 0
is_at-other k x other = ap (λ b. cond b 1 0) (ne_eqb x k other)

-- ---- sums over a list

module _ {A : Type 0} (f : A → ℕ) where
  pub total-append : (xs ys : List A) → total f (xs ++ ys) ≡ total f xs + total f ys
  total-append [] ys = omega arith
  total-append (x ∷ xs) ys = omega (arith, total-append xs ys)

  pub total-push : (xs : List A) (x : A) → total f (xs ++ x ∷ []) ≡ total f xs + f x
  total-push xs x = omega (arith, total-append xs (x ∷ []))

  -- an element is replaced
  pub total-set : (xs : List A) (i : ℕ) (x y : A)
      → get_elem? xs i ≡ some x
      → total f (set xs i y) + f x ≡ total f xs + f y
  total-set [] i x y here = absurd (some-ne-none x (sym here))
  total-set (z ∷ xs) zero x y here = omega (arith, ap f (some-injective z x here))
  total-set (z ∷ xs) (suc i) x y here = omega (arith, total-set xs i x y here)

  pub term_le : (xs : List A) (i : ℕ) (x : A) → get_elem? xs i ≡ some x → f x ≤ total f xs
  term_le [] i x here = absurd (some-ne-none x (sym here))
  term_le (z ∷ xs) zero x here = omega (arith, ap f (some-injective z x here))
  term_le (z ∷ xs) (suc i) x here = omega (arith, term_le xs i x here)

  pub two_terms_le : (xs : List A) (i j : ℕ) (x y : A)
      → j ≢ i
      → get_elem? xs i ≡ some x
      → get_elem? xs j ≡ some y
      → f x + f y ≤ total f xs
  two_terms_le [] i j x y other here there = absurd (some-ne-none x (sym here))
  two_terms_le (z ∷ xs) zero zero x y other here there = absurd (other refl)
  two_terms_le (z ∷ xs) zero (suc j) x y other here there = omega (arith, ap f (some-injective z x here), term_le xs j y there)
  two_terms_le (z ∷ xs) (suc i) zero x y other here there = omega (arith, ap f (some-injective z y there), term_le xs i x here)
  two_terms_le (z ∷ xs) (suc i) (suc j) x y other here there = omega (arith, two_terms_le xs i j x y (λ e. other (ap suc e)) here there)

  -- a sum that is not 0 has a term that is not 0
  pub positive_term : (xs : List A)
      → 0 < total f xs
      → (i : ℕ) × (x : A) × (get_elem? xs i ≡ some x) × (0 < f x)
  positive_term [] positive = absurd (omega arith)
  positive_term (z ∷ xs) positive =
      dite (ℕ_discrete (f z) 0)
      (λ none_here. let later = positive_term xs (omega arith) in (suc later.0, later.1, later.2, later.3))
      (λ some_here. (zero, z, refl, omega arith))

pub total-same : {A : Type 0} (f g : A → ℕ)
    → ((x : A) → f x ≡ g x)
    → (xs : List A)
    → total f xs ≡ total g xs
total-same f g same [] = refl
total-same f g same (x ∷ xs) = omega (arith, same x, total-same f g same xs)

pub total-map : {A B : Type 0} (f : B → ℕ) (g : A → B) (xs : List A)
    → total f (map g xs) ≡ total (λ x. f (g x)) xs
total-map f g [] = refl
total-map f g (x ∷ xs) = ap (λ (n : ℕ). f (g x) + n) (total-map f g xs)

pub total-ones : {A : Type 0} (f : A → ℕ) (xs : List A)
    → AllByRecursion (λ x. f x ≡ 1) xs
    → total f xs ≡ length xs
total-ones f [] ones = refl
total-ones f (x ∷ xs) ones = omega (arith, ones.0, total-ones f xs ones.1)

-- ---- sums over the numbers below a bound

pub below-same : (f g : ℕ → ℕ) (n : ℕ) → ((k : ℕ) → k < n → f k ≡ g k) → below f n ≡ below g n
below-same f g zero same = refl
below-same f g (suc n) same = omega (arith, below-same f g n (λ k within. same k (omega arith)), same n (omega arith))

-- the term of one number grows
pub below-grows : (f g : ℕ → ℕ) (n k grown : ℕ)
    → k < n
    → g k ≡ f k + grown
    → ((j : ℕ) → j ≢ k → g j ≡ f j)
    → below g n ≡ below f n + grown
below-grows f g zero k grown within here others = absurd (omega arith)
below-grows f g (suc n) k grown within here others =
    dite (ℕ_discrete n k)
    (λ last. let before : below g n ≡ below f n = below-same g f n (λ j below_n. others j (λ e. omega arith)) in let there : g n ≡ f n + grown = ap g last ∙ (here ∙ ap (λ j. f j + grown) (sym last)) in omega arith)
    (λ earlier. omega (arith, below-grows f g n k grown (omega arith) here others, others n earlier))

pub below-zero : (n : ℕ) → below (λ _. 0) n ≡ 0
below-zero zero = refl
below-zero (suc n) = omega (arith, below-zero n)

pub below-ones : (n : ℕ) → below (λ _. 1) n ≡ n
below-ones zero = refl
below-ones (suc n) = omega (arith, below-ones n)

pub below-plus : (f g : ℕ → ℕ) (n : ℕ) → below (λ k. f k + g k) n ≡ below f n + below g n
below-plus f g zero = refl
below-plus f g (suc n) = omega (arith, below-plus f g n)

pub below-bounded : (f : ℕ → ℕ) (most n : ℕ) → ((k : ℕ) → f k ≤ most) → below f n ≤ n * most
below-bounded f most zero bounded = omega arith
below-bounded f most (suc n) bounded = omega (arith, below-bounded f most n bounded, bounded n)

-- the one number's term alone
pub below-one_term : (f : ℕ → ℕ) (k n : ℕ) → k < n → ((j : ℕ) → j ≢ k → f j ≡ 0) → below f n ≡ f k
below-one_term f k n within others = omega (arith, below-grows (λ _. 0) f n k (f k) within (omega arith) others, below-zero n)

pub below-total : {A : Type 0} (f : ℕ → A → ℕ) (xs : List A) (n : ℕ)
    → below (λ k. total (f k) xs) n ≡ total (λ x. below (λ k. f k x) n) xs
below-total f [] n = below-zero n
below-total f (x ∷ xs) n = omega (arith, below-plus (λ k. f k x) (λ k. total (f k) xs) n, below-total f xs n)

below-few : (f : ℕ → ℕ) (n : ℕ) → ((k : ℕ) → f k ≤ 1) → below f n ≤ n
below-few f n few = omega (arith, below-bounded f 1 n few)

below-all : (f : ℕ → ℕ) (n : ℕ) → ((k : ℕ) → f k ≤ 1) → below f n ≡ n → (k : ℕ) → k < n → f k ≡ 1
below-all f zero few full k within = absurd (omega arith)
below-all f (suc n) few full k within =
    let before = below-few f n few in let last = few n in
    dite (ℕ_discrete k n) (λ e. ap f e ∙ omega arith) (λ other. below-all f n few (omega arith) k (omega arith))

-- ---- the pigeonhole lemma

module _ {A : Type 0} (number : A → ℕ) (n : ℕ) where
  below-is_at : (x : A) → number x < n → below (λ k. is_at k (number x)) n ≡ 1
  below-is_at x within = below-one_term (λ k. is_at k (number x)) (number x) n within (λ j other. is_at-other j (number x) (λ e. other (sym e))) ∙ is_at-same (number x)

  ones_of : (xs : List A)
      → AllByRecursion (λ x. number x < n) xs
      → AllByRecursion (λ x. below (λ k. is_at k (number x)) n ≡ 1) xs
  ones_of [] within = tt
  ones_of (x ∷ xs) within = (below-is_at x within.0, ones_of xs within.1)

  -- n elements whose numbers are below n, and no number twice: each number is there
  pub everyone : (xs : List A)
      → AllByRecursion (λ x. number x < n) xs
      → ((k : ℕ) → total (λ x. is_at k (number x)) xs ≤ 1)
      → length xs ≡ n
      → (k : ℕ)
      → k < n
      → total (λ x. is_at k (number x)) xs ≡ 1
  everyone xs within few long = below-all (λ k. total (λ x. is_at k (number x)) xs) n few
      (below-total (λ k x. is_at k (number x)) xs n ∙ (total-ones (λ x. below (λ k. is_at k (number x)) n) xs (ones_of xs within) ∙ long))

  module _ (g : ℕ → ℕ) where
    term : ℕ → A → ℕ
    term k x = cond (eqb (number x) k) (g k) 0

    no_term : (k : ℕ) (xs : List A) → total (λ x. is_at k (number x)) xs ≡ 0 → total (term k) xs ≡ 0
    unfolding term
    no_term k [] none_there = refl
    no_term k (x ∷ xs) none_there =
        dite (ℕ_discrete (number x) k)
        (λ e. let here : is_at k (number x) ≡ 1 = ap (is_at k) e ∙ is_at-same k in absurd (omega arith))
        (λ other. let here : cond (eqb (number x) k) (g k) 0 ≡ 0 = ap (λ b. cond b (g k) 0) (ne_eqb (number x) k other) in omega (arith, no_term k xs (omega arith)))

    one_term : (k : ℕ) (xs : List A)
        → total (λ x. is_at k (number x)) xs ≡ 1
        → total (term k) xs ≡ g k
    unfolding term
    one_term k [] one_there = absurd (omega arith)
    one_term k (x ∷ xs) one_there =
        dite (ℕ_discrete (number x) k)
        (λ e. let here : is_at k (number x) ≡ 1 = ap (is_at k) e ∙ is_at-same k in let value : cond (eqb (number x) k) (g k) 0 ≡ g k = ap (λ b. cond b (g k) 0) (eq-eqb (number x) k e) in omega (arith, no_term k xs (omega arith)))
        (λ other. let here : is_at k (number x) ≡ 0 = is_at-other k (number x) other in let value : cond (eqb (number x) k) (g k) 0 ≡ 0 = ap (λ b. cond b (g k) 0) (ne_eqb (number x) k other) in omega (arith, one_term k xs (omega arith)))

    below_term : (x : A) → number x < n → below (λ k. term k x) n ≡ g (number x)
    unfolding term
    below_term x within = below-one_term (λ k. term k x) (number x) n within (λ j other. ap (λ b. cond b (g j) 0) (ne_eqb (number x) j (λ e. other (sym e)))) ∙ ap (λ b. cond b (g (number x)) 0) (eq-eqb (number x) (number x) refl)

    spread : (f : A → ℕ) (xs : List A)
        → AllByRecursion (λ x. (f x ≡ g (number x)) × (number x < n)) xs
        → total (λ x. below (λ k. term k x) n) xs ≡ total f xs
    spread f [] values = refl
    spread f (x ∷ xs) values = omega (arith, spread f xs values.1, below_term x values.0.1, values.0.0)

    -- if each number is there once, a sum over the list is the sum over the numbers
    pub total-below : (f : A → ℕ) (xs : List A)
        → AllByRecursion (λ x. (f x ≡ g (number x)) × (number x < n)) xs
        → ((k : ℕ) → k < n → total (λ x. is_at k (number x)) xs ≡ 1)
        → total f xs ≡ below g n
    total-below f xs values once = sym (spread f xs values) ∙ (sym (below-total term xs n) ∙ below-same (λ k. total (term k) xs) g n (λ k within. one_term k xs (once k within)))
