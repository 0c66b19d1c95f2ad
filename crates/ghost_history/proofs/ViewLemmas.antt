-- How the tie between views and records is kept: by a step, by cutting a view and by joining two.
use Rattle.std.proofs.Common.{◌≡◌, ◌≢◌, ℕ, ◌+◌, ◌<◌, ⊎_elim, List, [], ◌∷◌, ◌++◌, length, set, sym, refl, ap, ◌∙◌, subst, arith}
use Rattle.std.specs.List.{AllByRecursion}
use mathlib.Core.Option.{some}
use lib.ListN.{get_elem?}
use Rattle.atomic_table.proofs.Lists.{at_set, at_snoc}
use Rattle.ghost_history.specs.Sums.{total, is_at}
use Rattle.ghost_history.specs.Views.{shares, Tied}
use Rattle.ghost_history.proofs.SumLemmas.{is_at-same, total-append, total-push, total-set, two_terms_le, term_le, everyone}

pub all_weaker : {A : Type 0} (P Q : A → Type 0) (weaker : (x : A) → P x → Q x) (xs : List A)
    → AllByRecursion P xs
    → AllByRecursion Q xs
all_weaker P Q weaker [] all = tt
all_weaker P Q weaker (x ∷ xs) all = (weaker x all.0, all_weaker P Q weaker xs all.1)

pub all_append : {A : Type 0} (P : A → Type 0) (xs ys : List A)
    → AllByRecursion P xs
    → AllByRecursion P ys
    → AllByRecursion P (xs ++ ys)
all_append P [] ys left right = right
all_append P (x ∷ xs) ys left right = (left.0, all_append P xs ys left.1 right)

module _ {V R : Type 0} (records : V → List R) (number : R → ℕ) where
  module _ (count : ℕ) (recorded : ℕ → R) where
    -- each record is its member's
    abbrev pub True : R → Type 0
    True r = (r ≡ recorded (number r)) × (number r < count)

  -- if a member has no record in the list, each record there is of another
  all_others : (P Q : R → Type 0) (k : ℕ)
      → ((r : R) → number r ≢ k → P r → Q r)
      → (rs : List R)
      → total (λ r. is_at k (number r)) rs ≡ 0
      → AllByRecursion P rs
      → AllByRecursion Q rs
  all_others P Q k other [] none all = tt
  all_others P Q k other (r ∷ rs) none all =
      (other r (λ e. let here : is_at k (number r) ≡ 1 = ap (is_at k) e ∙ is_at-same k in absurd (omega arith)) all.0, all_others P Q k other rs (omega arith) all.1)

  module _ {count : ℕ} {before : ℕ → R} (views : List V)
      (tied : Tied records number count before views) (id : ℕ) (view : V)
      (here : get_elem? views id ≡ some view) where
    -- a member with a record in one view has none in another
    pub elsewhere : (k j : ℕ) (other : V)
        → shares records number k view ≡ 1
        → j ≢ id
        → get_elem? views j ≡ some other
        → shares records number k other ≡ 0
    elsewhere k j other one apart there = omega (arith, two_terms_le (shares records number k) views id j view other apart here there, tied.once k)

    -- the one member of a view makes a step
    pub steps : (after : ℕ → R) (new : V) (r r' : R)
        → records view ≡ r ∷ []
        → records new ≡ r' ∷ []
        → number r' ≡ number r
        → after (number r) ≡ r'
        → ((k : ℕ) → k ≢ number r → after k ≡ before k)
        → Tied records number count after (set views id new)
    steps after new r r' had has same mine others =
        let k = number r in
        let one : shares records number k view ≡ 1 = ap (total (λ x. is_at k (number x))) had ∙ omega (arith, is_at-same k) in
        let mine_before : AllByRecursion (True count before) (r ∷ []) = subst (AllByRecursion (True count before)) had (tied.each id view here) in
        let mine_after : AllByRecursion (True count after) (r' ∷ []) = ((sym mine ∙ ap after (sym same), subst (λ (n : ℕ). n < count) (sym same) mine_before.0.1), tt) in
        record {
          each = λ j u there. ⊎_elim
              (λ (q : (j ≡ id) × (new ≡ u)). subst (λ (v : V). AllByRecursion (True count after) (records v)) q.1 (subst (AllByRecursion (True count after)) (sym has) mine_after))
              (λ (q : (j ≢ id) × (get_elem? views j ≡ some u)). all_others (True count before) (True count after) k (λ x other true. (true.0 ∙ sym (others (number x) other), true.1)) (records u) (elsewhere k j u one q.0 q.1) (tied.each j u q.1))
              (at_set views id j new u there);
          once = λ n.
              let kept : shares records number n new ≡ shares records number n view = ap (total (λ x. is_at n (number x))) has ∙ (ap (λ m. is_at n m + 0) same ∙ sym (ap (total (λ x. is_at n (number x))) had)) in
              omega (arith, total-set (shares records number n) views id view new here, tied.once n);
        }

    -- a step of another kind of member
    pub stays : (after : ℕ → R) (new : V)
        → records new ≡ records view
        → ((k : ℕ) → after k ≡ before k)
        → Tied records number count after (set views id new)
    stays after new same unchanged =
        let still : (rs : List R) → AllByRecursion (True count before) rs → AllByRecursion (True count after) rs = all_weaker (True count before) (True count after) (λ x true. (true.0 ∙ sym (unchanged (number x)), true.1)) in
        record {
          each = λ j u there. ⊎_elim
              (λ (q : (j ≡ id) × (new ≡ u)). subst (λ (v : V). AllByRecursion (True count after) (records v)) q.1 (subst (AllByRecursion (True count after)) (sym same) (still (records view) (tied.each id view here))))
              (λ (q : (j ≢ id) × (get_elem? views j ≡ some u)). still (records u) (tied.each j u q.1))
              (at_set views id j new u there);
          once = λ n. omega (arith, total-set (shares records number n) views id view new here, tied.once n, ap (total (λ x. is_at n (number x))) same);
        }

    -- a view is cut in two
    pub splits : (left right : V)
        → (AllByRecursion (True count before) (records view)
        → AllByRecursion (True count before) (records left)
        × AllByRecursion (True count before) (records right))
        → ((k : ℕ) → shares records number k left + shares records number k right
        ≡ shares records number k view)
        → Tied records number count before (set views id left ++ right ∷ [])
    splits left right cut sums =
        let parts = cut (tied.each id view here) in
        record {
          each = λ j u there. ⊎_elim
              (λ (q : get_elem? (set views id left) j ≡ some u). ⊎_elim
              (λ (p : (j ≡ id) × (left ≡ u)). subst (λ (v : V). AllByRecursion (True count before) (records v)) p.1 parts.0)
              (λ (p : (j ≢ id) × (get_elem? views j ≡ some u)). tied.each j u p.1)
              (at_set views id j left u q))
              (λ (q : right ≡ u). subst (λ (v : V). AllByRecursion (True count before) (records v)) q parts.1)
              (at_snoc (set views id left) right u j there);
          once = λ n. omega (arith, total-push (shares records number n) (set views id left) right, total-set (shares records number n) views id view left here, tied.once n, sums n);
        }

    -- a view takes the records of another
    pub joins : (other : ℕ) (taken both spent : V)
        → other ≢ id
        → get_elem? (set views id both) other ≡ some taken
        → records both ≡ records view ++ records taken
        → records spent ≡ []
        → Tied records number count before (set (set views id both) other spent)
    joins other taken both spent apart there whole none =
        let at_both : get_elem? views other ≡ some taken = ⊎_elim (λ (q : (other ≡ id) × (both ≡ taken)). absurd (apart q.0)) (λ (q : (other ≢ id) × (get_elem? views other ≡ some taken)). q.1) (at_set views id other both taken there) in
        record {
          each = λ j u at_j. ⊎_elim
              (λ (q : (j ≡ other) × (spent ≡ u)). subst (λ (v : V). AllByRecursion (True count before) (records v)) q.1 (subst (AllByRecursion (True count before)) (sym none) tt))
              (λ (q : (j ≢ other) × (get_elem? (set views id both) j ≡ some u)). ⊎_elim
              (λ (p : (j ≡ id) × (both ≡ u)). subst (λ (v : V). AllByRecursion (True count before) (records v)) p.1
              (subst (AllByRecursion (True count before)) (sym whole) (all_append (True count before) (records view) (records taken) (tied.each id view here) (tied.each other taken at_both))))
              (λ (p : (j ≢ id) × (get_elem? views j ≡ some u)). tied.each j u p.1)
              (at_set views id j both u q.1))
              (at_set (set views id both) other j spent u at_j);
          once = λ n. omega (
            arith,
            total-set (shares records number n) views id view both here,
            total-set (shares records number n) (set views id both) other taken spent there,
            tied.once n,
            ap (total (λ x. is_at n (number x))) whole,
            total-append (λ x. is_at n (number x)) (records view) (records taken),
            ap (total (λ x. is_at n (number x))) none,
          );
        }

    -- a view with as many records as there are members has each member's
    pub has_everyone : length (records view) ≡ count
        → (k : ℕ)
        → k < count
        → shares records number k view ≡ 1
    has_everyone long = everyone number count (records view) (all_weaker (True count before) (λ r. number r < count) (λ r true. true.1) (records view) (tied.each id view here)) (λ k. omega (arith, term_le (shares records number k) views id view here, tied.once k)) long

    -- and then no other view has a record
    pub nobody_else : length (records view) ≡ count
        → (j : ℕ) (other : V)
        → j ≢ id
        → get_elem? views j ≡ some other
        → records other ≡ []
    nobody_else long j other apart there = no_records (records other) (tied.each j other there) (λ k within. elsewhere k j other (has_everyone long k within) apart there)
      where
        no_records : (rs : List R)
            → AllByRecursion (True count before) rs
            → ((k : ℕ) → k < count → total (λ r. is_at k (number r)) rs ≡ 0)
            → rs ≡ []
        no_records [] true none = refl
        no_records (r ∷ rs) true none = absurd (omega (arith, is_at-same (number r), none (number r) true.0.1))
