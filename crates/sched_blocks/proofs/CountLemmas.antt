-- How many processors jobs hold, and how many are out of service.
use Rattle.std.proofs.Common.{◌≡◌, ℕ, zero, suc, ◌+◌, ◌-◌, ◌^◌, ◌≤◌, ◌⊎◌, inl, inr, sym, ◌∙◌, subst, arith}
use Rattle.cube_shape.specs.Falling.{IsHeld}
use Rattle.alloc_bits.specs.Count.{IsCount}
use Rattle.fit_tree.specs.Fit.{held_in}
use Rattle.fit_tree.proofs.CountLemmas.{count_alike}
use Rattle.sched_law.specs.State.{Sched, held}
use Rattle.sched_blocks.specs.Layout.{Layout}
use Rattle.sched_blocks.specs.Shows.{Shows}

-- what is of the one kind or the other, without the other
count_rest : (R P Q : ℕ → Type 0) (bound a b : ℕ) → ((m : ℕ) → R m → P m ⊎ Q m) → ((m : ℕ) → P m ⊎ Q m → R m) → ((m : ℕ) → P m → Q m → ⊥)
    → IsCount R bound a → IsCount Q bound b → (b ≤ a) × IsCount P bound (a - b)
count_rest R P Q zero a b parts whole apart of_a of_b = (omega arith, omega arith)
count_rest R P Q (suc m) a b parts whole apart (inl (has, (before, is, counted))) (inl (too, (other, is_b, counted_b))) =
    let rest = count_rest R P Q m before other parts whole apart counted counted_b in
    let same : before - other ≡ a - b = omega (arith, is, is_b) in
    (omega (arith, is, is_b, rest.0), inr (λ p. apart m p too, subst (IsCount P m) same rest.1))
count_rest R P Q (suc m) a b parts whole apart (inl (has, (before, is, counted))) (inr (none, counted_b)) =
    let rest = count_rest R P Q m before b parts whole apart counted counted_b in
    let sum : a - b ≡ before - b + 1 = omega (arith, is, rest.0) in
    (omega (arith, is, rest.0), elim (parts m has) [ inl p ↦ inl (p, (before - b, sum, rest.1)) | inr q ↦ absurd (none q) ])
count_rest R P Q (suc m) a b parts whole apart (inr (none, counted)) (inl (too, (other, is_b, counted_b))) = absurd (none (whole m (inr too)))
count_rest R P Q (suc m) a b parts whole apart (inr (none, counted)) (inr (none_b, counted_b)) =
    let rest = count_rest R P Q m a b parts whole apart counted counted_b in
    (rest.0, inr (λ p. none (whole m (inl p)), rest.1))

module _ (w : Sched) (b : Layout) (k : Shows w b) where
  pub counts_out : (n count : ℕ) → n ≡ b.dim → IsCount (IsHeld (held_in b.out)) (2 ^ n) count → IsCount (IsHeld w.occupied) (2 ^ w.dim) count
  counts_out n count dims counted =
      subst (λ x. IsCount (IsHeld w.occupied) (2 ^ x) count) (dims ∙ sym k.dim) (count_alike (IsHeld (held_in b.out)) (IsHeld w.occupied) (2 ^ n) count (λ m less. (into m, back m)) counted)
    where
      into : (m : ℕ) → IsHeld (held_in b.out) m → IsHeld w.occupied m
      into m (s, a, is, covers) = (s, a, sym (k.out s) ∙ is, covers)

      back : (m : ℕ) → IsHeld w.occupied m → IsHeld (held_in b.out) m
      back m (s, a, is, covers) = (s, a, k.out s ∙ is, covers)

  pub counts_held : (n m all out : ℕ) → n ≡ b.dim → m ≡ b.dim → IsCount (IsHeld (held_in b.used)) (2 ^ n) all → IsCount (IsHeld (held_in b.out)) (2 ^ m) out
      → IsCount (IsHeld (held w)) (2 ^ w.dim) (all - out)
  counts_held n m all out dims dims_out of_all of_out =
      (count_rest (IsHeld (held_in b.used)) (IsHeld (held w)) (IsHeld w.occupied) (2 ^ w.dim) all out parts whole apart
      (subst (λ x. IsCount (IsHeld (held_in b.used)) (2 ^ x) all) (dims ∙ sym k.dim) of_all) (counts_out m out dims_out of_out)).1
    where
      parts : (p : ℕ) → IsHeld (held_in b.used) p → IsHeld (held w) p ⊎ IsHeld w.occupied p
      parts p (s, a, is, covers) = elim ((k.only s a is).1) [
        | inl (j, holds) ↦ inl (j, a, holds, covers)
        | inr (t, out_is) ↦ inr (t, a, out_is, covers)
      ]

      whole : (p : ℕ) → IsHeld (held w) p ⊎ IsHeld w.occupied p → IsHeld (held_in b.used) p
      whole p (inl (j, a, is, covers)) = (a.base, a, k.holds a (inl (j, is)), covers)
      whole p (inr (t, a, is, covers)) = (a.base, a, k.holds a (inr (t, is)), covers)

      apart : (p : ℕ) → IsHeld (held w) p → IsHeld w.occupied p → ⊥
      apart p (j, a, is, covers) (t, c, out_is, covers_too) = k.trees.2.safe.apart j t a c is out_is p covers covers_too
