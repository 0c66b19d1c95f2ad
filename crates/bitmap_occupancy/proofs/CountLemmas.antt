-- One number more is counted or is not, and one place more has its count.
use Rattle.std.proofs.Common.{◌≡◌, ℕ, suc, refl, ◌+◌, ◌<◌, ◌≤◌, ◌⊎◌, inl, inr, List, length, slice_index, slice_set, arith, ap, sym, subst, ◌∙◌}
use Rattle.std.proofs.lemmas.Bool.{cases_order, cases_eq}
use Rattle.std.proofs.lemmas.List.{get_or-set_other, get_or-set_same}
use Rattle.alloc_bits.specs.Count.{IsCount}

next_is : (m : ℕ) → suc m ≡ m + 1
next_is m = omega arith

pub counts_more : (P : ℕ → Type 0) (m count : ℕ) → IsCount P m count → P m → IsCount P (m + 1) (count + 1)
counts_more P m count counted has = subst (λ bound. IsCount P bound (count + 1)) (next_is m) (inl (has, (count, refl, counted)))

pub counts_same : (P : ℕ → Type 0) (m count : ℕ) → IsCount P m count → (P m → ⊥) → IsCount P (m + 1) count
counts_same P m count counted none = subst (λ bound. IsCount P bound count) (next_is m) (inr (none, counted))

pub set_counted : (P : ℕ → ℕ → Type 0) (xs : List ℕ) (i x : ℕ)
    → i < length xs
    → P i x
    → ((k : ℕ) → k < i → P k (slice_index xs k))
    → (k : ℕ)
    → k < i + 1
    → P k (slice_index (slice_set xs i x) k)
set_counted P xs i x within here before k lt = by_order (cases_order k i)
  where
    by_order : (k ≡ i) ⊎ ((k < i) ⊎ (i < k)) → P k (slice_index (slice_set xs i x) k)
    by_order (inl e) =
        let got : slice_index (slice_set xs i x) k ≡ x = ap (slice_index (slice_set xs i x)) e ∙ get_or-set_same xs i x 0 within in
        subst (P k) (sym got) (subst (λ j. P j x) (sym e) here)
    by_order (inr (inl less)) = subst (P k) (sym (get_or-set_other xs i k x 0 (λ e. omega arith))) (before k less)
    by_order (inr (inr more)) = absurd (omega arith)

-- the places past one that is set stay
pub set_past : (xs : List ℕ) (i x k : ℕ) → i + 1 ≤ k → slice_index (slice_set xs i x) k ≡ slice_index xs k
set_past xs i x k le = get_or-set_other xs i k x 0 (λ e. omega arith)

-- if no place exceeds a bound, none does once one is set
pub set_few : (xs : List ℕ) (i x most : ℕ)
    → i < length xs
    → x ≤ most
    → ((k : ℕ) → slice_index xs k ≤ most)
    → (k : ℕ)
    → slice_index (slice_set xs i x) k ≤ most
set_few xs i x most within few all k = by_place (cases_eq k i)
  where
    by_place : (k ≡ i) ⊎ (k ≡ i → ⊥) → slice_index (slice_set xs i x) k ≤ most
    by_place (inl e) =
        let got : slice_index (slice_set xs i x) k ≡ x = ap (slice_index (slice_set xs i x)) e ∙ get_or-set_same xs i x 0 within in
        omega (arith, got, few)
    by_place (inr other) = omega (arith, get_or-set_other xs i k x 0 other, all k)
