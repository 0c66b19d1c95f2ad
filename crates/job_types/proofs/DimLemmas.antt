-- What fixes dim_of p: it is the least k such that 2 ^ k is at least p.
use Rattle.std.proofs.Common.{◌≡◌, ℕ, zero, suc, ◌+◌, ◌-◌, ◌*◌, ◌%◌, ◌<◌, ◌≤◌, ◌^◌, inl, inr, arith, ltb}
use Rattle.std.proofs.lemmas.Nat.{pow_pos}
use Rattle.std.proofs.lemmas.Bool.{cases_Bool, ltb-true, ltb-false}
use Rattle.std.proofs.Math.Pow.{pow-lt, pow_mono}
use Rattle.job_types.specs.Dim.{dim_of, search_up, IsLeastDim}

-- a number is at most its power of two
pub le-pow : (p : ℕ) → p ≤ 2 ^ p
le-pow zero = omega arith
le-pow (suc p) = omega (arith, le-pow p, pow_pos p)

-- the search ends at a power that is at least p, if there is one within its steps
pub le-pow-search_up : (steps k p n : ℕ) → n ≡ k + steps → p ≤ 2 ^ n → p ≤ 2 ^ search_up steps k p
unfolding search_up
le-pow-search_up zero k p n end h = let here : n ≡ k = omega arith in rw here at h
le-pow-search_up (suc steps) k p n end h =
    elim (cases_Bool (ltb (2 ^ k) p)) [
      | inl low ↦ rw low (le-pow-search_up steps (k + 1) p n (omega arith) h)
      | inr high ↦ rw high (ltb-false (2 ^ k) p high)
    ]

-- each power from the k-th on that the search passes is below p
pub search_up_passes : (steps k p i : ℕ) → k ≤ i → i < search_up steps k p → 2 ^ i < p
unfolding search_up
search_up_passes zero k p i from below = absurd (omega arith)
search_up_passes (suc steps) k p i from below =
    elim (cases_Bool (ltb (2 ^ k) p)) [
      | inl low ↦
          elim (cases_Bool (ltb k i)) [
            | inl later ↦
                let past : k + 1 ≤ i = omega (arith, ltb-true k i later) in
                search_up_passes steps (k + 1) p i past (rw low at below)
            | inr first ↦
                let here : i ≡ k = omega (arith, ltb-false k i first) in
                rw here (ltb-true (2 ^ k) p low)
          ]
      | inr high ↦ let stop : i < k = rw high at below in absurd (omega arith)
    ]

-- 2 ^ dim_of p is large enough
pub le-pow-dim_of : (p : ℕ) → p ≤ 2 ^ dim_of p
unfolding dim_of
le-pow-dim_of p = le-pow-search_up p 0 p p (omega arith) (le-pow p)

-- and no lower power is
pub below_dim_of : (p k : ℕ) → k < dim_of p → 2 ^ k < p
unfolding dim_of
below_dim_of p k below = search_up_passes p 0 p k (omega arith) below

pub dim_of-least : (p : ℕ) → IsLeastDim p (dim_of p)
dim_of-least p = record {
  enough = le-pow-dim_of p;
  least = λ j enough. (let below : j < dim_of p → 2 ^ j < p = below_dim_of p j in grind arith);
}

-- no two numbers are the least
pub least_dim_unique : (p j k : ℕ) → IsLeastDim p j → IsLeastDim p k → j ≡ k
least_dim_unique p j k first second =
    let low : j ≤ k = first.least k second.enough in
    let high : k ≤ j = second.least j first.enough in
    omega arith

pub least_is_dim_of : (p k : ℕ) → IsLeastDim p k → k ≡ dim_of p
least_is_dim_of p k least = least_dim_unique p k (dim_of p) least (dim_of-least p)

-- the number of binary digits of p - 1
pub least_by_digits : (p k : ℕ) → 0 < p → p - 1 < 2 ^ k → 2 ^ k ≤ 2 * (p - 1) + 1 → IsLeastDim p k
least_by_digits p k some fits full = record {
  enough = omega (arith, some, fits);
  least = λ j enough. (let next : suc j ≤ k → 2 ^ suc j ≤ 2 ^ k = λ h. pow_mono h in grind arith);
}

-- what `1 << k` gives
pub shifted_one : (k : ℕ) → k < 64 → 1 * 2 ^ k % 2 ^ 64 ≡ 2 ^ k
shifted_one k fits = let within : 2 ^ k < 2 ^ 64 = pow-lt fits in omega arith
