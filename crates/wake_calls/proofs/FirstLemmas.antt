-- The first sleeper of a word.
use Rattle.std.proofs.Common.{◌≡◌, ℕ, ◌+◌, ◌*◌, ◌<◌, w64, inl, inr, ap, subst, arith}
use Rattle.std.proofs.lemmas.Bool.{cases_eq}
use Rattle.std.proofs.lemmas.Nat.Bits.{bit_at-trailing_zeros, bit_at_above}
use Rattle.std.specs.Int.{bit_at, trailing_zeros}
use Rattle.wake_pool.specs.declared.layout.TheConstants.{SEARCH, WORD_WORKERS}
use Rattle.wake_pool.specs.Words.{bit_of}
use Rattle.wake_calls.specs.declared.waking.Wake.{Wake}
use Rattle.wake_calls.specs.declared.waking.Wake.TheVariants.{Worker}

pub first_bit : (seen : ℕ) → 0 < seen → seen < SEARCH
    → (trailing_zeros w64 seen < WORD_WORKERS) × (bit_at seen (trailing_zeros w64 seen) ≡ 1)
first_bit seen some free = (low, on)
  where
    on : bit_at seen (trailing_zeros w64 seen) ≡ 1
    on = (bit_at-trailing_zeros w64 seen some (omega (arith, free))).1

    within : trailing_zeros w64 seen < 64
    within = (bit_at-trailing_zeros w64 seen some (omega (arith, free))).0

    low : trailing_zeros w64 seen < WORD_WORKERS
    low = elim (cases_eq (trailing_zeros w64 seen) WORD_WORKERS) [
      | inl at ↦ absurd (omega (arith, on, ap (bit_at seen) at, bit_at_above seen WORD_WORKERS WORD_WORKERS free (omega arith)))
      | inr other ↦ omega (arith, within, other)
    ]

pub first_of_word : (word seen : ℕ) → 0 < seen → seen < SEARCH
    → bit_at seen (bit_of (word * WORD_WORKERS + trailing_zeros w64 seen)) ≡ 1
first_of_word word seen some free =
    let first = first_bit seen some free in
    let low : trailing_zeros w64 seen < WORD_WORKERS = first.0 in
    let same : trailing_zeros w64 seen ≡ bit_of (word * WORD_WORKERS + trailing_zeros w64 seen) = omega (arith, low) in
    subst (λ (i : ℕ). bit_at seen i ≡ 1) same first.1

-- the worker of an outcome
worker_in : Wake → ℕ
worker_in (Worker x) = x
worker_in _ = 0

pub same_worker : (x y : ℕ) → ◌≡◌ {A = Wake} (Worker x) (Worker y) → x ≡ y
unfolding worker_in
same_worker x y same = ap worker_in same
