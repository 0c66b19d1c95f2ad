-- The free blocks that end with one more processor.
use Rattle.std.proofs.Common.{◌≡◌, ◌≢◌, ℕ, suc, ◌+◌, ◌-◌, ◌*◌, ◌/◌, ◌%◌, ◌^◌, ◌<◌, ◌≤◌, ◌⊎◌, inl, inr, List, suc-mul, arith, ap, sym, subst, ◌∙◌}
use Rattle.std.proofs.Math.Pow.{pow_mono}
use Rattle.std.proofs.lemmas.Bool.{cases_lt}
use Rattle.std.proofs.lemmas.Nat.{pow_pos, div-add-mod', mod_below, mod_low, shr_high, mod-pow-add}
use Rattle.cube_shape.specs.Region.{block}
use Rattle.alloc_bits.specs.Count.{IsCount}
use Rattle.bitmap_occupancy.proofs.CountLemmas.{counts_more, counts_same}
use Rattle.bitmap_occupancy.specs.InnerRuns.{IsRun}
use Rattle.bitmap_occupancy.specs.Occupancy.{IsFreeAt}

-- a block ends with the processor
pub record Ends (p k : ℕ) : Type 0 where
  pub whole : (p + 1) % 2 ^ k ≡ 0
  pub next : (p + 1) / 2 ^ k ≡ p / 2 ^ k + 1
  pub ends : p / 2 ^ k * 2 ^ k + 2 ^ k ≡ p + 1

-- no block ends with it
pub record Goes (p k : ℕ) : Type 0 where
  pub part : (p + 1) % 2 ^ k ≢ 0
  pub same : (p + 1) / 2 ^ k ≡ p / 2 ^ k

pub split_next : (p k : ℕ) → Ends p k ⊎ Goes p k
split_next p k = by_rest (cases_lt (p % 2 ^ k + 1) (2 ^ k))
  where
    by_rest : (p % 2 ^ k + 1 < 2 ^ k) ⊎ (2 ^ k ≤ p % 2 ^ k + 1) → Ends p k ⊎ Goes p k
    by_rest (inl less) =
        let is : p + 1 ≡ p / 2 ^ k * 2 ^ k + (p % 2 ^ k + 1) = omega (arith, div-add-mod' p (2 ^ k)) in
        let rest : (p + 1) % 2 ^ k ≡ p % 2 ^ k + 1 = ap (λ x. x % 2 ^ k) is ∙ mod_low (p / 2 ^ k) k (p % 2 ^ k + 1) less in
        inr (record {
          part = λ e. absurd (omega (arith, rest, e));
          same = ap (λ x. x / 2 ^ k) is ∙ shr_high (p / 2 ^ k) k (p % 2 ^ k + 1) less;
        })
    by_rest (inr most) =
        let whole : p % 2 ^ k + 1 ≡ 2 ^ k = omega (arith, most, mod_below p (2 ^ k) (pow_pos k)) in
        let ends : p / 2 ^ k * 2 ^ k + 2 ^ k ≡ p + 1 = omega (arith, div-add-mod' p (2 ^ k), whole) in
        let is : p + 1 ≡ suc (p / 2 ^ k) * 2 ^ k + 0 = omega (arith, ends, suc-mul (p / 2 ^ k) (2 ^ k)) in
        let next : suc (p / 2 ^ k) ≡ p / 2 ^ k + 1 = omega arith in
        inl (record {
          whole = ap (λ x. x % 2 ^ k) is ∙ mod_low (suc (p / 2 ^ k)) k 0 (pow_pos k);
          next = ap (λ x. x / 2 ^ k) is ∙ shr_high (suc (p / 2 ^ k)) k 0 (pow_pos k) ∙ next;
          ends = ends;
        })

-- no free block of dimension `k` ends with the last processor below `past`
abbrev pub EndsNone : ℕ → ℕ → ℕ → Type 0
EndsNone past from k = (past % 2 ^ k ≢ 0) ⊎ (past < from + 2 ^ k)

lower_zero : (x k j : ℕ) → k ≤ j → x % 2 ^ j ≡ 0 → x % 2 ^ k ≡ 0
lower_zero x k j le zero =
    let parts : j - k + k ≡ j = omega arith in
    let same : x % 2 ^ (j - k + k) ≡ 0 = subst (λ e. x % 2 ^ e ≡ 0) (sym parts) zero in
    omega (arith, same, mod-pow-add x (j - k) k)

pub none_later : (past from k j : ℕ) → k ≤ j → EndsNone past from k → EndsNone past from j
none_later past from k j le (inl part) = inl (λ whole. part (lower_zero past k j le whole))
none_later past from k j le (inr short) = let more : 2 ^ k ≤ 2 ^ j = pow_mono le in inr (omega (arith, short, more))

is_free : (n : ℕ) (words : List ℕ) (from p k : ℕ) → IsRun n words (p + 1) from
    → p / 2 ^ k * 2 ^ k + 2 ^ k ≡ p + 1 → from + 2 ^ k ≤ p + 1 → IsFreeAt n words (block k (p / 2 ^ k))
is_free n words from p k run ends fits = λ q covers held. run.clear q (omega (arith, covers.0, ends, fits)) (omega (arith, covers.1, ends)) held

is_not_free : (n : ℕ) (words : List ℕ) (from p k : ℕ) → IsRun n words (p + 1) from → from ≤ p + 1
    → p / 2 ^ k * 2 ^ k + 2 ^ k ≡ p + 1 → p + 1 < from + 2 ^ k → IsFreeAt n words (block k (p / 2 ^ k)) → ⊥
is_not_free n words from p k run within ends short = λ free.
    free (from - 1) (omega (arith, ends, short), omega (arith, ends, within, short)) (run.before (omega (arith, ends, short)))

-- one block more is free
pub ends_more : (n : ℕ) (words : List ℕ) (from p k count : ℕ) → IsRun n words (p + 1) from
    → (p + 1) % 2 ^ k ≡ 0 → from + 2 ^ k ≤ p + 1
    → IsCount (λ m. IsFreeAt n words (block k m)) (p / 2 ^ k) count
    → IsCount (λ m. IsFreeAt n words (block k m)) ((p + 1) / 2 ^ k) (count + 1)
ends_more n words from p k count run whole fits counted = by_next (split_next p k)
  where
    P : ℕ → Type 0
    P m = IsFreeAt n words (block k m)

    by_next : Ends p k ⊎ Goes p k → IsCount P ((p + 1) / 2 ^ k) (count + 1)
    by_next (inl e) = subst (λ m. IsCount P m (count + 1)) (sym e.next) (counts_more P (p / 2 ^ k) count counted (is_free n words from p k run e.ends fits))
    by_next (inr g) = absurd (g.part whole)

-- no block more is free
pub ends_same : (n : ℕ) (words : List ℕ) (from p k count : ℕ) → IsRun n words (p + 1) from → from ≤ p + 1
    → EndsNone (p + 1) from k
    → IsCount (λ m. IsFreeAt n words (block k m)) (p / 2 ^ k) count
    → IsCount (λ m. IsFreeAt n words (block k m)) ((p + 1) / 2 ^ k) count
ends_same n words from p k count run within none counted = by_next (split_next p k) none
  where
    P : ℕ → Type 0
    P m = IsFreeAt n words (block k m)

    by_next : Ends p k ⊎ Goes p k → EndsNone (p + 1) from k → IsCount P ((p + 1) / 2 ^ k) count
    by_next (inl e) (inl part) = absurd (part e.whole)
    by_next (inl e) (inr short) = subst (λ m. IsCount P m count) (sym e.next) (counts_same P (p / 2 ^ k) count counted (is_not_free n words from p k run within e.ends short))
    by_next (inr g) which = subst (λ m. IsCount P m count) (sym g.same) counted
