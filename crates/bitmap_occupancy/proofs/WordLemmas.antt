-- Where the bits of a processor lie.
use Rattle.std.proofs.Common.{◌≡◌, ℕ, ◌+◌, ◌-◌, ◌*◌, ◌/◌, ◌%◌, ◌^◌, ◌<◌, ◌≤◌, ◌⊎◌, inl, inr, List, length, slice_index_or, arith, ap, ◌∙◌}
use Rattle.std.proofs.Math.Nat.{le-div_iff_mul-le}
use Rattle.std.proofs.Math.Pow.{pow_mono}
use Rattle.std.proofs.lemmas.Bool.{cases_order}
use Rattle.std.proofs.lemmas.List.{get_or_default}
use Rattle.std.proofs.lemmas.Nat.{pow_pos}
use Rattle.bitmap_tree.proofs.LayoutLemmas.{split_at, word_there}
use Rattle.bitmap_tree.specs.Rule.{bit_of, first_word, word_count}

-- a number below a product is few times the factor
few_times : (p x y : ℕ) → 0 < x → p < y * x → p / x < y
few_times p x y some below = by_order (cases_order (p / x) y)
  where
    over : y ≤ p / x → p / x < y
    over most = let many : y * x ≤ p = (le-div_iff_mul-le some).0 most in absurd (omega (arith, many, below))

    by_order : (p / x ≡ y) ⊎ ((p / x < y) ⊎ (y < p / x)) → p / x < y
    by_order (inl same) = over (omega (arith, same))
    by_order (inr (inl less)) = less
    by_order (inr (inr more)) = over (omega (arith, more))

-- the number of the word of a processor in a level
word_few : (j q : ℕ) → q < 2 ^ j → q / 64 < 2 ^ (j - 6)
word_few j q below = by_order (cases_order j 6)
  where
    some : 0 < 2 ^ (j - 6)
    some = pow_pos (j - 6)

    many : 6 ≤ j → q / 64 < 2 ^ (j - 6)
    many le = let parts : 2 ^ (j - 6) * 2 ^ 6 ≡ 2 ^ j = split_at j 6 le in omega (arith, parts, below)

    by_order : (j ≡ 6) ⊎ ((j < 6) ⊎ (6 < j)) → q / 64 < 2 ^ (j - 6)
    by_order (inl same) = many (omega (arith, same))
    by_order (inr (inl less)) = let le : j ≤ 6 = omega (arith, less) in let most : 2 ^ j ≤ 2 ^ 6 = pow_mono le in omega (arith, most, below, some)
    by_order (inr (inr more)) = many (omega (arith, more))

pub word_is_in : (n l p : ℕ) → l ≤ n / 6 → p < 2 ^ n
    → first_word (n / 6 - l) + p / 2 ^ (6 * l) / 64 < word_count n
word_is_in n l p low below =
    let fits : 6 * l ≤ n = omega (arith, low) in
    let parts : 2 ^ (n - 6 * l) * 2 ^ (6 * l) ≡ 2 ^ n = split_at n (6 * l) fits in
    let few : p / 2 ^ (6 * l) < 2 ^ (n - 6 * l) = few_times p (2 ^ (6 * l)) (2 ^ (n - 6 * l)) (pow_pos (6 * l)) (omega (arith, parts, below)) in
    word_there n l (p / 2 ^ (6 * l) / 64) (word_few (n - 6 * l) (p / 2 ^ (6 * l)) few)

-- the bit as the code reads it
pub bit_is : (words : List ℕ) (f q : ℕ) → f + q / 64 < length words
    → bit_of words (64 * f + q) ≡ slice_index_or words (f + q / 64) 0 / 2 ^ (q % 64) % 2
bit_is words f q within =
    let word : (64 * f + q) / 64 ≡ f + q / 64 = omega arith in
    let bit : (64 * f + q) % 64 ≡ q % 64 = omega arith in
    ap (λ i. slice_index_or words i 18446744073709551615 / 2 ^ ((64 * f + q) % 64) % 2) word
    ∙ (ap (λ b. slice_index_or words (f + q / 64) 18446744073709551615 / 2 ^ b % 2) bit
    ∙ ap (λ w. w / 2 ^ (q % 64) % 2) (get_or_default words (f + q / 64) 18446744073709551615 0 within))
