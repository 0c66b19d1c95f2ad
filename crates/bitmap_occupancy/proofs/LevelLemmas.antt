-- The words of different levels differ.
use Rattle.std.proofs.Common.{◌≡◌, ℕ, zero, suc, ◌+◌, ◌-◌, ◌*◌, ◌/◌, ◌%◌, ◌^◌, ◌<◌, ◌≤◌, ◌⊎◌, inl, inr, mul-le-mul_right, suc-mul, arith, ap, sym, subst, ◌∙◌}
use Rattle.std.proofs.Math.Nat.{div-eq_of_lt}
use Rattle.std.proofs.lemmas.Bool.{cases_lt, cases_order}
use Rattle.std.proofs.lemmas.Nat.{pow_pos, pow-add, pow_below, shl-shr, shr-shr, div_below, div-add-mod'}
use Rattle.bitmap_tree.proofs.LayoutLemmas.{first_le, multiple, split_at}
use Rattle.bitmap_tree.specs.Rule.{first_word, word_count}
use Rattle.bitmap_occupancy.proofs.RunLemmas.{split_next, Ends, Goes}
use Rattle.bitmap_occupancy.proofs.WordLemmas.{word_is_in}
use Rattle.bitmap_occupancy.specs.InnerPass.{width, word_at, IsDone, IsPassed}

pub unit : (p l : ℕ) → p / 2 ^ (6 * l) / 64 ≡ p / width l
unit p l = shr-shr p (6 * l) 6

pub word_here : (n l p : ℕ) → l ≤ n / 6 → p < 2 ^ n → word_at n l p < word_count n
word_here n l p low below = subst (λ x. first_word (n / 6 - l) + x < word_count n) (unit p l) (word_is_in n l p low below)

-- the words of one level more
next_first : (d : ℕ) → first_word d + 2 ^ (6 * d) ≡ 64 * first_word d + 1
next_first zero = omega arith
next_first (suc d) =
    let parts : 6 * suc d ≡ 6 + 6 * d = omega arith in
    let more : 2 ^ (6 * suc d) ≡ 64 * 2 ^ (6 * d) = ap (λ e. 2 ^ e) parts ∙ pow-add 2 6 (6 * d) in
    omega (arith, more, next_first d)

level_before : (d e m : ℕ) → d < e → m < 2 ^ (6 * d) → first_word d + m < first_word e
level_before d e m less few =
    let whole : e - suc d + suc d ≡ e = omega (arith, less) in
    let order : first_word (suc d) ≤ first_word e = subst (λ x. first_word (suc d) ≤ first_word x) whole (first_le (suc d) (e - suc d)) in
    omega (arith, order, few, next_first d)

apart_levels : (d e m k : ℕ) → m < 2 ^ (6 * d) → k < 2 ^ (6 * e) → first_word d + m ≡ first_word e + k → (d ≡ e) × (m ≡ k)
apart_levels d e m k few_m few_k same = by_order (cases_order d e)
  where
    by_order : (d ≡ e) ⊎ ((d < e) ⊎ (e < d)) → (d ≡ e) × (m ≡ k)
    by_order (inl is) = let first : first_word d ≡ first_word e = ap first_word is in (is, omega (arith, first, same))
    by_order (inr (inl less)) = absurd (omega (arith, level_before d e m less few_m, same))
    by_order (inr (inr more)) = absurd (omega (arith, level_before e d k more few_k, same))

-- the top level has one word
pub in_top : (n p : ℕ) → p ≤ 2 ^ n → p < width (n / 6)
in_top n p within =
    let less : n < 6 * (n / 6) + 6 = omega arith in
    let most : 2 ^ n < width (n / 6) = pow_below n (6 * (n / 6) + 6) less in
    omega (arith, most, within)

pub top_number : (n p : ℕ) → p ≤ 2 ^ n → p / width (n / 6) ≡ 0
top_number n p within = div-eq_of_lt (in_top n p within)

-- the number of a word that begins with a processor
pub number_of : (l m p : ℕ) → m * width l ≡ p → m ≡ p / width l
number_of l m p is = sym (shl-shr m (6 * l + 6)) ∙ ap (λ x. x / width l) is

-- a processor that is the first of its word
pub begins : (l p : ℕ) → p % width l ≡ 0 → p / width l * width l ≡ p
begins l p first = omega (arith, div-add-mod' p (width l), first)

pub begins_not : (l m p : ℕ) → m * width l ≡ p → p % width l ≡ 0
begins_not l m p is = ap (λ x. x % width l) (sym is) ∙ multiple m (6 * l + 6)

pub passed_few : (n p done l m : ℕ) → l ≤ n / 6 → p < 2 ^ n → IsPassed n p done l m → m < 2 ^ (6 * (n / 6 - l))
passed_few n p done l m low below passed = subst (λ x. x < 2 ^ (6 * (n / 6 - l))) (shl-shr m (6 * l + 6)) (div_below (m * width l) (width l) (2 ^ (6 * (n / 6 - l))) (pow_pos (6 * l + 6)) (few passed))
  where
    parts : 6 * (n / 6) + 6 ≡ 6 * (n / 6 - l) + (6 * l + 6)
    parts = omega (arith, low)

    whole : width (n / 6) ≡ 2 ^ (6 * (n / 6 - l)) * width l
    whole = ap (λ e. 2 ^ e) parts ∙ pow-add 2 (6 * (n / 6 - l)) (6 * l + 6)

    few : IsPassed n p done l m → m * width l < 2 ^ (6 * (n / 6 - l)) * width l
    few (inl before) = omega (arith, whole, in_top n p (omega (arith, below)), before)
    few (inr here) = omega (arith, whole, in_top n p (omega (arith, below)), here.0)

-- two words that were passed and are one
pub same_word : (n p done l m j k : ℕ) → p < 2 ^ n → l ≤ n / 6 → j ≤ n / 6
    → IsPassed n p done l m → IsPassed n p done j k
    → first_word (n / 6 - l) + m ≡ first_word (n / 6 - j) + k
    → (l ≡ j) × (m ≡ k)
same_word n p done l m j k below low_l low_j passed_l passed_j same =
    let both = apart_levels (n / 6 - l) (n / 6 - j) m k (passed_few n p done l m low_l below passed_l) (passed_few n p done j k low_j below passed_j) same in
    (omega (arith, both.0, low_l, low_j), both.1)

-- the word of the next processor
pub next_word : (n l p : ℕ) → p < 2 ^ n → IsDone n 0 l ⊎ ((p + 1) % width l ≡ 0 → ⊥)
    → word_at n l (p + 1) ≡ word_at n l p
next_word n l p below (inl (inl less)) = absurd (omega (arith, less))
next_word n l p below (inl (inr top)) =
    let next : (p + 1) / width (n / 6) ≡ 0 = top_number n (p + 1) (omega (arith, below)) in
    let this : p / width (n / 6) ≡ 0 = top_number n p (omega (arith, below)) in
    subst (λ j. word_at n j (p + 1) ≡ word_at n j p) (sym top) (ap (λ x. first_word (n / 6 - n / 6) + x) (next ∙ sym this))
next_word n l p below (inr part) = by_next (split_next p (6 * l + 6))
  where
    by_next : Ends p (6 * l + 6) ⊎ Goes p (6 * l + 6) → word_at n l (p + 1) ≡ word_at n l p
    by_next (inl e) = absurd (part e.whole)
    by_next (inr g) = ap (λ x. first_word (n / 6 - l) + x) g.same

-- each word of a level begins with a processor of the machine
pub word_begins : (n l m : ℕ) → m < 2 ^ (n - 6 * l - 6) → m * width l < 2 ^ n
word_begins n l m few = by_size (cases_lt n (6 * l + 6))
  where
    by_size : (n < 6 * l + 6) ⊎ (6 * l + 6 ≤ n) → m * width l < 2 ^ n
    by_size (inl small) =
        let none : n - 6 * l - 6 ≡ 0 = omega (arith, small) in
        let one : m < 1 = subst (λ e. m < 2 ^ e) none few in
        let zero_m : m ≡ 0 = omega (arith, one) in
        let product : m * width l ≡ 0 * width l = ap (λ x. x * width l) zero_m in
        omega (arith, product, pow_pos n)
    by_size (inr large) =
        let parts : 2 ^ (n - (6 * l + 6)) * 2 ^ (6 * l + 6) ≡ 2 ^ n = split_at n (6 * l + 6) large in
        let same : n - 6 * l - 6 ≡ n - (6 * l + 6) = omega arith in
        let less : m < 2 ^ (n - (6 * l + 6)) = subst (λ e. m < 2 ^ e) same few in
        let next : suc m * width l ≤ 2 ^ (n - (6 * l + 6)) * width l = mul-le-mul_right (width l) less in
        omega (arith, parts, next, suc-mul m (width l), pow_pos (6 * l + 6))
