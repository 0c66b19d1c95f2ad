-- The words in which a processor lies.
use Rattle.std.proofs.Common.{◌≡◌, ◌≢◌, ℕ, ◌+◌, ◌-◌, ◌*◌, ◌/◌, ◌%◌, ◌^◌, ◌<◌, ◌≤◌, ◌⊎◌, ◌↔◌, inl, inr, List, length, slice_index, slice_set, arith, ap, sym, ◌∙◌, subst}
use Rattle.std.specs.Int.{bit_at}
use Rattle.std.proofs.Math.Nat.{zero-div}
use Rattle.std.proofs.lemmas.Bool.{cases_eq}
use Rattle.std.proofs.lemmas.Nat.{div-add-mod'}
use Rattle.std.proofs.lemmas.List.{get_or-set_other, get_or-set_same}
use Rattle.bitmap_tree.specs.Layout.{place_in}
use Rattle.bitmap_tree.specs.Rule.{bit_of, first_word, word_count}
use Rattle.bitmap_occupancy.proofs.LevelLemmas.{next_word, unit}
use Rattle.bitmap_occupancy.proofs.ReadLemmas.{all_done}
use Rattle.bitmap_occupancy.proofs.WordLemmas.{bit_is, word_is_in}
use Rattle.bitmap_occupancy.specs.InnerPass.{width, word_at, IsDone, IsHeldOn, IsPath}
use Rattle.bitmap_occupancy.specs.Occupancy.{IsHeldAt}

done_less : (n done l : ℕ) → (l ≡ done → ⊥) → IsDone n (done + 1) l → IsDone n done l
done_less n done l other (inl less) = inl (omega (arith, less, other))
done_less n done l other (inr top) = inr top

pub path_read : (n p done v found : ℕ) (words path : List ℕ) → done < length path → v ≡ word_at n done p
    → slice_index words v ≡ found → IsPath n p done words path → IsPath n p (done + 1) words (slice_set path done found)
path_read n p done v found words path within is has before l low which = by_level (cases_eq l done) which
  where
    by_level : (l ≡ done) ⊎ (l ≡ done → ⊥) → IsDone n (done + 1) l ⊎ (p % width l ≢ 0)
        → slice_index (slice_set path done found) l ≡ slice_index words (word_at n l p)
    by_level (inl same) w =
        let got : slice_index (slice_set path done found) l ≡ found = ap (slice_index (slice_set path done found)) same ∙ get_or-set_same path done found 0 within in
        got ∙ sym has ∙ ap (slice_index words) (is ∙ ap (λ j. word_at n j p) (sym same))
    by_level (inr other) (inl d) = get_or-set_other path done l found 0 other ∙ before l low (inl (done_less n done l other d))
    by_level (inr other) (inr part) = get_or-set_other path done l found 0 other ∙ before l low (inr part)

pub path_none : (n p done : ℕ) (words path : List ℕ) → p % width done ≢ 0 → IsPath n p done words path → IsPath n p (done + 1) words path
path_none n p done words path part before l low which = by_level (cases_eq l done) which
  where
    by_level : (l ≡ done) ⊎ (l ≡ done → ⊥) → IsDone n (done + 1) l ⊎ (p % width l ≢ 0) → slice_index path l ≡ slice_index words (word_at n l p)
    by_level (inl same) w = before l low (inr (subst (λ j. p % width j ≢ 0) (sym same) part))
    by_level (inr other) (inl d) = before l low (inl (done_less n done l other d))
    by_level (inr other) (inr rest) = before l low (inr rest)

pub path_next : (n p : ℕ) (words path : List ℕ) → p < 2 ^ n → IsPath n p (n / 6) words path → IsPath n (p + 1) 0 words path
path_next n p words path below before l low which = before l low (inl (all_done n l low)) ∙ ap (slice_index words) (sym (next_word n l p below which))

pub path_first : (n top : ℕ) (words path : List ℕ) → slice_index words 0 ≡ top → ((l : ℕ) → l ≤ n / 6 → slice_index path l ≡ top) → IsPath n 0 0 words path
path_first n top words path has all l low which = by_level which
  where
    number : 0 / width l ≡ 0
    number = zero-div (width l)

    by_level : IsDone n 0 l ⊎ (0 % width l ≢ 0) → slice_index path l ≡ slice_index words (word_at n l 0)
    by_level (inl (inl less)) = absurd (omega (arith, less))
    by_level (inl (inr last)) =
        let none : n / 6 - l ≡ 0 = omega (arith, last) in
        let first : first_word (n / 6 - l) ≡ 0 = ap first_word none in
        let here : word_at n l 0 ≡ 0 = omega (arith, first, number) in
        all l low ∙ sym has ∙ ap (slice_index words) (sym here)
    by_level (inr part) =
        let product : 0 / width l * width l ≡ 0 * width l = ap (λ x. x * width l) number in
        absurd (part (omega (arith, div-add-mod' 0 (width l), product)))

held_bit : (n p l : ℕ) (words path : List ℕ) → length words ≡ word_count n → p < 2 ^ n → l ≤ n / 6
    → slice_index path l ≡ slice_index words (word_at n l p)
    → bit_of words (place_in n l p) ≡ bit_at (slice_index path l) (p / 2 ^ (6 * l) % 64)
held_bit n p l words path count below low is =
    let q = p / 2 ^ (6 * l) in let f = first_word (n / 6 - l) in
    let there = word_is_in n l p low below in
    let within : f + q / 64 < length words = omega (arith, there, count) in
    let same : slice_index words (f + q / 64) ≡ slice_index path l = ap (λ x. slice_index words (f + x)) (unit p l) ∙ sym is in
    bit_is words f q within ∙ ap (λ w. w / 2 ^ (q % 64) % 2) same

-- the words of the path say whether the processor is held
pub held_path : (n p : ℕ) (words path : List ℕ) → length words ≡ word_count n → p < 2 ^ n → IsPath n p (n / 6) words path
    → IsHeldOn n path p ↔ IsHeldAt n words p
held_path n p words path count below is = (λ on l low. bit l low ∙ on l low, λ held l low. sym (bit l low) ∙ held l low)
  where
    bit : (l : ℕ) → l ≤ n / 6 → bit_of words (place_in n l p) ≡ bit_at (slice_index path l) (p / 2 ^ (6 * l) % 64)
    bit l low = held_bit n p l words path count below low (is l low (inl (all_done n l low)))
