-- The words that a sweep has gone over, and those that a scan has.
use Rattle.std.proofs.Common.{inl, inr, ◌⊎◌, ◌≡◌, ◌≢◌, ℕ, ◌+◌, ◌-◌, ◌*◌, ◌/◌, ◌%◌, ◌^◌, ◌<◌, ◌≤◌, min, max, List, sym, ◌∙◌, ap, subst, arith, add-mul}
use Rattle.std.proofs.lemmas.Bool.{cases_eq, cases_lt}
use Rattle.bitmap_tree.specs.declared.no_block.NoBlock.{NoBlock}
use Rattle.bitmap_tree.specs.declared.no_block.NoBlock.TheVariants.{Disturbed, Full}
use Rattle.bitmap_tree.specs.declared.view.Note.{Note}
use Rattle.bitmap_tree.specs.declared.view.Run.{Run}
use Rattle.std.proofs.Math.Pow.{pow_mono}
use Rattle.std.proofs.lemmas.Nat.{pow_pos, div_below}
use Rattle.bitmap_tree.specs.Rule.{first_word}
use Rattle.bitmap_tree.specs.InnerLayout.{Grows}
use Rattle.bitmap_tree.specs.Layout.{Known}
use Rattle.bitmap_tree.specs.InnerSteps.{after}
use Rattle.bitmap_tree.specs.InnerTrail.{HasBit, HasPast, IsFullWord, StepsOn, left_by}
use Rattle.bitmap_tree.specs.Trail.{WasDisturbed}
use Rattle.bitmap_tree.proofs.AloneLemmas.{disturbed_then, left_here, left_other, steps_one}
use Rattle.bitmap_tree.proofs.FreeLemmas.{first_order, level_all, level_end}
use Rattle.bitmap_tree.proofs.LayoutLemmas.{mul_le}
use Rattle.bitmap_tree.proofs.TrailLemmas.{all_bits, some_bit}

-- what was left in a word that a step did not touch
kept_bit : (a b w from len : ℕ) → b ≡ a → HasBit a from len → HasBit b from len
kept_bit a b w from len same bit = subst (λ x. HasBit x from len) (sym same) bit

-- ---- a sweep

-- one word more has a bit
pub used_next : (f first number : ℕ) (old new : List Note)
    → ((w : ℕ) → first ≤ w → w < number → HasBit (left_by old (f + w)) 0 64)
    → HasBit (left_by new (f + number)) 0 64
    → ((w : ℕ) → f ≤ w → w ≢ f + number → left_by new w ≡ left_by old w)
    → (w : ℕ)
    → first ≤ w
    → w < number + 1
    → HasBit (left_by new (f + w)) 0 64
used_next f first number old new before here below w from less = elim (cases_lt w number) [
  | inl earlier ↦
      kept_bit (left_by old (f + w)) (left_by new (f + w)) w 0 64
      (below (f + w) (omega arith) (λ same. absurd (omega (arith, same, earlier)))) (before w from earlier)
  | inr last ↦ let same : number ≡ w = omega (arith, last, less) in subst (λ x. HasBit (left_by new (f + x)) 0 64) same here
]

-- the levels below stay as they are
pub below_next : (n level number : ℕ) (old mid new : List Note)
    → level ≤ n / 6
    → number < 2 ^ (n - 6 * level - 6)
    → ((w : ℕ) → first_word (n / 6 + 1 - level) ≤ w → left_by mid w ≡ left_by old w)
    → ((w : ℕ)
    → first_word (n / 6 - level) ≤ w
    → w ≢ first_word (n / 6 - level) + number
    → left_by new w ≡ left_by mid w)
    → (w : ℕ)
    → first_word (n / 6 + 1 - level) ≤ w
    → left_by new w ≡ left_by old w
below_next n level number old mid new low there before step w past =
    let end = level_end n level number low there in
    step w (omega (arith, end, past)) (λ same. absurd (omega (arith, end, past, same))) ∙ before w past

-- one level more was swept
pub swept_next : (n limit level : ℕ) (from_of count_of : ℕ → ℕ) (old new : List Note)
    → level ≤ n / 6
    → ((s w : ℕ)
    → s < level
    → from_of s ≤ w
    → w < from_of s + count_of s
    → HasBit (left_by old (first_word (n / 6 - s) + w)) 0 64)
    → ((w : ℕ)
    → from_of level ≤ w
    → w < from_of level + count_of level
    → HasBit (left_by new (first_word (n / 6 - level) + w)) 0 64)
    → ((w : ℕ) → first_word (n / 6 + 1 - level) ≤ w → left_by new w ≡ left_by old w)
    → (s w : ℕ)
    → s < level + 1
    → from_of s ≤ w
    → w < from_of s + count_of s
    → HasBit (left_by new (first_word (n / 6 - s) + w)) 0 64
swept_next n limit level from_of count_of old new low before here below s w less from within = elim (cases_lt s level) [
  | inl earlier ↦
      let order : first_word (n / 6 + 1 - level) ≤ first_word (n / 6 - s) = first_order (n / 6 + 1 - level) (n / 6 - s) (omega (arith, earlier, low)) in
      kept_bit (left_by old (first_word (n / 6 - s) + w)) (left_by new (first_word (n / 6 - s) + w)) w 0 64
      (below (first_word (n / 6 - s) + w) (omega (arith, order))) (before s w earlier from within)
  | inr last ↦
      let same : level ≡ s = omega (arith, last, less) in
      subst (λ x. HasBit (left_by new (first_word (n / 6 - x) + w)) 0 64) same
      (here w (subst (λ x. from_of x ≤ w) (sym same) from) (subst (λ x. w < from_of x + count_of x) (sym same) within))
]

-- ---- a scan

-- one word more was left without room, unless it was given up
pub left_full_next : (size k f word : ℕ) (why more both : NoBlock) (old new : Known)
    → StepsOn (f + word) (f + word + 1) old new
    → (both ≡ Full → (why ≡ Full) × (more ≡ Full))
    → (why ≡ Full → (w : ℕ) → w < word → IsFullWord size k (left_by old.0.trail (f + w)))
    → (more ≡ Full → IsFullWord size k (left_by new.0.trail (f + word)))
    → both ≡ Full
    → (w : ℕ)
    → w < word + 1
    → IsFullWord size k (left_by new.0.trail (f + w))
left_full_next size k f word why more both old new steps parts before here full w less = elim (cases_lt w word) [
  | inl earlier ↦ subst (IsFullWord size k) (sym (steps.elsewhere (f + w) (inl (omega (arith, earlier))))) (before (parts full).0 w earlier)
  | inr last ↦ let same : word ≡ w = omega (arith, last, less) in subst (λ x. IsFullWord size k (left_by new.0.trail (f + x))) same (here (parts full).1)
]

-- another call made a step: in this part, or before
pub disturbed_next : (why more both : NoBlock) (old new : Known)
    → HasPast old new
    → (both ≡ Disturbed → (why ≡ Disturbed) ⊎ (more ≡ Disturbed))
    → (why ≡ Disturbed → WasDisturbed old.0.trail)
    → (more ≡ Disturbed → WasDisturbed new.0.trail)
    → both ≡ Disturbed
    → WasDisturbed new.0.trail
disturbed_next why more both old new past parts before here disturbed = elim (parts disturbed) [
  | inl was ↦ disturbed_then old new past (before was)
  | inr now ↦ here now
]

-- one level more was left without room
pub left_level_next : (n k low level : ℕ) (why more both : NoBlock) (old new : Known)
    → level ≤ n / 6
    → low ≤ level
    → StepsOn (first_word (n / 6 - level)) (first_word (n / 6 - level) + 2 ^ (n - 6 * level - 6))
    old new
    → (both ≡ Full → (why ≡ Full) × (more ≡ Full))
    → (why ≡ Full → (s w : ℕ) → low ≤ s → s < level → w < 2 ^ (n - 6 * s - 6)
    → IsFullWord (2 ^ min (n - 6 * s) 6) (max k (6 * s) % 6)
    (left_by old.0.trail (first_word (n / 6 - s) + w)))
    → (more ≡ Full → (w : ℕ) → w < 2 ^ (n - 6 * level - 6)
    → IsFullWord (2 ^ min (n - 6 * level) 6) (max k (6 * level) % 6)
    (left_by new.0.trail (first_word (n / 6 - level) + w)))
    → both ≡ Full
    → (s w : ℕ)
    → low ≤ s
    → s < level + 1
    → w < 2 ^ (n - 6 * s - 6)
    → IsFullWord (2 ^ min (n - 6 * s) 6) (max k (6 * s) % 6)
    (left_by new.0.trail (first_word (n / 6 - s) + w))
left_level_next n k low level why more both old new top least steps parts before here full s w from less there = elim (cases_lt s level) [
  | inl earlier ↦
      let order : first_word (n / 6 + 1 - level) ≤ first_word (n / 6 - s) = first_order (n / 6 + 1 - level) (n / 6 - s) (omega (arith, earlier, top)) in
      let end = level_all n level top in
      subst (IsFullWord (2 ^ min (n - 6 * s) 6) (max k (6 * s) % 6)) (sym (steps.elsewhere (first_word (n / 6 - s) + w) (inr (omega (arith, order, end)))))
      (before (parts full).0 s w from earlier there)
  | inr last ↦
      let same : level ≡ s = omega (arith, last, less) in
      subst (λ x. (w : ℕ) → w < 2 ^ (n - 6 * x - 6) → IsFullWord (2 ^ min (n - 6 * x) 6) (max k (6 * x) % 6) (left_by new.0.trail (first_word (n / 6 - x) + w))) same
      (here (parts full).1) w there
]

-- the steps of one level, as those of all levels from one up
pub level_steps : (n low level : ℕ) (old new : Known)
    → level ≤ n / 6
    → low ≤ level
    → StepsOn (first_word (n / 6 - level)) (first_word (n / 6 - level) + 2 ^ (n - 6 * level - 6))
    old new
    → StepsOn 0 (first_word (n / 6 + 1 - low)) old new
level_steps n low level old new top least steps =
    let order : first_word (n / 6 + 1 - level) ≤ first_word (n / 6 + 1 - low) = first_order (n / 6 + 1 - level) (n / 6 + 1 - low) (omega (arith, least)) in
    let end = level_all n level top in
    record {
      keeps = steps.keeps;
      released = steps.released;
      past = steps.past;
      elsewhere = λ w out. elim out [
        | inl less ↦ absurd (omega (arith, less))
        | inr past ↦ steps.elsewhere w (inr (omega (arith, past, order, end)))
      ];
    }

-- ---- single steps

-- a step on a word of a level leaves the levels below as they are
pub step_below : (n l f x found left : ℕ) (runs : List Run) (old new : Known)
    → l ≤ n / 6
    → f ≡ first_word (n / 6 - l)
    → x < 2 ^ (n - 6 * l - 6)
    → new ≡ after runs (f + x) found left old
    → (w : ℕ)
    → first_word (n / 6 + 1 - l) ≤ w
    → left_by new.0.trail w ≡ left_by old.0.trail w
step_below n l f x found left runs old new low is_f there is w past =
    let end = level_end n l x low there in
    ap (λ (m : Known). left_by m.0.trail w) is ∙ left_other (f + x) w found left old.0.trail (λ same. absurd (omega (arith, same, end, past, is_f)))

-- an exchange is one step, won or lost
pub exchange_steps : (old new : Known) (w result wanted left : ℕ) (won lost : List Run)
    → (result ≡ wanted → new ≡ after won w result left old)
    → (result ≢ wanted → new ≡ after lost w result result old)
    → StepsOn w (w + 1) old new
exchange_steps old new w result wanted left won lost on_won on_lost = elim (cases_eq result wanted) [
  | inl hit ↦ steps_one old new w result left (ap (λ (m : Known). m.0.trail) (on_won hit))
  | inr miss ↦ steps_one old new w result result (ap (λ (m : Known). m.0.trail) (on_lost miss))
]

-- an exchange that shuts an empty word leaves a bit in it, won or lost
pub shut_used : (old new : Known) (w result : ℕ) (won lost : List Run)
    → result < 18446744073709551616
    → (result ≡ 0 → new ≡ after won w result 18446744073709551615 old)
    → (result ≢ 0 → new ≡ after lost w result result old)
    → HasBit (left_by new.0.trail w) 0 64
shut_used old new w result won lost wide on_won on_lost = elim (cases_eq result 0) [
  | inl hit ↦ subst (λ x. HasBit x 0 64) (sym (left_here w result 18446744073709551615 old.0.trail new.0.trail (ap (λ (m : Known). m.0.trail) (on_won hit)))) all_bits
  | inr miss ↦ subst (λ x. HasBit x 0 64) (sym (left_here w result result old.0.trail new.0.trail (ap (λ (m : Known). m.0.trail) (on_lost miss)))) (some_bit result wide miss)
]

-- a word that was found with a bit
pub found_used : (old new : Known) (w result : ℕ) (runs : List Run)
    → result < 18446744073709551616
    → result ≢ 0
    → new ≡ after runs w result result old
    → HasBit (left_by new.0.trail w) 0 64
found_used old new w result runs wide more is = subst (λ x. HasBit x 0 64) (sym (left_here w result result old.0.trail new.0.trail (ap (λ (m : Known). m.0.trail) is))) (some_bit result wide more)

-- a release goes on one level up
pub release_next : (n low level : ℕ) (old mid new : List Note)
    → low ≤ level
    → ((w : ℕ) → first_word (n / 6 + 1 - low) ≤ w → left_by mid w ≡ left_by old w)
    → ((w : ℕ) → first_word (n / 6 + 1 - level) ≤ w → left_by new w ≡ left_by mid w)
    → (w : ℕ)
    → first_word (n / 6 + 1 - low) ≤ w
    → left_by new w ≡ left_by old w
release_next n low level old mid new order before step w past =
    let least : first_word (n / 6 + 1 - level) ≤ first_word (n / 6 + 1 - low) = first_order (n / 6 + 1 - level) (n / 6 + 1 - low) (omega (arith, order)) in
    step w (omega (arith, least, past)) ∙ before w past

-- the steps on one word of a level leave the levels below as they are
pub steps_below : (n l x : ℕ) (old new : Known)
    → l ≤ n / 6
    → x < 2 ^ (n - 6 * l - 6)
    → StepsOn (first_word (n / 6 - l) + x) (first_word (n / 6 - l) + x + 1) old new
    → (w : ℕ)
    → first_word (n / 6 + 1 - l) ≤ w
    → left_by new.0.trail w ≡ left_by old.0.trail w
steps_below n l x old new low there steps w past =
    let end = level_end n l x low there in
    steps.elsewhere w (inr (omega (arith, end, past)))

-- ---- steps are counted

pub sweep_grows : (n k level count : ℕ) (a b c : Known)
    → k ≤ n
    → count ≡ 2 ^ (k - 6 * level - 6)
    → Grows (10 * (level * 2 ^ (n - 6))) a b
    → Grows (10 * count) b c
    → Grows (10 * ((level + 1) * 2 ^ (n - 6))) a c
sweep_grows n k level count a b c fits is first then =
    let less : k - 6 * level - 6 ≤ n - 6 = omega (arith, fits) in
    let most : 2 ^ (k - 6 * level - 6) ≤ 2 ^ (n - 6) = pow_mono less in
    let sum : (level + 1) * 2 ^ (n - 6) ≡ level * 2 ^ (n - 6) + 1 * 2 ^ (n - 6) = add-mul level 1 (2 ^ (n - 6)) in
    omega (arith, most, sum, is, first, then)

-- one search of the words of a level
pub one_pass : (n x : ℕ) (a b : Known)
    → Grows (9 * 2 ^ (n - x - 6)) a b
    → Grows (18 * 2 ^ (n - 6)) a b
one_pass n x a b grows =
    let less : n - x - 6 ≤ n - 6 = omega arith in
    let most : 2 ^ (n - x - 6) ≤ 2 ^ (n - 6) = pow_mono less in
    omega (arith, most, grows)

-- two searches of the words of a level
pub two_passes : (n x : ℕ) (a b c : Known)
    → Grows (9 * 2 ^ (n - x - 6)) a b
    → Grows (9 * 2 ^ (n - x - 6)) b c
    → Grows (18 * 2 ^ (n - 6)) a c
two_passes n x a b c first then =
    let less : n - x - 6 ≤ n - 6 = omega arith in
    let most : 2 ^ (n - x - 6) ≤ 2 ^ (n - 6) = pow_mono less in
    omega (arith, most, first, then)

-- a scan of the levels from one up leaves the words below as they are
pub used_kept : (n low s w : ℕ) (old new : Known)
    → low ≤ n / 6
    → s < low
    → StepsOn 0 (first_word (n / 6 + 1 - low)) old new
    → HasBit (left_by old.0.trail (first_word (n / 6 - s) + w)) 0 64
    → HasBit (left_by new.0.trail (first_word (n / 6 - s) + w)) 0 64
used_kept n low s w old new top less steps bit =
    let order : first_word (n / 6 + 1 - low) ≤ first_word (n / 6 - s) = first_order (n / 6 + 1 - low) (n / 6 - s) (omega (arith, less, top)) in
    kept_bit (left_by old.0.trail (first_word (n / 6 - s) + w)) (left_by new.0.trail (first_word (n / 6 - s) + w)) w 0 64
    (steps.elsewhere (first_word (n / 6 - s) + w) (inr (omega (arith, order)))) bit

-- a sweep under the whole machine
pub swept_all : (n s w : ℕ)
    → w < 2 ^ (n - 6 * s - 6)
    → (0 / 2 ^ (6 * s + 6) ≤ w) × (w < 0 / 2 ^ (6 * s + 6) + 2 ^ (n - 6 * s - 6))
swept_all n s w there =
    let more : 0 < 2 ^ (6 * s + 6) = pow_pos (6 * s + 6) in
    let none_before : 0 / 2 ^ (6 * s + 6) < 1 = div_below 0 (2 ^ (6 * s + 6)) 1 more (omega (arith, more)) in
    (omega (arith, none_before), omega (arith, there))

-- one level more was scanned
pub scan_next : (n d e x : ℕ) (a b c : Known)
    → e ≡ d + 1
    → Grows (9 * (d * 2 ^ (n - 6))) a b
    → Grows (9 * 2 ^ (n - x - 6)) b c
    → Grows (9 * (e * 2 ^ (n - 6))) a c
scan_next n d e x a b c is first then =
    let less : n - x - 6 ≤ n - 6 = omega arith in
    let most : 2 ^ (n - x - 6) ≤ 2 ^ (n - 6) = pow_mono less in
    let sum : (d + 1) * 2 ^ (n - 6) ≡ d * 2 ^ (n - 6) + 1 * 2 ^ (n - 6) = add-mul d 1 (2 ^ (n - 6)) in
    let same : e * 2 ^ (n - 6) ≡ (d + 1) * 2 ^ (n - 6) = ap (λ z. z * 2 ^ (n - 6)) is in
    omega (arith, most, first, then, sum, same)

-- at most four levels, and a last part of at most four steps
pub scan_all : (n d more : ℕ) (a b c : Known)
    → d ≤ 4
    → more ≤ 4
    → Grows (9 * (d * 2 ^ (n - 6))) a b
    → Grows more b c
    → Grows (4 + 36 * 2 ^ (n - 6)) a c
scan_all n d more a b c few short first then =
    let most = mul_le d 4 (2 ^ (n - 6)) few in
    omega (arith, most, first, then, short)
