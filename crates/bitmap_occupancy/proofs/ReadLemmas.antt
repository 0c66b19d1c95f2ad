-- Each word is read once.
use Rattle.std.proofs.Common.{◌≡◌, ◌≢◌, ℕ, zero, suc, ◌+◌, ◌-◌, ◌*◌, ◌/◌, ◌%◌, ◌^◌, ◌<◌, ◌≤◌, ◌⊎◌, inl, inr, List, [], ◌∷◌, refl, ◌==◌, suc-mul, arith, ap, ap₂, sym, subst, ◌∙◌}
use Rattle.std.proofs.Math.Nat.{zero-div}
use Rattle.std.proofs.lemmas.Bool.{cases_lt, cases_eq, cond-true, cond-false, eq-eqb, ne_eqb}
use Rattle.bitmap_tree.specs.Reads.{reads_of, saw}
use Rattle.bitmap_tree.specs.Rule.{first_word}
use Rattle.bitmap_tree.specs.declared.view.Note.{Note}
use Rattle.bitmap_occupancy.proofs.LevelLemmas.{begins, begins_not, in_top, number_of, same_word, word_begins}
use Rattle.bitmap_occupancy.specs.InnerPass.{width, word_at, IsDone, IsPassed, IsReadTo, WasPassed}

read_here : (w v found : ℕ) (trail : List Note) → w ≡ v → reads_of w (saw v found ∷ trail) ≡ 1 + reads_of w trail
read_here w v found trail same = ap (λ x. x + reads_of w trail) (cond-true (w == v) 1 0 (eq-eqb w v same))

read_other : (w v found : ℕ) (trail : List Note) → (w ≡ v → ⊥) → reads_of w (saw v found ∷ trail) ≡ reads_of w trail
read_other w v found trail other =
    let none : 0 + reads_of w trail ≡ reads_of w trail = omega arith in
    ap (λ x. x + reads_of w trail) (cond-false (w == v) 1 0 (ne_eqb w v other)) ∙ none

reads_grow : (w v found : ℕ) (trail : List Note) → reads_of w trail ≤ reads_of w (saw v found ∷ trail)
reads_grow w v found trail = by_word (cases_eq w v)
  where
    by_word : (w ≡ v) ⊎ (w ≡ v → ⊥) → reads_of w trail ≤ reads_of w (saw v found ∷ trail)
    by_word (inl same) = omega (arith, read_here w v found trail same)
    by_word (inr other) = omega (arith, read_other w v found trail other)

done_more : (n done l : ℕ) → IsDone n done l → IsDone n (done + 1) l
done_more n done l (inl less) = inl (omega (arith, less))
done_more n done l (inr top) = inr top

passed_more : (n p done l m : ℕ) → IsPassed n p done l m → IsPassed n p (done + 1) l m
passed_more n p done l m (inl before) = inl before
passed_more n p done l m (inr here) = inr (here.0, done_more n done l here.1)

-- what was passed is so when one level more is done
was_more : (n p done w : ℕ) → WasPassed n p done w → WasPassed n p (done + 1) w
was_more n p done w was = record {
  level = was.level;
  number = was.number;
  low = was.low;
  is = was.is;
  passed = passed_more n p done was.level was.number was.passed;
}

-- of what is passed with one level more, all but the word of this level was passed
passed_less : (n p done l m : ℕ) → IsPassed n p (done + 1) l m → IsPassed n p done l m ⊎ ((l ≡ done) × (m * width l ≡ p))
passed_less n p done l m (inl before) = inl (inl before)
passed_less n p done l m (inr (is, inr top)) = inl (inr (is, inr top))
passed_less n p done l m (inr (is, inl less)) = by_level (cases_lt l done)
  where
    by_level : (l < done) ⊎ (done ≤ l) → IsPassed n p done l m ⊎ ((l ≡ done) × (m * width l ≡ p))
    by_level (inl low) = inl (inr (is, inl low))
    by_level (inr high) = inr (omega (arith, less, high), is)

-- the word of a level was not read before its first processor
unread : (n p done : ℕ) (trail : List Note) → p < 2 ^ n → done < n / 6 → p % width done ≡ 0
    → IsReadTo n p done trail → reads_of (word_at n done p) trail ≡ 0
unread n p done trail below low first r = by_reads (cases_lt 0 (reads_of (word_at n done p) trail))
  where
    here : IsPassed n p (done + 1) done (p / width done)
    here = inr (begins done p first, inl (omega arith))

    not_it : (l m : ℕ) → done ≡ l → p / width done ≡ m → IsPassed n p done l m → ⊥
    not_it l m same number (inl before) =
        let is : p / width done * width done ≡ m * width l = ap₂ (λ a b. a * width b) number same in
        absurd (omega (arith, is, begins done p first, before))
    not_it l m same number (inr (is, inl less)) = absurd (omega (arith, less, same))
    not_it l m same number (inr (is, inr top)) = absurd (omega (arith, top, same, low))

    by_reads : (0 < reads_of (word_at n done p) trail) ⊎ (reads_of (word_at n done p) trail ≤ 0) → reads_of (word_at n done p) trail ≡ 0
    by_reads (inl some) =
        let was = r.passed (word_at n done p) some in
        let both = same_word n p (done + 1) done (p / width done) was.level was.number below (omega (arith, low)) was.low here (passed_more n p done was.level was.number was.passed) was.is in
        absurd (not_it was.level was.number both.0 both.1 was.passed)
    by_reads (inr none) = omega (arith, none)

-- a level is done by a load of its word
pub read_more : (n p done v found : ℕ) (trail : List Note) → p < 2 ^ n → done < n / 6 → p % width done ≡ 0
    → v ≡ word_at n done p → IsReadTo n p done trail → IsReadTo n p (done + 1) (saw v found ∷ trail)
read_more n p done v found trail below low first is r = record {
  looked = inr (refl, r.looked);
  once = λ w. once w (cases_eq w v);
  passed = λ w some. passed w some (cases_eq w v);
  each = λ l m le which. each l m le (passed_less n p done l m which);
}
  where
    none : (w : ℕ) → w ≡ v → reads_of w trail ≡ 0
    none w same = subst (λ x. reads_of x trail ≡ 0) (sym (same ∙ is)) (unread n p done trail below low first r)

    once : (w : ℕ) → (w ≡ v) ⊎ (w ≡ v → ⊥) → reads_of w (saw v found ∷ trail) ≤ 1
    once w (inl same) = omega (arith, read_here w v found trail same, none w same)
    once w (inr other) = omega (arith, read_other w v found trail other, r.once w)

    passed : (w : ℕ) → 0 < reads_of w (saw v found ∷ trail) → (w ≡ v) ⊎ (w ≡ v → ⊥) → WasPassed n p (done + 1) w
    passed w some (inl same) = record {
      level = done;
      number = p / width done;
      low = omega (arith, low);
      is = same ∙ is;
      passed = inr (begins done p first, inl (omega arith));
    }
    passed w some (inr other) = was_more n p done w (r.passed w (omega (arith, some, read_other w v found trail other)))

    each : (l m : ℕ) → l ≤ n / 6 → IsPassed n p done l m ⊎ ((l ≡ done) × (m * width l ≡ p))
        → 0 < reads_of (first_word (n / 6 - l) + m) (saw v found ∷ trail)
    each l m le (inl before) = omega (arith, r.each l m le before, reads_grow (first_word (n / 6 - l) + m) v found trail)
    each l m le (inr (level, begin)) =
        let there : first_word (n / 6 - l) + m ≡ word_at n l p = ap (λ x. first_word (n / 6 - l) + x) (number_of l m p begin) in
        let same : first_word (n / 6 - l) + m ≡ v = there ∙ ap (λ j. word_at n j p) level ∙ sym is in
        omega (arith, read_here (first_word (n / 6 - l) + m) v found trail same)

-- a level is done if the processor is not the first of its word
pub read_none : (n p done : ℕ) (trail : List Note) → p % width done ≢ 0 → IsReadTo n p done trail → IsReadTo n p (done + 1) trail
read_none n p done trail part r = record {
  looked = r.looked;
  once = r.once;
  passed = λ w some. was_more n p done w (r.passed w some);
  each = λ l m le which. each l m le (passed_less n p done l m which);
}
  where
    each : (l m : ℕ) → l ≤ n / 6 → IsPassed n p done l m ⊎ ((l ≡ done) × (m * width l ≡ p)) → 0 < reads_of (first_word (n / 6 - l) + m) trail
    each l m le (inl before) = r.each l m le before
    each l m le (inr (level, begin)) = absurd (part (subst (λ j. p % width j ≡ 0) level (begins_not l m p begin)))

pub all_done : (n l : ℕ) → l ≤ n / 6 → IsDone n (n / 6) l
all_done n l low = by_level (cases_lt l (n / 6))
  where
    by_level : (l < n / 6) ⊎ (n / 6 ≤ l) → IsDone n (n / 6) l
    by_level (inl less) = inl less
    by_level (inr most) = inr (omega (arith, most, low))

-- the next processor
pub read_next : (n p : ℕ) (trail : List Note) → p < 2 ^ n → IsReadTo n p (n / 6) trail → IsReadTo n (p + 1) 0 trail
read_next n p trail below r = record {
  looked = r.looked;
  once = r.once;
  passed = λ w some. passed w (r.passed w some);
  each = λ l m le which. r.each l m le (before l m le which);
}
  where
    over : (l m : ℕ) → IsPassed n p (n / 6) l m → m * width l < p + 1
    over l m (inl less) = omega (arith, less)
    over l m (inr here) = omega (arith, here.0)

    passed : (w : ℕ) → WasPassed n p (n / 6) w → WasPassed n (p + 1) 0 w
    passed w was = record {
      level = was.level;
      number = was.number;
      low = was.low;
      is = was.is;
      passed = inl (over was.level was.number was.passed);
    }

    by_place : (l m : ℕ) → l ≤ n / 6 → m * width l < p + 1 → (m * width l < p) ⊎ (p ≤ m * width l) → IsPassed n p (n / 6) l m
    by_place l m le less (inl before) = inl before
    by_place l m le less (inr most) = inr (omega (arith, less, most), all_done n l le)

    before : (l m : ℕ) → l ≤ n / 6 → IsPassed n (p + 1) 0 l m → IsPassed n p (n / 6) l m
    before l m le (inl less) = by_place l m le less (cases_lt (m * width l) p)
    before l m le (inr (is, inl none)) = absurd (omega (arith, none))
    before l m le (inr (is, inr top)) =
        let begin : m * width (n / 6) ≡ p + 1 = subst (λ j. m * width j ≡ p + 1) top is in
        absurd (no_top m begin)
      where
        no_top : (m : ℕ) → m * width (n / 6) ≡ p + 1 → ⊥
        no_top zero begin = absurd (omega (arith, begin))
        no_top (suc m) begin =
            let most : p + 1 < width (n / 6) = in_top n (p + 1) (omega (arith, below)) in
            absurd (omega (arith, begin, most, suc-mul m (width (n / 6))))

-- the first processor, once the top word was read
pub read_first : (n found : ℕ) → IsReadTo n 0 0 (saw 0 found ∷ [])
read_first n found = record {
  looked = inr (refl, refl);
  once = λ w. once w (cases_eq w 0);
  passed = λ w some. passed w some (cases_eq w 0);
  each = λ l m le which. each l m which;
}
  where
    top : first_word (n / 6 - n / 6) ≡ 0
    top = let none : n / 6 - n / 6 ≡ 0 = omega arith in ap first_word none

    once : (w : ℕ) → (w ≡ 0) ⊎ (w ≡ 0 → ⊥) → reads_of w (saw 0 found ∷ []) ≤ 1
    once w (inl same) = omega (arith, read_here w 0 found [] same)
    once w (inr other) = omega (arith, read_other w 0 found [] other)

    passed : (w : ℕ) → 0 < reads_of w (saw 0 found ∷ []) → (w ≡ 0) ⊎ (w ≡ 0 → ⊥) → WasPassed n 0 0 w
    passed w some (inl same) = record {
      level = n / 6;
      number = 0;
      low = omega arith;
      is = omega (arith, same, top);
      passed = inr (omega arith, inr refl);
    }
    passed w some (inr other) = absurd (omega (arith, some, read_other w 0 found [] other))

    each : (l m : ℕ) → IsPassed n 0 0 l m → 0 < reads_of (first_word (n / 6 - l) + m) (saw 0 found ∷ [])
    each l m (inl less) = absurd (omega (arith, less))
    each l m (inr (is, inl none)) = absurd (omega (arith, none))
    each l m (inr (is, inr last)) =
        let number : m ≡ 0 / width l = number_of l m 0 is in
        let none : m ≡ 0 = number ∙ zero-div (width l) in
        let first : first_word (n / 6 - l) ≡ 0 = subst (λ j. first_word (n / 6 - j) ≡ 0) (sym last) top in
        let same : first_word (n / 6 - l) + m ≡ 0 = omega (arith, first, none) in
        omega (arith, read_here (first_word (n / 6 - l) + m) 0 found [] same)

-- all words of a level were read at the end
pub read_each : (n l m : ℕ) (trail : List Note) → IsReadTo n (2 ^ n) 0 trail → l ≤ n / 6 → m < 2 ^ (n - 6 * l - 6)
    → reads_of (first_word (n / 6 - l) + m) trail ≡ 1
read_each n l m trail r low few =
    let some = r.each l m low (inl (word_begins n l m few)) in
    omega (arith, some, r.once (first_word (n / 6 - l) + m))
