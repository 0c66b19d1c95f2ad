-- A block is not free where the unit around it is seen set in each level, and no word below it is
-- empty.
use Rattle.std.proofs.Common.{inl, inr, ◌⊎◌, ◌≡◌, ◌≢◌, ℕ, zero, suc, ◌+◌, ◌-◌, ◌*◌, ◌/◌, ◌%◌, ◌^◌, ◌<◌, ◌≤◌, min, max, List, get_or, refl, sym, ◌∙◌, ap, ap₂, subst, arith, mul_assoc, add-mul}
use Rattle.std.specs.Int.{bit_at}
use Rattle.std.proofs.lemmas.Bool.{cases_lt}
use Rattle.std.proofs.lemmas.Nat.{pow_pos, pow-add, div-add-mod', div_below, row_fits}
use Rattle.std.proofs.lemmas.Nat.Bits.{bit_at-zero}
use Rattle.std.proofs.Math.Nat.{mul-div_cancel}
use Rattle.std.proofs.Math.Pow.{pow_mono}
use Rattle.cube_shape.specs.declared.region.Region.{Region}
use Rattle.cube_shape.specs.Region.{block, Covers}
use Rattle.bitmap_tree.specs.declared.no_block.NoBlock.{NoBlock}
use Rattle.bitmap_tree.specs.declared.no_block.NoBlock.TheVariants.{Disturbed, Full}
use Rattle.bitmap_tree.specs.declared.view.Note.{Note}
use Rattle.bitmap_tree.specs.declared.view.Run.{Run}
use Rattle.bitmap_tree.specs.Alone.{HasNoBlock, IsFree, IsInUse}
use Rattle.bitmap_tree.specs.Ends.{IsLeftWith}
use Rattle.bitmap_tree.specs.Rule.{bit_of, first_word, has, run, word_count}
use Rattle.bitmap_tree.specs.InnerLayout.{IsIn}
use Rattle.bitmap_tree.specs.Layout.{place_in, run_of, unit_around}
use Rattle.bitmap_tree.specs.InnerTrail.{HasBit, IsFullWord, IsSetIn, left_by}
use Rattle.bitmap_tree.specs.Trail.{IsAlone, WasDisturbed}
use Rattle.bitmap_tree.proofs.AloneLemmas.{alone_left}
use Rattle.bitmap_tree.proofs.LayoutLemmas.{base_in, multiple, first_le, first_up, fits_here, mul_le, place_up, units, dim_split, split_at, word_below, word_there}
use Rattle.bitmap_tree.proofs.RuleLemmas.{bit_was}
use Rattle.bitmap_tree.proofs.TrailLemmas.{each_set}

-- ---- words of levels

-- a unit is 64 of the level below
pub unit_size : (l : ℕ) → 2 ^ (6 * suc l) ≡ 64 * 2 ^ (6 * l)
unit_size l = let parts : 6 * suc l ≡ 6 + 6 * l = omega arith in ap (λ e. 2 ^ e) parts ∙ pow-add 2 6 (6 * l)

words_above : (e : ℕ) → 63 * first_word e + 1 ≡ 2 ^ (6 * e)
words_above zero = refl
words_above (suc e) = omega (arith, unit_size e, words_above e)

-- the words of a level come before those of the level below
pub level_end : (n l w : ℕ)
    → l ≤ n / 6
    → w < 2 ^ (n - 6 * l - 6)
    → first_word (n / 6 - l) + w < first_word (n / 6 + 1 - l)
level_end n l w low within =
    let less : n - 6 * l - 6 ≤ 6 * (n / 6 - l) = omega (arith, low) in
    let most : 2 ^ (n - 6 * l - 6) ≤ 2 ^ (6 * (n / 6 - l)) = pow_mono less in
    let next : n / 6 + 1 - l ≡ suc (n / 6 - l) = omega (arith, low) in
    let up_is : first_word (n / 6 + 1 - l) ≡ 64 * first_word (n / 6 - l) + 1 = ap first_word next in
    omega (arith, most, up_is, words_above (n / 6 - l), within)

-- the same of all words of the level
pub level_all : (n l : ℕ)
    → l ≤ n / 6
    → first_word (n / 6 - l) + 2 ^ (n - 6 * l - 6) ≤ first_word (n / 6 + 1 - l)
level_all n l low =
    let some_word : 0 < 2 ^ (n - 6 * l - 6) = pow_pos (n - 6 * l - 6) in
    let last = level_end n l (2 ^ (n - 6 * l - 6) - 1) low (omega (arith, some_word)) in
    omega (arith, last, some_word)

pub first_order : (a b : ℕ) → a ≤ b → first_word a ≤ first_word b
first_order a b order = let sum : b - a + a ≡ b = omega (arith, order) in subst (λ x. first_word a ≤ first_word x) sum (first_le a (b - a))

-- the word of a place is one of the machine
pub place_word : (n s p : ℕ) → 6 * s ≤ n → p < 2 ^ n → place_in n s p / 64 < word_count n
place_word n s p low within =
    let there = word_there n s (p / 2 ^ (6 * s) / 64) (word_below n s p low within) in
    let is : place_in n s p / 64 ≡ first_word (n / 6 - s) + p / 2 ^ (6 * s) / 64 = omega arith in
    omega (arith, there, is)

-- the word of the lowest level around a processor is one of the machine
pub word_near : (n p : ℕ)
    → p < 2 ^ n
    → (first_word (n / 6) + p / 2 ^ 6 < word_count n) × (p / 2 ^ 6 < 2 ^ (n - 6))
word_near n p within =
    let below : p / 2 ^ (6 * 0) / 64 < 2 ^ (n - 6 * 0 - 6) = word_below n 0 p (omega arith) within in
    let less : 2 ^ (n - 6 * 0 - 6) ≤ 2 ^ (n - 6) = (let e : n - 6 * 0 - 6 ≤ n - 6 = omega arith in pow_mono e) in
    (omega (arith, below, less), omega (arith, below, less))

-- the place of a processor of the top level is in the first word
top_word : (n l p : ℕ) → l ≡ n / 6 → p < 2 ^ n → place_in n l p / 64 ≡ 0
top_word n l p is within =
    let none_above : first_word (n / 6 - l) ≡ 0 = let e : n / 6 - l ≡ 0 = omega (arith, is) in ap first_word e in
    let less : n ≤ 6 * suc l = omega (arith, is) in
    let most : 2 ^ n ≤ 2 ^ (6 * suc l) = pow_mono less in
    let low : p / 2 ^ (6 * l) < 64 = div_below p (2 ^ (6 * l)) 64 (pow_pos (6 * l)) (omega (arith, within, most, unit_size l)) in
    omega (arith, none_above, low)

-- ---- the unit around a block

-- above the level of the block it is one place
around_above : (n s : ℕ) (r : Region)
    → r.dim / 6 < s
    → ◌≡◌ {A = Run} (run_of n (unit_around s r)) (run (place_in n s r.base) 1)
around_above n s r above =
    let size : max r.dim (6 * s) ≡ 6 * s = omega (arith, above) in
    let level : 6 * s / 6 ≡ s = omega arith in
    let rest : 6 * s % 6 ≡ 0 = omega arith in
    let base_is : r.base / 2 ^ (6 * s) * 2 ^ (6 * s) / 2 ^ (6 * s) ≡ r.base / 2 ^ (6 * s) = mul-div_cancel (r.base / 2 ^ (6 * s)) (pow_pos (6 * s)) in
    ap (λ d. run_of n (block d (r.base / 2 ^ d))) size
    ∙ ap₂ (λ x y. run (place_in n x (r.base / 2 ^ (6 * s) * 2 ^ (6 * s))) (2 ^ y)) level rest
    ∙ ap (λ z. run (64 * first_word (n / 6 - s) + z) 1) base_is

-- at its own level it is the block
pub around_own : (s : ℕ) (r : Region) → r.base % 2 ^ r.dim ≡ 0 → s ≡ r.dim / 6 → unit_around s r ≡ r
around_own s r begins is =
    let size : max r.dim (6 * s) ≡ r.dim = omega (arith, is) in
    let parts : r.base / 2 ^ r.dim * 2 ^ r.dim + r.base % 2 ^ r.dim ≡ r.base = div-add-mod' r.base (2 ^ r.dim) in
    let base_is : r.base / 2 ^ r.dim * 2 ^ r.dim ≡ r.base = omega (arith, parts, begins) in
    ap (λ d. block d (r.base / 2 ^ d)) size ∙ ap (λ (b : ℕ). record { base = b; dim = r.dim }) base_is

-- ---- a block that is not free

module _ (n : ℕ) (held opened : ℕ → ℕ) (words : List ℕ) (k : IsLeftWith n held opened words)
    (r : Region) (inside : IsIn n r.dim r) (free : IsFree n held r) where
  bit_in : (q : ℕ)
      → q / 64 < word_count n
      → bit_of words q ≡ bit_at (get_or words (q / 64) 0) (q % 64)
  bit_in q within = bit_was words (q / 64) q (omega (arith, within, k.count)) refl

  base_covers : Covers r r.base
  base_covers = let more : 0 < 2 ^ r.dim = pow_pos r.dim in (omega arith, omega (arith, more))

  -- a unit of a level that lies in the block, and its place
  unit_free : (l y : ℕ)
      → l ≤ n / 6
      → r.base ≤ y * 2 ^ (6 * l)
      → y * 2 ^ (6 * l) + 2 ^ (6 * l) ≤ r.base + 2 ^ r.dim
      → held (64 * first_word (n / 6 - l) + y) ≡ 0
  unit_free l y low from below =
      let more : 0 < 2 ^ (6 * l) = pow_pos (6 * l) in
      let value : y * 2 ^ (6 * l) / 2 ^ (6 * l) ≡ y = mul-div_cancel y (pow_pos (6 * l)) in
      let at : place_in n l (y * 2 ^ (6 * l)) ≡ 64 * first_word (n / 6 - l) + y = omega (arith, value) in
      ap held (sym at) ∙ free l (y * 2 ^ (6 * l)) low (from, omega (arith, below, more))

  -- the word of a unit of the block is one of the machine
  unit_there : (l y : ℕ)
      → 6 * l ≤ n
      → y * 2 ^ (6 * l) + 2 ^ (6 * l) ≤ r.base + 2 ^ r.dim
      → (64 * first_word (n / 6 - l) + y) / 64 < word_count n
  unit_there l y low below =
      let more : 0 < 2 ^ (6 * l) = pow_pos (6 * l) in
      let value : y * 2 ^ (6 * l) / 2 ^ (6 * l) ≡ y = mul-div_cancel y (pow_pos (6 * l)) in
      let at : place_in n l (y * 2 ^ (6 * l)) ≡ 64 * first_word (n / 6 - l) + y = omega (arith, value) in
      let there = place_word n l (y * 2 ^ (6 * l)) low (omega (arith, below, more, inside.within)) in
      subst (λ q. q / 64 < word_count n) at there

  module _ (set_in : (s : ℕ) → r.dim / 6 ≤ s → s ≤ n / 6
      → IsSetIn (λ w. get_or words w 0) (run_of n (unit_around s r)))
      (used : (s w : ℕ) → s < r.dim / 6 → r.base / 2 ^ (6 * s + 6) ≤ w
      → w < r.base / 2 ^ (6 * s + 6) + 2 ^ (r.dim - 6 * s - 6)
      → HasBit (get_or words (first_word (n / 6 - s) + w) 0) 0 64) where
    -- the unit of a level above has its bit set
    unit_set : (s : ℕ) → r.dim / 6 < s → s ≤ n / 6 → bit_of words (place_in n s r.base) ≡ 1
    unit_set s above low =
        let t = set_in s (omega (arith, above)) low in
        let in_run : 0 < has t.0 (run (place_in n s r.base) 1) = subst (λ x. 0 < has t.0 x) (around_above n s r above) t.1 in
        let at : t.0 ≡ place_in n s r.base = omega (arith, in_run) in
        let there : t.0 / 64 < word_count n = subst (λ q. q / 64 < word_count n) (sym at) (place_word n s r.base (omega (arith, low)) (base_in n r.dim r inside)) in
        ap (bit_of words) (sym at) ∙ bit_in t.0 there ∙ t.2

    -- the words above the block are open
    open_at : (d l : ℕ) → l + d ≡ n / 6 → r.dim / 6 ≤ l → opened (place_in n l r.base / 64) ≡ 1
    open_at zero l sum from = ap opened (top_word n l r.base (omega (arith, sum)) (base_in n r.dim r inside)) ∙ k.root
    open_at (suc d) l sum from =
        let above = open_at d (l + 1) (omega (arith, sum)) (omega (arith, from)) in
        let set_bit = unit_set (l + 1) (omega (arith, from)) (omega (arith, sum)) in
        let none_held = free (l + 1) r.base (omega (arith, sum)) base_covers in
        let up_is = place_up n l r.base (omega (arith, sum)) in
        let word : place_in n l r.base / 64 ≡ place_in n (l + 1) r.base + 1 = omega (arith, up_is.0, up_is.1) in
        ap opened word ∙ omega (arith, above, set_bit, none_held, k.even (place_in n (l + 1) r.base))

    -- a unit of the block is not open
    shut_in : (l y : ℕ)
        → l ≤ r.dim / 6
        → r.base ≤ y * 2 ^ (6 * l)
        → y * 2 ^ (6 * l) + 2 ^ (6 * l) ≤ r.base + 2 ^ r.dim
        → opened (64 * first_word (n / 6 - l) + y + 1) ≡ 1
        → ⊥
    shut_in zero y low from below is_open =
        let all = level_all n 0 (omega arith) in
        let first_is : first_word (n / 6 - 0) ≡ first_word (n / 6) = let e : n / 6 - 0 ≡ n / 6 = omega arith in ap first_word e in
        let next_is : first_word (n / 6 + 1 - 0) ≡ 64 * first_word (n / 6) + 1 = let e : n / 6 + 1 - 0 ≡ suc (n / 6) = omega arith in ap first_word e in
        let size : 2 ^ (n - 6 * 0 - 6) ≡ 2 ^ (n - 6) = let e : n - 6 * 0 - 6 ≡ n - 6 = omega arith in ap (λ x. 2 ^ x) e in
        let closed = k.outside (64 * first_word (n / 6 - 0) + y + 1) (omega (arith, all, first_is, next_is, size)) in
        absurd (omega (arith, closed, is_open))
    shut_in (suc l) y low from below is_open =
        let fits = inside.fits in
        let up_is : first_word (n / 6 - l) ≡ 64 * first_word (n / 6 - (l + 1)) + 1 = first_up n l (omega (arith, low, fits)) in
        let same : first_word (n / 6 - suc l) ≡ first_word (n / 6 - (l + 1)) = let e : n / 6 - suc l ≡ n / 6 - (l + 1) = omega arith in ap first_word e in
        let word : 64 * first_word (n / 6 - suc l) + y + 1 ≡ first_word (n / 6 - l) + y = omega (arith, up_is, same) in
        let size = unit_size l in
        let D : ℕ = 2 ^ (6 * l) in
        let big : 2 ^ (6 * l + 6) ≡ 2 ^ (6 * suc l) = let e : 6 * l + 6 ≡ 6 * suc l = omega arith in ap (λ x. 2 ^ x) e in
        let more : 0 < 2 ^ (6 * l + 6) = pow_pos (6 * l + 6) in
        let rows : y * 2 ^ (6 * suc l) ≡ y * 2 ^ (6 * l + 6) = ap (λ z. y * z) (sym big) in
        let value : y * 2 ^ (6 * l + 6) / 2 ^ (6 * l + 6) ≡ y = mul-div_cancel y more in
        let least : r.base / 2 ^ (6 * l + 6) ≤ y = base_low (6 * l + 6) y more (omega (arith, from, rows)) in
        let most : y < r.base / 2 ^ (6 * l + 6) + 2 ^ (r.dim - 6 * l - 6) = base_high l y (omega (arith, low)) (omega (arith, below, rows, big, more)) in
        let bit = used l y (omega (arith, low)) least most in
        let j : ℕ = bit.0 in
        let small : bit.0 < 64 = bit.2 in
        let many : 64 * y * 2 ^ (6 * l) ≡ y * 2 ^ (6 * suc l) = split_units y (2 ^ (6 * l)) (2 ^ (6 * suc l)) size in
        let row : (64 * y + bit.0) * 2 ^ (6 * l) ≡ 64 * y * 2 ^ (6 * l) + bit.0 * 2 ^ (6 * l) = add-mul (64 * y) bit.0 (2 ^ (6 * l)) in
        let few : (bit.0 + 1) * 2 ^ (6 * l) ≤ 64 * 2 ^ (6 * l) = mul_le (bit.0 + 1) 64 (2 ^ (6 * l)) (omega (arith, small)) in
        let few_is : (bit.0 + 1) * 2 ^ (6 * l) ≡ bit.0 * 2 ^ (6 * l) + 1 * 2 ^ (6 * l) = add-mul bit.0 1 (2 ^ (6 * l)) in
        let from_next : r.base ≤ (64 * y + bit.0) * 2 ^ (6 * l) = omega (arith, from, many, row) in
        let below_next : (64 * y + bit.0) * 2 ^ (6 * l) + 2 ^ (6 * l) ≤ r.base + 2 ^ r.dim = omega (arith, below, many, row, few, few_is, size) in
        let at : 64 * first_word (n / 6 - l) + (64 * y + bit.0) ≡ 64 * (first_word (n / 6 - l) + y) + bit.0 = omega arith in
        let there = unit_there l (64 * y + bit.0) (omega (arith, low, fits)) below_next in
        let in_word : (64 * first_word (n / 6 - l) + (64 * y + bit.0)) / 64 ≡ first_word (n / 6 - l) + y = omega (arith, small) in
        let place : (64 * first_word (n / 6 - l) + (64 * y + bit.0)) % 64 ≡ bit.0 = omega (arith, small) in
        let set_bit : bit_of words (64 * first_word (n / 6 - l) + (64 * y + bit.0)) ≡ 1 =
        bit_in (64 * first_word (n / 6 - l) + (64 * y + bit.0)) there ∙ ap₂ (λ x z. bit_at (get_or words x 0) z) in_word place ∙ bit.3 in
        let open_word : opened ((64 * first_word (n / 6 - l) + (64 * y + bit.0)) / 64) ≡ 1 = ap opened (in_word ∙ sym word) ∙ is_open in
        let none_held = unit_free l (64 * y + bit.0) (omega (arith, low, fits)) from_next below_next in
        let next : opened (64 * first_word (n / 6 - l) + (64 * y + bit.0) + 1) ≡ 1 = omega (arith, set_bit, open_word, none_held, k.even (64 * first_word (n / 6 - l) + (64 * y + bit.0))) in
        shut_in l (64 * y + bit.0) (omega (arith, low)) from_next below_next next
      where
        split_units : (y d e : ℕ) → e ≡ 64 * d → 64 * y * d ≡ y * e
        split_units y d e is =
            let turned : 64 * y * d ≡ 64 * (y * d) = mul_assoc 64 y d in
            let rows : y * e ≡ y * 64 * d = ap (λ z. y * z) is ∙ sym (mul_assoc y 64 d) in
            let order : y * 64 * d ≡ 64 * y * d = let e : y * 64 ≡ 64 * y = omega arith in ap (λ z. z * d) e in
            sym (rows ∙ order)

        base_low : (e y : ℕ) → 0 < 2 ^ e → r.base ≤ y * 2 ^ e → r.base / 2 ^ e ≤ y
        base_low e y more from = elim (cases_lt y (r.base / 2 ^ e)) [
          | inl less ↦
              let parts : r.base / 2 ^ e * 2 ^ e + r.base % 2 ^ e ≡ r.base = div-add-mod' r.base (2 ^ e) in
              let rows : (y + 1) * 2 ^ e ≤ r.base / 2 ^ e * 2 ^ e = mul_le (y + 1) (r.base / 2 ^ e) (2 ^ e) (omega (arith, less)) in
              let row : (y + 1) * 2 ^ e ≡ y * 2 ^ e + 1 * 2 ^ e = add-mul y 1 (2 ^ e) in
              absurd (omega (arith, parts, rows, row, from, more))
          | inr least ↦ least
        ]

        base_high : (l y : ℕ)
            → 6 * l + 6 ≤ r.dim
            → y * 2 ^ (6 * l + 6) < r.base + 2 ^ r.dim
            → y < r.base / 2 ^ (6 * l + 6) + 2 ^ (r.dim - 6 * l - 6)
        base_high l y low less =
            let E : ℕ = 2 ^ (6 * l + 6) in
            let more : 0 < 2 ^ (6 * l + 6) = pow_pos (6 * l + 6) in
            let value : y * 2 ^ (6 * l + 6) / 2 ^ (6 * l + 6) ≡ y = mul-div_cancel y more in
            let parts_e : r.dim - (6 * l + 6) ≡ r.dim - 6 * l - 6 = omega arith in
            let whole : 2 ^ (r.dim - 6 * l - 6) * 2 ^ (6 * l + 6) ≡ 2 ^ r.dim = ap (λ e. 2 ^ e * 2 ^ (6 * l + 6)) (sym parts_e) ∙ split_at r.dim (6 * l + 6) low in
            let at_base : r.base / 2 ^ (6 * l + 6) * 2 ^ (6 * l + 6) ≡ r.base = exact l low in
            let sum : (r.base / 2 ^ (6 * l + 6) + 2 ^ (r.dim - 6 * l - 6)) * 2 ^ (6 * l + 6) ≡ r.base / 2 ^ (6 * l + 6) * 2 ^ (6 * l + 6) + 2 ^ (r.dim - 6 * l - 6) * 2 ^ (6 * l + 6) = add-mul (r.base / 2 ^ (6 * l + 6)) (2 ^ (r.dim - 6 * l - 6)) (2 ^ (6 * l + 6)) in
            let low_div = div_below (y * 2 ^ (6 * l + 6)) (2 ^ (6 * l + 6)) (r.base / 2 ^ (6 * l + 6) + 2 ^ (r.dim - 6 * l - 6)) more (omega (arith, sum, at_base, whole, less)) in
            omega (arith, low_div, value)
          where
            -- the base is a multiple of each unit that the block has
            exact : (l : ℕ)
                → 6 * l + 6 ≤ r.dim
                → r.base / 2 ^ (6 * l + 6) * 2 ^ (6 * l + 6) ≡ r.base
            exact l low =
                let parts : r.base / 2 ^ r.dim * 2 ^ r.dim + r.base % 2 ^ r.dim ≡ r.base = div-add-mod' r.base (2 ^ r.dim) in
                let whole : 2 ^ (r.dim - (6 * l + 6)) * 2 ^ (6 * l + 6) ≡ 2 ^ r.dim = split_at r.dim (6 * l + 6) low in
                let rows : r.base / 2 ^ r.dim * 2 ^ (r.dim - (6 * l + 6)) * 2 ^ (6 * l + 6) ≡ r.base / 2 ^ r.dim * 2 ^ r.dim = mul_assoc (r.base / 2 ^ r.dim) (2 ^ (r.dim - (6 * l + 6))) (2 ^ (6 * l + 6)) ∙ ap (λ z. r.base / 2 ^ r.dim * z) whole in
                let is : r.base / 2 ^ r.dim * 2 ^ (r.dim - (6 * l + 6)) * 2 ^ (6 * l + 6) ≡ r.base = omega (arith, rows, parts, inside.begins) in
                let value : r.base / 2 ^ (6 * l + 6) ≡ r.base / 2 ^ r.dim * 2 ^ (r.dim - (6 * l + 6)) = ap (λ z. z / 2 ^ (6 * l + 6)) (sym is) ∙ mul-div_cancel (r.base / 2 ^ r.dim * 2 ^ (r.dim - (6 * l + 6))) (pow_pos (6 * l + 6)) in
                ap (λ z. z * 2 ^ (6 * l + 6)) value ∙ is

    pub not_free : ⊥
    not_free =
        let l : ℕ = r.dim / 6 in
        let fits = inside.fits in
        let low : r.dim / 6 ≤ n / 6 = omega (arith, fits) in
        let t = set_in (r.dim / 6) (omega arith) low in
        let own : unit_around (r.dim / 6) r ≡ r = around_own (r.dim / 6) r inside.begins refl in
        let in_run : 0 < has t.0 (run_of n r) = subst (λ (x : Region). 0 < has t.0 (run_of n x)) own t.1 in
        let x : ℕ = r.base / 2 ^ (6 * (r.dim / 6)) in
        let fits_word = fits_here n r.dim (r.base / 2 ^ (6 * (r.dim / 6))) r inside refl in
        let y : ℕ = t.0 - 64 * first_word (n / 6 - r.dim / 6) in
        let at : 64 * first_word (n / 6 - r.dim / 6) + (t.0 - 64 * first_word (n / 6 - r.dim / 6)) ≡ t.0 = omega (arith, in_run) in
        let word : t.0 / 64 ≡ place_in n (r.dim / 6) r.base / 64 = omega (arith, in_run, fits_word) in
        let whole = (units r.base r.dim inside.begins).0 in
        let D : ℕ = 2 ^ (6 * (r.dim / 6)) in
        let from : r.base ≤ (t.0 - 64 * first_word (n / 6 - r.dim / 6)) * 2 ^ (6 * (r.dim / 6)) =
        let rows = mul_le (r.base / 2 ^ (6 * (r.dim / 6))) (t.0 - 64 * first_word (n / 6 - r.dim / 6)) (2 ^ (6 * (r.dim / 6))) (omega (arith, in_run)) in
        omega (arith, rows, whole) in
        let below : (t.0 - 64 * first_word (n / 6 - r.dim / 6)) * 2 ^ (6 * (r.dim / 6)) + 2 ^ (6 * (r.dim / 6)) ≤ r.base + 2 ^ r.dim =
        let rows = mul_le (t.0 - 64 * first_word (n / 6 - r.dim / 6) + 1) (r.base / 2 ^ (6 * (r.dim / 6)) + 2 ^ (r.dim % 6)) (2 ^ (6 * (r.dim / 6))) (omega (arith, in_run)) in
        let left = add-mul (t.0 - 64 * first_word (n / 6 - r.dim / 6)) 1 (2 ^ (6 * (r.dim / 6))) in
        let right = add-mul (r.base / 2 ^ (6 * (r.dim / 6))) (2 ^ (r.dim % 6)) (2 ^ (6 * (r.dim / 6))) in
        omega (arith, rows, left, right, whole, dim_split r.dim) in
        let there : t.0 / 64 < word_count n = subst (λ q. q / 64 < word_count n) at (unit_there (r.dim / 6) (t.0 - 64 * first_word (n / 6 - r.dim / 6)) (omega (arith, fits)) below) in
        let set_bit : bit_of words t.0 ≡ 1 = bit_in t.0 there ∙ t.2 in
        let open_word : opened (t.0 / 64) ≡ 1 = ap opened word ∙ open_at (n / 6 - r.dim / 6) (r.dim / 6) (omega (arith, low)) (omega arith) in
        let none_held : held t.0 ≡ 0 = ap held (sym at) ∙ unit_free (r.dim / 6) (t.0 - 64 * first_word (n / 6 - r.dim / 6)) low from below in
        let next : opened (t.0 + 1) ≡ 1 = omega (arith, set_bit, open_word, none_held, k.even t.0) in
        shut_in (r.dim / 6) (t.0 - 64 * first_word (n / 6 - r.dim / 6)) (omega arith) from below (ap (λ q. opened (q + 1)) at ∙ next)

-- ---- the same of what the steps of a call left

bit_some : (word j : ℕ) → bit_at word j ≡ 1 → word ≢ 0
bit_some word j set none = let clear : bit_at word j ≡ 0 = ap (λ w. bit_at w j) none ∙ bit_at-zero j in absurd (omega (arith, set, clear))

pub used_alone : (trail : List Note) (words : ℕ → ℕ) (w : ℕ)
    → IsAlone words trail
    → HasBit (left_by trail w) 0 64
    → HasBit (words w) 0 64
used_alone trail words w alone bit = let is = alone_left trail words w alone (bit_some (left_by trail w) bit.0 bit.3) in (bit.0, bit.1, bit.2, ap (λ x. bit_at x bit.0) is ∙ bit.3)

pub set_alone : (trail : List Note) (words : ℕ → ℕ) (r : Run)
    → IsAlone words trail
    → IsSetIn (left_by trail) r
    → IsSetIn words r
set_alone trail words r alone bit = let is = alone_left trail words (bit.0 / 64) alone (bit_some (left_by trail (bit.0 / 64)) (bit.0 % 64) bit.2) in (bit.0, bit.1, ap (λ x. bit_at x (bit.0 % 64)) is ∙ bit.2)

-- a refused take of one block, by a call alone
full_or_disturbed : (why : NoBlock) → (why ≡ Full) ⊎ (why ≡ Disturbed)
full_or_disturbed Full = inl refl
full_or_disturbed Disturbed = inr refl

pub block_in_use : (n : ℕ) (r : Region) (trail : List Note) (why : NoBlock) (words : List ℕ)
    → IsIn n r.dim r
    → (why ≡ Disturbed → WasDisturbed trail)
    → (why ≡ Full
    → (s : ℕ)
    → r.dim / 6 ≤ s
    → s ≤ n / 6
    → IsSetIn (left_by trail) (run_of n (unit_around s r)))
    → ((s w : ℕ)
    → s < r.dim / 6
    → r.base / 2 ^ (6 * s + 6) ≤ w
    → w < r.base / 2 ^ (6 * s + 6) + 2 ^ (r.dim - 6 * s - 6)
    → HasBit (left_by trail (first_word (n / 6 - s) + w)) 0 64)
    → IsAlone (λ w. get_or words w 0) trail
    → IsInUse n words r
block_in_use n r trail why words inside disturbed set_in used alone held left free = elim (full_or_disturbed why) [
  | inl calm ↦ not_free n held left.0 words left.1 r inside free (λ s from low. set_alone trail (λ w. get_or words w 0) (run_of n (unit_around s r)) alone (set_in calm s from low))
      (λ s w low from below. used_alone trail (λ w. get_or words w 0) (first_word (n / 6 - s) + w) alone (used s w low from below))
  | inr lost ↦ disturbed lost (λ w. get_or words w 0) alone
]

-- ---- all blocks of a dimension

-- the words of a level under a block are words of the level
pub words_under : (n s : ℕ) (r : Region)
    → IsIn n r.dim r
    → s < r.dim / 6
    → r.base / 2 ^ (6 * s + 6) + 2 ^ (r.dim - 6 * s - 6) ≤ 2 ^ (n - 6 * s - 6)
words_under n s r inside low = elim (cases_lt (2 ^ (n - 6 * s - 6)) (r.base / 2 ^ (6 * s + 6) + 2 ^ (r.dim - 6 * s - 6))) [
  | inl more ↦
      let fits = inside.fits in
      let some_word : 0 < 2 ^ (6 * s + 6) = pow_pos (6 * s + 6) in
      let least : 6 * s + 6 ≤ r.dim = omega (arith, low) in
      let parts_r : r.dim - (6 * s + 6) ≡ r.dim - 6 * s - 6 = omega arith in
      let parts_n : n - (6 * s + 6) ≡ n - 6 * s - 6 = omega arith in
      let whole_r : 2 ^ (r.dim - 6 * s - 6) * 2 ^ (6 * s + 6) ≡ 2 ^ r.dim = ap (λ e. 2 ^ e * 2 ^ (6 * s + 6)) (sym parts_r) ∙ split_at r.dim (6 * s + 6) least in
      let whole_n : 2 ^ (n - 6 * s - 6) * 2 ^ (6 * s + 6) ≡ 2 ^ n = ap (λ e. 2 ^ e * 2 ^ (6 * s + 6)) (sym parts_n) ∙ split_at n (6 * s + 6) (omega (arith, least, fits)) in
      let parts : r.base / 2 ^ (6 * s + 6) * 2 ^ (6 * s + 6) + r.base % 2 ^ (6 * s + 6) ≡ r.base = div-add-mod' r.base (2 ^ (6 * s + 6)) in
      let rows : (2 ^ (n - 6 * s - 6) + 1) * 2 ^ (6 * s + 6) ≤ (r.base / 2 ^ (6 * s + 6) + 2 ^ (r.dim - 6 * s - 6)) * 2 ^ (6 * s + 6) = mul_le (2 ^ (n - 6 * s - 6) + 1) (r.base / 2 ^ (6 * s + 6) + 2 ^ (r.dim - 6 * s - 6)) (2 ^ (6 * s + 6)) (omega (arith, more)) in
      let left = add-mul (2 ^ (n - 6 * s - 6)) 1 (2 ^ (6 * s + 6)) in
      let right = add-mul (r.base / 2 ^ (6 * s + 6)) (2 ^ (r.dim - 6 * s - 6)) (2 ^ (6 * s + 6)) in
      absurd (omega (arith, rows, left, right, whole_r, whole_n, parts, inside.within, some_word))
  | inr fits ↦ fits
]

-- a block by its number
pub block_in : (n k m : ℕ) → k ≤ n → m < 2 ^ (n - k) → IsIn n k (block k m)
block_in n k m fits number =
    let rows : m * 2 ^ k + 2 ^ k ≤ 2 ^ (n - k) * 2 ^ k = row_fits m (2 ^ k) (2 ^ (n - k)) (2 ^ k) number (omega arith) in
    record {
      dimension = refl;
      begins = multiple m k;
      within = omega (arith, rows, split_at n k fits);
      fits = fits;
    }

-- the number of the unit around a block
pub around_number : (n d base : ℕ) → d ≤ n → base < 2 ^ n → base / 2 ^ d < 2 ^ (n - d)
around_number n d base fits within = div_below base (2 ^ d) (2 ^ (n - d)) (pow_pos d) (omega (arith, within, split_at n d fits))

-- a refused take of a dimension, by a call alone
pub no_block : (n k : ℕ) (trail : List Note) (why : NoBlock) (words : List ℕ)
    → k ≤ n
    → (why ≡ Disturbed → WasDisturbed trail)
    → (why ≡ Full → (s w : ℕ) → k / 6 ≤ s → s ≤ n / 6 → w < 2 ^ (n - 6 * s - 6)
    → IsFullWord (2 ^ min (n - 6 * s) 6) (max k (6 * s) % 6)
    (left_by trail (first_word (n / 6 - s) + w)))
    → ((s w : ℕ) → s < k / 6 → w < 2 ^ (n - 6 * s - 6)
    → HasBit (left_by trail (first_word (n / 6 - s) + w)) 0 64)
    → IsAlone (λ w. get_or words w 0) trail
    → HasNoBlock n k words
no_block n k trail why words fits disturbed full used alone m number = block_in_use n (block k m) trail why words (block_in n k m fits number) disturbed
    (λ calm s from low. set_around calm s from low (omega (arith, low, fits)))
    (λ s w low from below. used s w low (omega (arith, below, words_under n s (block k m) (block_in n k m fits number) low)))
    alone
  where
    set_around : why ≡ Full
        → (s : ℕ)
        → k / 6 ≤ s
        → s ≤ n / 6
        → max k (6 * s) ≤ n
        → IsSetIn (left_by trail) (run_of n (unit_around s (block k m)))
    set_around calm s from low most =
        let level : max k (6 * s) / 6 ≡ s = omega (arith, from) in
        let within = base_in n k (block k m) (block_in n k m fits number) in
        each_set n (max k (6 * s)) (first_word (n / 6 - s)) (left_by trail) most (ap (λ l. first_word (n / 6 - l)) (sym level))
        (subst (λ l. (w : ℕ) → w < 2 ^ (n - 6 * l - 6) → IsFullWord (2 ^ min (n - 6 * l) 6) (max k (6 * s) % 6) (left_by trail (first_word (n / 6 - s) + w))) (sym level) (λ w there. full calm s w from low there))
        (m * 2 ^ k / 2 ^ max k (6 * s)) (around_number n (max k (6 * s)) (m * 2 ^ k) most within)
