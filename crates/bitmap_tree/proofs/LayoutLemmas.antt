-- Where the bits of a region lie: a region of a level, the word under a unit, and two regions that
-- are apart.
use Rattle.std.proofs.Common.{inl, inr, ◌≡◌, ℕ, zero, suc, ◌+◌, ◌-◌, ◌*◌, ◌/◌, ◌%◌, ◌^◌, ◌<◌, ◌≤◌, min, List, [], ◌∷◌, ◌++◌, refl, sym, ◌∙◌, ap, ap₂, subst, arith, mul_assoc, add-mul}
use Rattle.std.proofs.lemmas.Bool.{cases_lt, cases_eq}
use Rattle.std.proofs.lemmas.Nat.{pow_pos, pow-add, div-add-mod', row_fits, mod_low, mod-pow-add, mod_below, div_below, le-div}
use Rattle.std.proofs.Math.Nat.{mod-eq_of_lt, mul-div_cancel, div-div-eq-div-mul}
use Rattle.std.proofs.Math.Pow.{pow_mono}
use Rattle.cube_shape.specs.declared.region.Region.{Region}
use Rattle.cube_shape.specs.declared.limits.TheConstants.{MAX_BITMAP_DIM}
use Rattle.cube_shape.specs.Region.{AreApart, Covers, IsAligned}
use Rattle.ghost_history.specs.Lists.{rest_of}
use Rattle.bitmap_tree.specs.declared.view.Run.{Run}
use Rattle.bitmap_tree.specs.Rule.{first_word, word_count, run, has}
use Rattle.bitmap_tree.specs.InnerRule.{times}
use Rattle.bitmap_tree.specs.Layout.{Known}
use Rattle.bitmap_tree.specs.InnerSteps.{Opens, Shuts, Loses, AreRunsApart, IsUnder, up, cut_first, after, joined}
use Rattle.bitmap_tree.specs.Layout.{place_in, run_of, HasRun}
use Rattle.bitmap_tree.specs.InnerLayout.{IsBlank, IsIn, Grows}
use Rattle.bitmap_tree.proofs.MaskLemmas.{place, has_here, has_there, has_none, mask_bit, size_le}

-- ---- powers

pub multiple : (q k : ℕ) → q * 2 ^ k % 2 ^ k ≡ 0
multiple q k = let plus : q * 2 ^ k ≡ q * 2 ^ k + 0 = omega arith in ap (λ x. x % 2 ^ k) plus ∙ mod_low q k 0 (pow_pos k)

pub split_at : (n k : ℕ) → k ≤ n → 2 ^ (n - k) * 2 ^ k ≡ 2 ^ n
split_at n k fits = let parts : n - k + k ≡ n = omega arith in sym (pow-add 2 (n - k) k) ∙ ap (λ j. 2 ^ j) parts

-- a dimension is its level and what it has there
pub dim_split : (k : ℕ) → 2 ^ (k % 6) * 2 ^ (6 * (k / 6)) ≡ 2 ^ k
dim_split k = let parts : k % 6 + 6 * (k / 6) ≡ k = omega arith in sym (pow-add 2 (k % 6) (6 * (k / 6))) ∙ ap (λ j. 2 ^ j) parts

-- a region of a level in the units of the level
pub units : (base k : ℕ)
    → base % 2 ^ k ≡ 0
    → (base / 2 ^ (6 * (k / 6)) * 2 ^ (6 * (k / 6)) ≡ base)
    × (base / 2 ^ (6 * (k / 6)) % 2 ^ (k % 6) ≡ 0)
units base k begins =
    let m : ℕ = base / 2 ^ k in
    let parts : base / 2 ^ k * 2 ^ k + base % 2 ^ k ≡ base = div-add-mod' base (2 ^ k) in
    let rows : base / 2 ^ k * 2 ^ (k % 6) * 2 ^ (6 * (k / 6)) ≡ base / 2 ^ k * 2 ^ k = mul_assoc (base / 2 ^ k) (2 ^ (k % 6)) (2 ^ (6 * (k / 6))) ∙ ap (λ z. base / 2 ^ k * z) (dim_split k) in
    let is : base / 2 ^ k * 2 ^ (k % 6) * 2 ^ (6 * (k / 6)) ≡ base = omega (arith, parts, rows, begins) in
    let value : base / 2 ^ (6 * (k / 6)) ≡ base / 2 ^ k * 2 ^ (k % 6) = ap (λ z. z / 2 ^ (6 * (k / 6))) (sym is) ∙ mul-div_cancel (base / 2 ^ k * 2 ^ (k % 6)) (pow_pos (6 * (k / 6))) in
    (ap (λ z. z * 2 ^ (6 * (k / 6))) value ∙ is, ap (λ z. z % 2 ^ (k % 6)) value ∙ multiple (base / 2 ^ k) (k % 6))

-- ---- words and places

pub first_le : (a d : ℕ) → first_word a ≤ first_word (d + a)
first_le a zero = let same : 0 + a ≡ a = omega arith in subst (λ x. first_word a ≤ first_word x) (sym same) (omega arith)
first_le a (suc d) = let same : suc d + a ≡ suc (d + a) = omega arith in let more : first_word a ≤ 64 * first_word (d + a) + 1 = omega (arith, first_le a d) in subst (λ x. first_word a ≤ first_word x) (sym same) more

-- the words of a level are words of the machine
pub word_there : (n l w : ℕ) → w < 2 ^ (n - 6 * l - 6) → first_word (n / 6 - l) + w < word_count n
word_there n l w within =
    let less : n - 6 * l - 6 ≤ n - 6 = omega arith in
    let most : 2 ^ (n - 6 * l - 6) ≤ 2 ^ (n - 6) = pow_mono less in
    let d : ℕ = n / 6 - (n / 6 - l) in
    let whole : n / 6 - (n / 6 - l) + (n / 6 - l) ≡ n / 6 = omega arith in
    let order : first_word (n / 6 - l) ≤ first_word (n / 6) = subst (λ x. first_word (n / 6 - l) ≤ first_word x) whole (first_le (n / 6 - l) (n / 6 - (n / 6 - l))) in
    omega (arith, most, order, within)

pub first_up : (n l : ℕ)
    → l < n / 6
    → first_word (n / 6 - l) ≡ 64 * first_word (n / 6 - (l + 1)) + 1
first_up n l low = let is : n / 6 - l ≡ suc (n / 6 - (l + 1)) = omega (arith, low) in ap first_word is

pub unit_up : (p l : ℕ) → p / 2 ^ (6 * l) / 64 ≡ p / 2 ^ (6 * (l + 1))
unit_up p l = let parts : 6 * l + 6 ≡ 6 * (l + 1) = omega arith in div-div-eq-div-mul p (2 ^ (6 * l)) 64 ∙ ap (λ x. p / x) (sym (pow-add 2 (6 * l) 6)) ∙ ap (λ e. p / 2 ^ e) parts

-- the place of the unit above
pub place_up : (n l p : ℕ)
    → l < n / 6
    → (0 < place_in n l p / 64) × (place_in n l p / 64 - 1 ≡ place_in n (l + 1) p)
place_up n l p low =
    let f = first_up n l low in
    let u = unit_up p l in
    (omega (arith, f, u), omega (arith, f, u))

pub climb : (n d l p : ℕ)
    → l + d ≤ n / 6
    → (up d (place_in n l p) ≡ place_in n (l + d) p) × IsUnder d (place_in n l p)
climb n zero l p low = let same : l ≡ l + 0 = omega arith in (ap (λ x. place_in n x p) same, tt)
climb n (suc d) l p low =
    let one = place_up n l p (omega (arith, low)) in
    let rest = climb n d (l + 1) p (omega (arith, low)) in
    let same : l + 1 + d ≡ l + suc d = omega arith in
    (ap (up d) one.1 ∙ rest.0 ∙ ap (λ x. place_in n x p) same, (one.0, subst (IsUnder d) (sym one.1) rest.1))

-- ---- two regions

-- a processor of a region lies in a unit of its bits
covered : (n p : ℕ) (r : Region)
    → r.base % 2 ^ r.dim ≡ 0
    → Covers r p
    → has (place_in n (r.dim / 6) p) (run_of n r) ≡ 1
covered n p r begins covers =
    let U : ℕ = 2 ^ (6 * (r.dim / 6)) in
    let b : ℕ = r.base / 2 ^ (6 * (r.dim / 6)) in
    let whole : r.base / 2 ^ (6 * (r.dim / 6)) * 2 ^ (6 * (r.dim / 6)) ≡ r.base = (units r.base r.dim begins).0 in
    let more : 0 < 2 ^ (6 * (r.dim / 6)) = pow_pos (6 * (r.dim / 6)) in
    let low : r.base / 2 ^ (6 * (r.dim / 6)) ≤ p / 2 ^ (6 * (r.dim / 6)) = le-div (r.base / 2 ^ (6 * (r.dim / 6))) p (2 ^ (6 * (r.dim / 6))) more (omega (arith, whole, covers.0)) in
    let end : (r.base / 2 ^ (6 * (r.dim / 6)) + 2 ^ (r.dim % 6)) * 2 ^ (6 * (r.dim / 6)) ≡ r.base + 2 ^ r.dim = add-mul (r.base / 2 ^ (6 * (r.dim / 6))) (2 ^ (r.dim % 6)) (2 ^ (6 * (r.dim / 6))) ∙ ap₂ (λ x y. x + y) whole (dim_split r.dim) in
    let high : p / 2 ^ (6 * (r.dim / 6)) < r.base / 2 ^ (6 * (r.dim / 6)) + 2 ^ (r.dim % 6) = div_below p (2 ^ (6 * (r.dim / 6))) (r.base / 2 ^ (6 * (r.dim / 6)) + 2 ^ (r.dim % 6)) more (omega (arith, end, covers.1)) in
    within (64 * first_word (n / 6 - r.dim / 6)) (r.base / 2 ^ (6 * (r.dim / 6))) (p / 2 ^ (6 * (r.dim / 6))) (2 ^ (r.dim % 6)) low high
  where
    within : (f b q L : ℕ) → b ≤ q → q < b + L → has (f + q) (run (f + b) L) ≡ 1
    within f b q L low high = omega (arith, low, high)

-- where one of two regions is of a level that is not above the other's, they have no processor in
-- common
apart_up : (n : ℕ) (runs : List Run)
    → AreRunsApart runs
    → (a b : Region)
    → a.base % 2 ^ a.dim ≡ 0
    → b.base % 2 ^ b.dim ≡ 0
    → b.dim ≤ n
    → a.dim / 6 ≤ b.dim / 6
    → ((q : ℕ) → has q (run_of n a) + has q (run_of n b) ≤ times q runs)
    → AreApart a b
apart_up n runs apart a b begins_a begins_b fits order both p in_a in_b = elim (cases_eq (a.dim / 6) (b.dim / 6)) [
  | inl same ↦
      let here : has (place_in n (a.dim / 6) p) (run_of n b) ≡ 1 = ap (λ l. has (place_in n l p) (run_of n b)) same ∙ cover_b in
      omega (arith, cover_a, here, both (place_in n (a.dim / 6) p), apart.once (place_in n (a.dim / 6) p))
  | inr other ↦
      let d : ℕ = b.dim / 6 - (a.dim / 6 + 1) in
      let sum : a.dim / 6 + suc (b.dim / 6 - (a.dim / 6 + 1)) ≡ b.dim / 6 = omega (arith, order, other) in
      let most : a.dim / 6 + suc (b.dim / 6 - (a.dim / 6 + 1)) ≤ n / 6 = omega (arith, sum, fits) in
      let way = climb n (suc (b.dim / 6 - (a.dim / 6 + 1))) (a.dim / 6) p most in
      let at : up (suc (b.dim / 6 - (a.dim / 6 + 1))) (place_in n (a.dim / 6) p) ≡ place_in n (b.dim / 6) p = way.0 ∙ ap (λ l. place_in n l p) sum in
      let held : 0 < times (place_in n (b.dim / 6) p) runs = omega (arith, both (place_in n (b.dim / 6) p), cover_b) in
      let none_here = apart.under (b.dim / 6 - (a.dim / 6 + 1)) (place_in n (a.dim / 6) p) way.1 (subst (λ q. 0 < times q runs) (sym at) held) in
      omega (arith, cover_a, none_here, both (place_in n (a.dim / 6) p))
]
  where
    cover_a : has (place_in n (a.dim / 6) p) (run_of n a) ≡ 1
    cover_a = covered n p a begins_a in_a

    cover_b : has (place_in n (b.dim / 6) p) (run_of n b) ≡ 1
    cover_b = covered n p b begins_b in_b

pub two_apart : (n : ℕ) (a b : Region) (v w both : Known)
    → a.base % 2 ^ a.dim ≡ 0
    → b.base % 2 ^ b.dim ≡ 0
    → a.dim ≤ n
    → b.dim ≤ n
    → v.0.runs ≡ run_of n a ∷ []
    → w.0.runs ≡ run_of n b ∷ []
    → both ≡ (joined v.0 w.0, v.1)
    → AreRunsApart both.0.runs
    → AreApart a b
two_apart n a b v w both begins_a begins_b fits_a fits_b is_a is_b merged apart =
    let runs : both.0.runs ≡ run_of n a ∷ run_of n b ∷ [] = ap (λ (x : Known). x.0.runs) merged ∙ ap₂ (λ xs ys. xs ++ ys) is_a is_b in
    let sum : (q : ℕ) → times q both.0.runs ≡ has q (run_of n a) + has q (run_of n b) = λ q. let e : times q both.0.runs ≡ times q (run_of n a ∷ run_of n b ∷ []) = ap (times q) runs in omega (arith, e) in
    elim (cases_lt (b.dim / 6) (a.dim / 6)) [
      | inl above ↦ λ p in_a in_b. apart_up n both.0.runs apart b a begins_b begins_a fits_a (omega (arith, above)) (λ q. omega (arith, sum q)) p in_b in_a
      | inr below ↦ apart_up n both.0.runs apart a b begins_a begins_b fits_b below (λ q. omega (arith, sum q))
    ]

-- ---- a region of a level

-- a region of dimension k at most 6 divides 64
word_split : (k : ℕ) → k ≤ 6 → 2 ^ (6 - k) * 2 ^ k ≡ 64
word_split k small = let parts : 6 - k + k ≡ 6 = omega arith in sym (pow-add 2 (6 - k) k) ∙ ap (λ j. 2 ^ j) parts

-- some units of a word of a machine of n dimensions
in_word : (n i o k : ℕ)
    → i < 2 ^ (n - 6)
    → k ≤ 6
    → o % 2 ^ k ≡ 0
    → o + 2 ^ k ≤ 2 ^ min n 6
    → ((64 * i + o) % 2 ^ k ≡ 0) × (64 * i + o + 2 ^ k ≤ 2 ^ n)
in_word n i o k word small begins within = (aligned, inside)
  where
    aligned : (64 * i + o) % 2 ^ k ≡ 0
    aligned =
        let parts : o / 2 ^ k * 2 ^ k + o % 2 ^ k ≡ o = div-add-mod' o (2 ^ k) in
        let x : ℕ = 2 ^ (6 - k) in
        let rows : i * (2 ^ (6 - k) * 2 ^ k) ≡ i * 2 ^ (6 - k) * 2 ^ k = sym (mul_assoc i (2 ^ (6 - k)) (2 ^ k)) in
        let whole : i * (2 ^ (6 - k) * 2 ^ k) ≡ i * 64 = ap (λ z. i * z) (word_split k small) in
        let sum : (i * 2 ^ (6 - k) + o / 2 ^ k) * 2 ^ k ≡ i * 2 ^ (6 - k) * 2 ^ k + o / 2 ^ k * 2 ^ k = add-mul (i * 2 ^ (6 - k)) (o / 2 ^ k) (2 ^ k) in
        let same : 64 * i + o ≡ (i * 2 ^ (6 - k) + o / 2 ^ k) * 2 ^ k = omega (arith, parts, rows, whole, sum, begins) in
        ap (λ z. z % 2 ^ k) same ∙ multiple (i * 2 ^ (6 - k) + o / 2 ^ k) k

    inside : 64 * i + o + 2 ^ k ≤ 2 ^ n
    inside = elim (cases_lt n 6) [
      | inl less ↦
          let zero_is : n - 6 ≡ 0 = omega arith in
          let one : i < 2 ^ 0 = subst (λ z. i < 2 ^ z) zero_is word in
          let size : min n 6 ≡ n = omega arith in
          let top : o + 2 ^ k ≤ 2 ^ n = subst (λ z. o + 2 ^ k ≤ 2 ^ z) size within in
          omega (arith, one, top)
      | inr big ↦
          let size : min n 6 ≡ 6 = omega arith in
          let top : o + 2 ^ k ≤ 2 ^ 6 = subst (λ z. o + 2 ^ k ≤ 2 ^ z) size within in
          let all : 2 ^ (n - 6) * 2 ^ 6 ≡ 2 ^ n = split_at n 6 big in
          let w : ℕ = 2 ^ (n - 6) in
          omega (arith, top, all, word)
    ]

-- some units from one on, as a region
pub in_level : (n k x : ℕ)
    → k ≤ n
    → x % 2 ^ (k % 6) ≡ 0
    → x + 2 ^ (k % 6) ≤ 2 ^ (n - 6 * (k / 6))
    → IsIn n k (record { base = x * 2 ^ (6 * (k / 6)); dim = k })
in_level n k x fits begins within = record {
  dimension = refl;
  begins =
      let parts : x / 2 ^ (k % 6) * 2 ^ (k % 6) + x % 2 ^ (k % 6) ≡ x = div-add-mod' x (2 ^ (k % 6)) in
      let m : x / 2 ^ (k % 6) * 2 ^ (k % 6) ≡ x = omega (arith, parts, begins) in
      let whole : x * 2 ^ (6 * (k / 6)) ≡ x / 2 ^ (k % 6) * 2 ^ k = ap (λ z. z * 2 ^ (6 * (k / 6))) (sym m) ∙ mul_assoc (x / 2 ^ (k % 6)) (2 ^ (k % 6)) (2 ^ (6 * (k / 6))) ∙ ap (λ z. x / 2 ^ (k % 6) * z) (dim_split k) in
      ap (λ z. z % 2 ^ k) whole ∙ multiple (x / 2 ^ (k % 6)) k;
  within =
      let rows : x * 2 ^ (6 * (k / 6)) + 2 ^ k ≡ (x + 2 ^ (k % 6)) * 2 ^ (6 * (k / 6)) = ap (λ z. x * 2 ^ (6 * (k / 6)) + z) (sym (dim_split k)) ∙ sym (add-mul x (2 ^ (k % 6)) (2 ^ (6 * (k / 6)))) in
      let most : (x + 2 ^ (k % 6)) * 2 ^ (6 * (k / 6)) ≤ 2 ^ (n - 6 * (k / 6)) * 2 ^ (6 * (k / 6)) = mul_mono (x + 2 ^ (k % 6)) (2 ^ (n - 6 * (k / 6))) (2 ^ (6 * (k / 6))) within in
      omega (arith, rows, most, split_at n (6 * (k / 6)) (omega (arith, fits)));
  fits = fits;
}
  where
    mul_mono : (a b c : ℕ) → a ≤ b → a * c ≤ b * c
    mul_mono zero b c le = omega arith
    mul_mono (suc a) b c le = omega (arith, row_fits a c b c (omega (arith, le)) (omega arith))

-- a region that is found in a word of a level: its bits, and that it is one of the machine
pub found_in : (n i o k base : ℕ)
    → k ≤ n
    → i < 2 ^ (n - 6 * (k / 6) - 6)
    → o % 2 ^ (k % 6) ≡ 0
    → o + 2 ^ (k % 6) ≤ 2 ^ min (n - 6 * (k / 6)) 6
    → base ≡ (64 * i + o) * 2 ^ (6 * (k / 6))
    → (run (64 * (first_word (n / 6 - k / 6) + i) + o) (2 ^ (k % 6))
    ≡ run_of n (record { base = base; dim = k })) × IsIn n k (record { base = base; dim = k })
found_in n i o k base fits word begins within is =
    let inside = in_word (n - 6 * (k / 6)) i o (k % 6) word (omega arith) begins within in
    let units_is : base / 2 ^ (6 * (k / 6)) ≡ 64 * i + o = ap (λ z. z / 2 ^ (6 * (k / 6))) is ∙ mul-div_cancel (64 * i + o) (pow_pos (6 * (k / 6))) in
    let at : 64 * (first_word (n / 6 - k / 6) + i) + o ≡ place_in n (k / 6) base = omega (arith, units_is) in
    (ap (λ b. run b (2 ^ (k % 6))) at, subst (λ b. IsIn n k (record { base = b; dim = k })) (sym is) (in_level n k (64 * i + o) fits inside.0 inside.1))

-- a number of units that is computed in a word
pub no_wrap : (n k x : ℕ)
    → n ≤ MAX_BITMAP_DIM
    → k ≤ n
    → x + 2 ^ (k % 6) ≤ 2 ^ (n - 6 * (k / 6))
    → x % 2 ^ (k % 6) ≡ 0
    → x * 2 ^ (6 * (k / 6)) % 18446744073709551616 ≡ x * 2 ^ (6 * (k / 6))
no_wrap n k x small fits within begins =
    let inside = (in_level n k x fits begins within).within in
    let more : 0 < 2 ^ k = pow_pos k in
    let most : 2 ^ n ≤ 2 ^ MAX_BITMAP_DIM = pow_mono small in
    mod-eq_of_lt (omega (arith, inside, more, most))

-- the same as the code has it
pub takes_in : (n i o k f : ℕ) (me : Known)
    → n ≤ MAX_BITMAP_DIM
    → k ≤ n
    → f ≡ first_word (n / 6 - k / 6)
    → i < 2 ^ (n - 6 * (k / 6) - 6)
    → o % 2 ^ (k % 6) ≡ 0
    → o + 2 ^ (k % 6) ≤ 2 ^ min (n - 6 * (k / 6)) 6
    → HasRun (run (64 * (f + i) + o) (2 ^ (k % 6))) me
    → HasRun (run_of n (record {
      base = (64 * i + o) * 2 ^ (6 * (k / 6)) % 18446744073709551616;
      dim
          = k;
    })) me × IsIn n k (record {
      base = (64 * i + o) * 2 ^ (6 * (k / 6)) %
          18446744073709551616;
      dim = k;
    })
takes_in n i o k f me small fits is_f word begins within claimed =
    let inside = in_word (n - 6 * (k / 6)) i o (k % 6) word (omega arith) begins within in
    let found = found_in n i o k ((64 * i + o) * 2 ^ (6 * (k / 6)) % 18446744073709551616) fits word begins within (no_wrap n k (64 * i + o) small fits inside.1 inside.0) in
    let at : ◌≡◌ {A = Run} (run (64 * (f + i) + o) (2 ^ (k % 6))) (run (64 * (first_word (n / 6 - k / 6) + i) + o) (2 ^ (k % 6))) = ap (λ x. run (64 * (x + i) + o) (2 ^ (k % 6))) is_f in
    (subst (λ r. HasRun r me) (at ∙ found.0) claimed, found.1)

-- the bits of a block that is found, as the code has it
pub taken_run : (n i o k f : ℕ)
    → n ≤ MAX_BITMAP_DIM
    → k ≤ n
    → f ≡ first_word (n / 6 - k / 6)
    → i < 2 ^ (n - 6 * (k / 6) - 6)
    → o % 2 ^ (k % 6) ≡ 0
    → o + 2 ^ (k % 6) ≤ 2 ^ min (n - 6 * (k / 6)) 6
    → ◌≡◌ {A = Run} (run (64 * (f + i) + o) (2 ^ (k % 6)))
    (run_of n (record {
      base = (64 * i + o) * 2 ^ (6 * (k / 6)) % 18446744073709551616;
      dim = k;
    }))
taken_run n i o k f small fits is_f word begins within =
    let inside = in_word (n - 6 * (k / 6)) i o (k % 6) word (omega arith) begins within in
    let found = found_in n i o k ((64 * i + o) * 2 ^ (6 * (k / 6)) % 18446744073709551616) fits word begins within (no_wrap n k (64 * i + o) small fits inside.1 inside.0) in
    let at : ◌≡◌ {A = Run} (run (64 * (f + i) + o) (2 ^ (k % 6))) (run (64 * (first_word (n / 6 - k / 6) + i) + o) (2 ^ (k % 6))) = ap (λ x. run (64 * (x + i) + o) (2 ^ (k % 6))) is_f in
    at ∙ found.0

pub size_64 : (n o L size : ℕ) → o + L ≤ size → size ≤ 64 → o + L ≤ 64
size_64 n o L size within few = omega (arith, within, few)

-- ---- a region in its word

pub fits_word : (base k : ℕ) → k ≤ 6 → base % 2 ^ k ≡ 0 → base % 64 + 2 ^ k ≤ 64
fits_word base k small begins =
    let parts : 6 - k + k ≡ 6 = omega arith in
    let split : base % 2 ^ (6 - k + k) ≡ (base / 2 ^ k % 2 ^ (6 - k)) * 2 ^ k + base % 2 ^ k = mod-pow-add base (6 - k) k in
    let at_6 : base % 2 ^ (6 - k + k) ≡ base % 64 = ap (λ j. base % 2 ^ j) parts in
    let low : base / 2 ^ k % 2 ^ (6 - k) < 2 ^ (6 - k) = mod_below (base / 2 ^ k) (2 ^ (6 - k)) (pow_pos (6 - k)) in
    let rows : base / 2 ^ k % 2 ^ (6 - k) * 2 ^ k + 2 ^ k ≤ 2 ^ (6 - k) * 2 ^ k = row_fits (base / 2 ^ k % 2 ^ (6 - k)) (2 ^ k) (2 ^ (6 - k)) (2 ^ k) low (omega arith) in
    omega (arith, split, at_6, rows, word_split k small, begins)

pub fits_here : (n k x : ℕ) (r : Region)
    → IsIn n k r
    → x ≡ r.base / 2 ^ (6 * (r.dim / 6))
    → x % 64 + 2 ^ (r.dim % 6) ≤ 64
fits_here n k x r inside is = fits_word x (r.dim % 6) (omega arith) (ap (λ z. z % 2 ^ (r.dim % 6)) is ∙ (units r.base r.dim inside.begins).1)

-- ---- the word under a unit

-- a unit, which is a whole level's
pub unit_run : (n l base : ℕ)
    → ◌≡◌ {A = Run} (run_of n (record { base = base; dim = 6 * l + 6 }))
    (run (place_in n (l + 1) base) 1)
unit_run n l base =
    let level : (6 * l + 6) / 6 ≡ l + 1 = omega arith in
    let rest : (6 * l + 6) % 6 ≡ 0 = omega arith in
    ap₂ (λ x y. run (place_in n x base) (2 ^ y)) level rest

-- the word under a unit of which the base is known
pub under_unit : (n l base f w : ℕ)
    → l < n / 6
    → f ≡ first_word (n / 6 - l)
    → w ≡ base / 2 ^ (6 * l + 6)
    → place_in n (l + 1) base + 1 ≡ f + w
under_unit n l base f w low is_f is_w =
    let up_is = first_up n l low in
    let same : base / 2 ^ (6 * (l + 1)) ≡ base / 2 ^ (6 * l + 6) = let parts : 6 * (l + 1) ≡ 6 * l + 6 = omega arith in ap (λ e. base / 2 ^ e) parts in
    omega (arith, up_is, same, is_f, is_w)

-- the first bit of the word under a unit
pub under_base : (n l base f w : ℕ)
    → base % 2 ^ (6 * l + 6) ≡ 0
    → f ≡ first_word (n / 6 - l)
    → w ≡ base / 2 ^ (6 * l + 6)
    → 64 * (f + w) ≡ place_in n l base
under_base n l base f w begins is_f is_w =
    let parts : base / 2 ^ (6 * l + 6) * 2 ^ (6 * l + 6) + base % 2 ^ (6 * l + 6) ≡ base = div-add-mod' base (2 ^ (6 * l + 6)) in
    let q : ℕ = base / 2 ^ (6 * l + 6) in
    let sum : 6 + 6 * l ≡ 6 * l + 6 = omega arith in
    let size : 64 * 2 ^ (6 * l) ≡ 2 ^ (6 * l + 6) = sym (pow-add 2 6 (6 * l)) ∙ ap (λ e. 2 ^ e) sum in
    let rows : base / 2 ^ (6 * l + 6) * 64 * 2 ^ (6 * l) ≡ base / 2 ^ (6 * l + 6) * 2 ^ (6 * l + 6) = mul_assoc (base / 2 ^ (6 * l + 6)) 64 (2 ^ (6 * l)) ∙ ap (λ z. base / 2 ^ (6 * l + 6) * z) size in
    let is : base / 2 ^ (6 * l + 6) * 64 * 2 ^ (6 * l) ≡ base = omega (arith, rows, parts, begins) in
    let value : base / 2 ^ (6 * l) ≡ base / 2 ^ (6 * l + 6) * 64 = ap (λ z. z / 2 ^ (6 * l)) (sym is) ∙ mul-div_cancel (base / 2 ^ (6 * l + 6) * 64) (pow_pos (6 * l)) in
    omega (arith, value, is_f, is_w)

pub opens_run : (u o L : ℕ)
    → o + L ≤ 64
    → Opens (u + 1) (2 ^ (o + L) - 2 ^ o) (run u 1 ∷ []) (run (64 * (u + 1) + o) L ∷ [])
opens_run u o L few = record {
  some = omega arith;
  unit = let same : u + 1 - 1 ≡ u = omega arith in subst (λ q. 0 < times q (run u 1 ∷ [])) (sym same) (omega arith);
  above = let same : u + 1 - 1 ≡ u = omega arith in subst (λ q. times q (run (64 * (u + 1) + o) L ∷ []) + 1 ≡ times q (run u 1 ∷ [])) (sym same) (omega arith);
  here = λ q at. omega (arith, has_here (u + 1) o L q at, mask_bit o L (q % 64), at);
  there = λ q other no_unit. omega (arith, has_there (u + 1) o L q few other, no_unit);
}

-- the unit over the word of a block
unit_over : (n f x : ℕ) (unit block : Region)
    → unit.dim ≡ 6 * (block.dim / 6) + 6
    → IsIn n unit.dim unit
    → block.base / 2 ^ unit.dim ≡ unit.base / 2 ^ unit.dim
    → f ≡ first_word (n / 6 - block.dim / 6)
    → x ≡ block.base / 2 ^ (6 * (block.dim / 6))
    → place_in n (block.dim / 6 + 1) unit.base + 1 ≡ f + x / 64
unit_over n f x unit block dim_is inside same_unit is_f is_x =
    let fits = inside.fits in
    let low : block.dim / 6 < n / 6 = omega (arith, fits, dim_is) in
    let parts : 6 * (block.dim / 6 + 1) ≡ unit.dim = omega (arith, dim_is) in
    let number : x / 64 ≡ unit.base / 2 ^ unit.dim = ap (λ z. z / 64) is_x ∙ unit_up block.base (block.dim / 6) ∙ ap (λ e. block.base / 2 ^ e) parts ∙ same_unit in
    under_unit n (block.dim / 6) unit.base f (x / 64) low is_f (number ∙ ap (λ e. unit.base / 2 ^ e) dim_is)

pub opens_unit : (n f x len mask : ℕ) (unit block : Region) (runs : List Run)
    → unit.dim ≡ 6 * (block.dim / 6) + 6
    → IsIn n unit.dim unit
    → IsIn n block.dim block
    → block.base / 2 ^ unit.dim ≡ unit.base / 2 ^ unit.dim
    → runs ≡ run_of n unit ∷ []
    → f ≡ first_word (n / 6 - block.dim / 6)
    → x ≡ block.base / 2 ^ (6 * (block.dim / 6))
    → mask ≡ 2 ^ (x % 64 + 2 ^ (block.dim % 6)) - 2 ^ (x % 64)
    → len ≡ 2 ^ (block.dim % 6)
    → Opens (f + x / 64) mask runs (run (64 * (f + x / 64) + x % 64) len ∷ rest_of runs)
opens_unit n f x len mask unit block runs dim_is inside block_inside same_unit is is_f is_x is_mask is_len =
    let u : ℕ = place_in n (block.dim / 6 + 1) unit.base in
    let word = unit_over n f x unit block dim_is inside same_unit is_f is_x in
    let was : runs ≡ run (place_in n (block.dim / 6 + 1) unit.base) 1 ∷ [] = is ∙ ap (λ d. run_of n (record { base = unit.base; dim = d }) ∷ []) dim_is ∙ ap (λ r. r ∷ []) (unit_run n (block.dim / 6) unit.base) in
    let few = fits_here n block.dim x block block_inside is_x in
    let known = opens_run (place_in n (block.dim / 6 + 1) unit.base) (x % 64) (2 ^ (block.dim % 6)) few in
    let at_word : Opens (f + x / 64) (2 ^ (x % 64 + 2 ^ (block.dim % 6)) - 2 ^ (x % 64)) (run (place_in n (block.dim / 6 + 1) unit.base) 1 ∷ []) (run (64 * (f + x / 64) + x % 64) (2 ^ (block.dim % 6)) ∷ []) =
    subst (λ y. Opens y (2 ^ (x % 64 + 2 ^ (block.dim % 6)) - 2 ^ (x % 64)) (run (place_in n (block.dim / 6 + 1) unit.base) 1 ∷ []) (run (64 * y + x % 64) (2 ^ (block.dim % 6)) ∷ [])) word known in
    subst (λ rs. Opens (f + x / 64) mask rs (run (64 * (f + x / 64) + x % 64) len ∷ rest_of rs)) (sym was)
    (subst (λ L. Opens (f + x / 64) mask (run (place_in n (block.dim / 6 + 1) unit.base) 1 ∷ []) (run (64 * (f + x / 64) + x % 64) L ∷ [])) (sym is_len)
    (subst (λ y. Opens (f + x / 64) y (run (place_in n (block.dim / 6 + 1) unit.base) 1 ∷ []) (run (64 * (f + x / 64) + x % 64) (2 ^ (block.dim % 6)) ∷ [])) (sym is_mask) at_word))

-- the bits of a block by its word and its place there
pub block_run : (n f x : ℕ) (block : Region)
    → f ≡ first_word (n / 6 - block.dim / 6)
    → x ≡ block.base / 2 ^ (6 * (block.dim / 6))
    → ◌≡◌ {A = Run} (run (64 * (f + x / 64) + x % 64) (2 ^ (block.dim % 6))) (run_of n block)
block_run n f x block is_f is_x =
    let at : 64 * (f + x / 64) + x % 64 ≡ place_in n (block.dim / 6) block.base = omega (arith, is_f, is_x) in
    ap (λ b. run b (2 ^ (block.dim % 6))) at

pub opened_run : (n f x len found left : ℕ) (block : Region) (m now : Known)
    → m.1 ≡ []
    → (rest_of m.0.runs ≡ [])
    → f ≡ first_word (n / 6 - block.dim / 6)
    → x ≡ block.base / 2 ^ (6 * (block.dim / 6))
    → len ≡ 2 ^ (block.dim % 6)
    → now ≡ after (run (64 * (f + x / 64) + x % 64) len ∷ rest_of m.0.runs) (f + x / 64) found left
    m
    → HasRun (run_of n block) now
opened_run n f x len found left block m now slots is is_f is_x is_len opened = (
  ap (λ (y : Known). y.0.runs) opened ∙ ap (λ rs. run (64 * (f + x / 64) + x % 64) len ∷ rs) is ∙ ap (λ L. run (64 * (f + x / 64) + x % 64) L ∷ []) is_len ∙ ap (λ r. r ∷ []) (block_run n f x block is_f is_x),
  ap (λ (y : Known). y.1) opened ∙ slots,
)

-- the first block of dimension k of a unit
pub first_of_unit : (n k : ℕ) (unit : Region)
    → k ≤ unit.dim
    → IsIn n unit.dim unit
    → IsIn n k (record { base = unit.base; dim = k })
first_of_unit n k unit less inside =
    let parts : unit.base / 2 ^ unit.dim * 2 ^ unit.dim + unit.base % 2 ^ unit.dim ≡ unit.base = div-add-mod' unit.base (2 ^ unit.dim) in
    let rows : unit.base / 2 ^ unit.dim * 2 ^ (unit.dim - k) * 2 ^ k ≡ unit.base / 2 ^ unit.dim * 2 ^ unit.dim = mul_assoc (unit.base / 2 ^ unit.dim) (2 ^ (unit.dim - k)) (2 ^ k) ∙ ap (λ z. unit.base / 2 ^ unit.dim * z) (split_at unit.dim k less) in
    let is : unit.base ≡ unit.base / 2 ^ unit.dim * 2 ^ (unit.dim - k) * 2 ^ k = omega (arith, rows, parts, inside.begins) in
    let size : 2 ^ k ≤ 2 ^ unit.dim = pow_mono less in
    record {
      dimension = refl;
      begins = ap (λ z. z % 2 ^ k) is ∙ multiple (unit.base / 2 ^ unit.dim * 2 ^ (unit.dim - k)) k;
      within = omega (arith, inside.within, size);
      fits = omega (arith, less, inside.fits);
    }

-- a unit lies in a word of its level
pub unit_below : (n l base : ℕ)
    → l < n / 6
    → base < 2 ^ n
    → base / 2 ^ (6 * l + 6) < 2 ^ (n - 6 * l - 6)
unit_below n l base low within =
    let less : 6 * l + 6 ≤ n = omega (arith, low) in
    let parts : n - (6 * l + 6) ≡ n - 6 * l - 6 = omega arith in
    let all : 2 ^ (n - 6 * l - 6) * 2 ^ (6 * l + 6) ≡ 2 ^ n = ap (λ e. 2 ^ e * 2 ^ (6 * l + 6)) (sym parts) ∙ split_at n (6 * l + 6) less in
    div_below base (2 ^ (6 * l + 6)) (2 ^ (n - 6 * l - 6)) (pow_pos (6 * l + 6)) (omega (arith, within, all))

pub base_in : (n k : ℕ) (r : Region) → IsIn n k r → r.base < 2 ^ n
base_in n k r inside = let more : 0 < 2 ^ r.dim = pow_pos r.dim in omega (arith, inside.within, more)

pub base_small : (n base : ℕ) → n ≤ MAX_BITMAP_DIM → base < 2 ^ n → base < 2 ^ MAX_BITMAP_DIM
base_small n base few within = let most : 2 ^ n ≤ 2 ^ MAX_BITMAP_DIM = pow_mono few in omega (arith, most, within)

-- ---- a word is shut

pub shuts_word : (i b : ℕ) (runs : List Run)
    → 0 < i
    → runs ≡ run b 0 ∷ []
    → Shuts i runs (run (i - 1) 1 ∷ rest_of runs)
shuts_word i b runs below is = subst (λ rs. Shuts i rs (run (i - 1) 1 ∷ rest_of rs)) (sym is) (record {
  some = below;
  above = omega (arith, has_none b (i - 1));
  there = λ q other. omega (arith, has_none b q, other);
})

pub unit_in : (n l w : ℕ)
    → l < n / 6
    → w < 2 ^ (n - 6 * l - 6)
    → IsIn n (6 * l + 6) (record { base = w * 2 ^ (6 * l + 6); dim = 6 * l + 6 })
unit_in n l w low within =
    let less : 6 * l + 6 ≤ n = omega (arith, low) in
    let parts : n - (6 * l + 6) ≡ n - 6 * l - 6 = omega arith in
    let all : 2 ^ (n - 6 * l - 6) * 2 ^ (6 * l + 6) ≡ 2 ^ n = ap (λ e. 2 ^ e * 2 ^ (6 * l + 6)) (sym parts) ∙ split_at n (6 * l + 6) less in
    let rows : w * 2 ^ (6 * l + 6) + 2 ^ (6 * l + 6) ≤ 2 ^ (n - 6 * l - 6) * 2 ^ (6 * l + 6) = row_fits w (2 ^ (6 * l + 6)) (2 ^ (n - 6 * l - 6)) (2 ^ (6 * l + 6)) within (omega arith) in
    record {
      dimension = refl;
      begins = multiple w (6 * l + 6);
      within = omega (arith, rows, all);
      fits = less;
    }

pub shut_run : (n l f w base : ℕ)
    → l < n / 6
    → f ≡ first_word (n / 6 - l)
    → base ≡ w * 2 ^ (6 * l + 6)
    → ◌≡◌ {A = Run} (run (f + w - 1) 1) (run_of n (record { base = base; dim = 6 * l + 6 }))
shut_run n l f w base low is_f is =
    let value : w ≡ base / 2 ^ (6 * l + 6) = sym (ap (λ z. z / 2 ^ (6 * l + 6)) is ∙ mul-div_cancel w (pow_pos (6 * l + 6))) in
    let word : place_in n (l + 1) base + 1 ≡ f + w = under_unit n l base f w low is_f value in
    let at : f + w - 1 ≡ place_in n (l + 1) base = omega (arith, word) in
    ap (λ x. run x 1) at ∙ sym (unit_run n l base)

-- the same as the code has it
pub shuts_unit : (n l f w : ℕ) (me : Known)
    → n ≤ MAX_BITMAP_DIM
    → l < n / 6
    → f ≡ first_word (n / 6 - l)
    → w < 2 ^ (n - 6 * l - 6)
    → HasRun (run (f + w - 1) 1) me
    → HasRun (run_of n (record {
      base = w * 2 ^ (6 * l + 6) % 18446744073709551616;
      dim = 6 * l + 6;
    })) me × IsIn n (6 * l + 6) (record
    { base = w * 2 ^ (6 * l + 6) % 18446744073709551616; dim = 6 * l + 6 })
shuts_unit n l f w me small low is_f within claimed =
    let inside = unit_in n l w low within in
    let most : w * 2 ^ (6 * l + 6) < 2 ^ MAX_BITMAP_DIM = base_small n (w * 2 ^ (6 * l + 6)) small (base_in n (6 * l + 6) (record { base = w * 2 ^ (6 * l + 6); dim = 6 * l + 6 }) inside) in
    let value : w * 2 ^ (6 * l + 6) % 18446744073709551616 ≡ w * 2 ^ (6 * l + 6) = mod-eq_of_lt (omega (arith, most)) in
    (subst (λ r. HasRun r me) (shut_run n l f w (w * 2 ^ (6 * l + 6) % 18446744073709551616) low is_f value) claimed, subst (λ b. IsIn n (6 * l + 6) (record { base = b; dim = 6 * l + 6 })) (sym value) inside)

-- ---- a region is given back

-- the word of a unit of a level
pub word_below : (n l base : ℕ)
    → 6 * l ≤ n
    → base < 2 ^ n
    → base / 2 ^ (6 * l) / 64 < 2 ^ (n - 6 * l - 6)
word_below n l base low within =
    let x : ℕ = base / 2 ^ (6 * l) in
    let less : base / 2 ^ (6 * l) < 2 ^ (n - 6 * l) = div_below base (2 ^ (6 * l)) (2 ^ (n - 6 * l)) (pow_pos (6 * l)) (omega (arith, within, split_at n (6 * l) low)) in
    elim (cases_lt (n - 6 * l) 6) [
      | inl few ↦
          let most : 2 ^ (n - 6 * l) ≤ 64 = size_le (n - 6 * l) (omega (arith, few)) in
          let more : 0 < 2 ^ (n - 6 * l - 6) = pow_pos (n - 6 * l - 6) in
          omega (arith, less, most, more)
      | inr big ↦ omega (arith, less, split_at (n - 6 * l) 6 big)
    ]

loses_small : (base k i o mask : ℕ) (runs : List Run)
    → runs ≡ run base (2 ^ k) ∷ []
    → i ≡ base / 64
    → o ≡ base % 64
    → mask ≡ 2 ^ (o + 2 ^ k) - 2 ^ o
    → o + 2 ^ k ≤ 64
    → Loses i mask runs
loses_small base k i o mask runs is is_i is_o is_mask within =
    let L : ℕ = 2 ^ k in
    let at : 64 * i + o ≡ base = omega (arith, is_i, is_o, place base) in
    let empty : 64 * i - (64 * i + o) ≡ 0 = omega arith in
    let known : Loses i (2 ^ (o + 2 ^ k) - 2 ^ o) (run (64 * i + o) (2 ^ k) ∷ []) = record {
      here = λ p at. omega (arith, ap (λ len. has p (run (64 * i + o) len)) empty, has_none (64 * i + o) p, has_here i o (2 ^ k) p at, mask_bit o (2 ^ k) (p % 64));
      there = λ p other. omega (arith, ap (λ len. has p (run (64 * i + o) len)) empty, has_none (64 * i + o) p, has_there i o (2 ^ k) p within other);
    } in
    subst (λ rs. Loses i mask rs) (sym (is ∙ ap (λ b. run b (2 ^ k) ∷ []) (sym at))) (subst (λ x. Loses i x (run (64 * i + o) (2 ^ k) ∷ [])) (sym is_mask) known)

pub loses_region : (n k x f mask : ℕ) (r : Region) (m : Known)
    → IsIn n k r
    → m.0.runs ≡ run_of n r ∷ []
    → x ≡ r.base / 2 ^ (6 * (r.dim / 6))
    → f ≡ first_word (n / 6 - r.dim / 6)
    → mask ≡ 2 ^ (x % 64 + 2 ^ (r.dim % 6)) - 2 ^ (x % 64)
    → Loses (f + x / 64) mask m.0.runs
loses_region n k x f mask r m inside is is_x is_f is_mask =
    let at : place_in n (r.dim / 6) r.base ≡ 64 * f + x = omega (arith, is_x, is_f) in
    loses_small (place_in n (r.dim / 6) r.base) (r.dim % 6) (f + x / 64) (x % 64) mask m.0.runs is (omega (arith, at)) (omega (arith, at)) is_mask (fits_here n k x r inside is_x)

pub blank_after : (n x f w found left : ℕ) (r : Region) (m now : Known)
    → HasRun (run_of n r) m
    → x ≡ r.base / 2 ^ (6 * (r.dim / 6))
    → f ≡ first_word (n / 6 - r.dim / 6)
    → w ≡ f + x / 64
    → now ≡ after (cut_first w m.0.runs) w found left m
    → IsBlank now
blank_after n x f w found left r m now has_run is_x is_f is_w cleared =
    let empty : 64 * w - place_in n (r.dim / 6) r.base ≡ 0 = omega (arith, is_x, is_f, is_w) in
    (place_in n (r.dim / 6) r.base, (ap (λ (z : Known). z.0.runs) cleared ∙ ap (cut_first w) has_run.0 ∙ ap (λ l. run (place_in n (r.dim / 6) r.base) l ∷ []) empty, ap (λ (z : Known). z.1) cleared ∙ has_run.1))

-- ---- steps are counted

pub mul_le : (a b c : ℕ) → a ≤ b → a * c ≤ b * c
mul_le zero b c le = omega arith
mul_le (suc a) b c le = omega (arith, row_fits a c b c (omega (arith, le)) (omega arith))

pub grows_none : (a : Known) → Grows 0 a a
grows_none a = omega arith

-- ---- a held region

-- what a held region is known to be
pub is_in : (n dim : ℕ) (r : Region)
    → dim ≡ n
    → r.base % 2 ^ r.dim ≡ 0
    → r.base + 2 ^ r.dim ≤ 2 ^ dim
    → r.dim ≤ dim
    → IsIn n r.dim r
is_in n dim r is begins within fits = record {
  dimension = refl;
  begins = begins;
  within = subst (λ d. r.base + 2 ^ r.dim ≤ 2 ^ d) is within;
  fits = subst (λ d. r.dim ≤ d) is fits;
}

-- ---- an aligned region

pub aligned_in : (n k : ℕ) (r : Region) → IsIn n k r → IsAligned n r
aligned_in n k r is =
    let parts : r.base / 2 ^ r.dim * 2 ^ r.dim + r.base % 2 ^ r.dim ≡ r.base = div-add-mod' r.base (2 ^ r.dim) in
    let more : 0 < 2 ^ r.dim = pow_pos r.dim in
    let below : r.base < 2 ^ (n - r.dim) * 2 ^ r.dim = omega (arith, split_at n r.dim is.fits, is.within, more) in
    let base_is : r.base ≡ r.base / 2 ^ r.dim * 2 ^ r.dim = omega (arith, parts, is.begins) in
    (is.fits, (r.base / 2 ^ r.dim, div_below r.base (2 ^ r.dim) (2 ^ (n - r.dim)) more below, ap (λ b. record { base = b; dim = r.dim }) base_is))

-- a block that is found in a word of its level, as the code has it
pub found_aligned : (n i o k : ℕ)
    → n ≤ MAX_BITMAP_DIM
    → k ≤ n
    → i < 2 ^ (n - 6 * (k / 6) - 6)
    → o % 2 ^ (k % 6) ≡ 0
    → o + 2 ^ (k % 6) ≤ 2 ^ min (n - 6 * (k / 6)) 6
    → IsAligned n (record {
      base = (64 * i + o) * 2 ^ (6 * (k / 6)) % 18446744073709551616;
      dim = k;
    })
found_aligned n i o k small fits word begins within =
    let inside = in_word (n - 6 * (k / 6)) i o (k % 6) word (omega arith) begins within in
    let found = found_in n i o k ((64 * i + o) * 2 ^ (6 * (k / 6)) % 18446744073709551616) fits word begins within (no_wrap n k (64 * i + o) small fits inside.1 inside.0) in
    aligned_in n k (record { base = (64 * i + o) * 2 ^ (6 * (k / 6)) % 18446744073709551616; dim = k }) found.1
