-- What the steps of a call found: where a call is refused, each region was found taken.
use Rattle.std.specs.Int.{trailing_ones}
use Rattle.std.proofs.Common.{w64}
use Rattle.std.proofs.lemmas.Nat.Bits.{bit_at_ones, bit_at-trailing_ones}
use Rattle.std.proofs.Common.{inl, inr, ◌⊎◌, ◌≡◌, ◌≢◌, ℕ, zero, suc, ◌+◌, ◌-◌, ◌*◌, ◌/◌, ◌%◌, ◌^◌, ◌<◌, ◌≤◌, min, max, bit_and, List, ◌∷◌, sym, ◌∙◌, ap, ap₂, subst, arith, add-mul, mul_assoc}
use Rattle.std.specs.Int.{bit_at}
use Rattle.std.proofs.lemmas.Bool.{cases_eq, cases_lt}
use Rattle.std.proofs.lemmas.Nat.{pow_pos, div-add-mod', row_fits, mod-pow-add, le-div}
use Rattle.std.proofs.Math.Nat.{mod-eq_of_lt, mul-div_cancel}
use Rattle.std.proofs.lemmas.Nat.Bits.{bit_at-zero, bit_at_and, bit_at-lt, same_from_bits, same_from_bits_below}
use Rattle.bitmap_tree.specs.declared.no_block.NoBlock.{NoBlock}
use Rattle.bitmap_tree.specs.declared.no_block.NoBlock.TheVariants.{Full}
use Rattle.bitmap_tree.specs.declared.view.Note.{Note}
use Rattle.bitmap_tree.specs.declared.view.Run.{Run}
use Rattle.bitmap_tree.specs.Rule.{first_word, has, run}
use Rattle.bitmap_tree.specs.Layout.{Known}
use Rattle.bitmap_tree.specs.InnerSteps.{note, after}
use Rattle.cube_shape.specs.Region.{block}
use Rattle.bitmap_tree.specs.Layout.{place_in, run_of}
use Rattle.bitmap_tree.specs.Trail.{WasSet, WasEachTaken}
use Rattle.bitmap_tree.specs.InnerTrail.{Keeps, HasBit, Shows, IsFull, IsFullWord, IsSetIn}
use Rattle.bitmap_tree.proofs.MaskLemmas.{mask_bit, size_le}
use Rattle.bitmap_tree.proofs.LayoutLemmas.{fits_word, multiple, split_at, dim_split}

-- ---- trails grow

pub keeps_after : (old new : Known) (runs : List Run) (word found left : ℕ)
    → new ≡ after runs word found left old
    → Keeps old new
keeps_after old new runs word found left is = λ q was. subst (λ (m : Known). WasSet m.0.trail q) (sym is) (inr was)

pub keeps_then : (a b c : Known) → Keeps a b → Keeps b c → Keeps a c
keeps_then a b c first then = λ q was. then q (first q was)

pub keeps_none : (a : Known) → Keeps a a
keeps_none a = λ q was. was

-- ---- a bit that is set

pub has_bit : (word o len : ℕ)
    → HasBit word o len ⊎ ((j : ℕ) → o ≤ j → j < o + len → bit_at word j ≡ 0)
has_bit word o zero = inr (λ j from below. absurd (omega arith))
has_bit word o (suc len) = elim (has_bit word o len) [
  | inl found ↦ inl (found.0, found.1, omega (arith, found.2), found.3)
  | inr none ↦ elim (cases_eq (bit_at word (o + len)) 1) [
    | inl set ↦ inl (o + len, omega arith, omega arith, set)
    | inr clear ↦ inr (λ j from below. elim (cases_lt j (o + len)) [
      | inl less ↦ none j from less
      | inr past ↦
          let last : j ≡ o + len = omega arith in
          ap (bit_at word) last ∙ omega (arith, bit_at-lt word (o + len), clear)
    ])
  ]
]

pub blocked : (word o len : ℕ) → bit_and word (2 ^ (o + len) - 2 ^ o) ≢ 0 → HasBit word o len
blocked word o len taken = elim (has_bit word o len) [
  | inl found ↦ found
  | inr none ↦ absurd (taken (same_from_bits (bit_and word (2 ^ (o + len) - 2 ^ o)) 0 (λ j. same j (cases_lt j o) (cases_lt j (o + len)) none)))
]
  where
    same : (j : ℕ)
        → (j < o) ⊎ (o ≤ j)
        → (j < o + len) ⊎ (o + len ≤ j)
        → ((i : ℕ) → o ≤ i → i < o + len → bit_at word i ≡ 0)
        → bit_at (bit_and word (2 ^ (o + len) - 2 ^ o)) j ≡ bit_at 0 j
    same j (inl before) below none = omega (arith, bit_at_and word (2 ^ (o + len) - 2 ^ o) j, mask_bit o len j, bit_at-zero j, bit_at-lt word j)
    same j (inr from) (inl inside) none = omega (arith, bit_at_and word (2 ^ (o + len) - 2 ^ o) j, none j from inside, bit_at-zero j)
    same j (inr from) (inr past) none = omega (arith, bit_at_and word (2 ^ (o + len) - 2 ^ o) j, mask_bit o len j, bit_at-zero j, bit_at-lt word j)

pub shows_head : (word found left : ℕ) (rest : List Note)
    → Shows word found (note word found left ∷ rest)
shows_head word found left rest j low set =
    let at : word ≡ (64 * word + j) / 64 = omega arith in
    let place : (64 * word + j) % 64 ≡ j = omega arith in
    inl (at, ap (bit_at found) place ∙ set)

pub shows_now : (word found left : ℕ) (rest trail : List Note)
    → trail ≡ note word found left ∷ rest
    → Shows word found trail
shows_now word found left rest trail is = subst (Shows word found) (sym is) (shows_head word found left rest)

pub full_word : (size k word found : ℕ) (trail : List Note)
    → size ≤ 64
    → Shows word found trail
    → ((o : ℕ) → o % 2 ^ k ≡ 0 → o + 2 ^ k ≤ size → HasBit found o (2 ^ k))
    → IsFull size k word trail
full_word size k word found trail limit shows each o begins within =
    let b = each o begins within in
    let j : ℕ = b.0 in
    let from : o ≤ j = b.1 in
    let below : j < o + 2 ^ k = b.2 in
    (64 * word + j, omega arith, omega arith, shows j (omega arith) b.3)

pub full_keeps : (size k word : ℕ) (old new : Known)
    → Keeps old new
    → IsFull size k word old.0.trail
    → IsFull size k word new.0.trail
full_keeps size k word old new kept full o begins within = let t = full o begins within in (t.0, t.1, t.2, kept t.0 t.3)

place_begins : (base k : ℕ) → k ≤ 6 → base % 2 ^ k ≡ 0 → base % 64 % 2 ^ k ≡ 0
place_begins base k small begins =
    let parts : 6 - k + k ≡ 6 = omega arith in
    let place : base % 2 ^ (6 - k + k) ≡ (base / 2 ^ k % 2 ^ (6 - k)) * 2 ^ k + base % 2 ^ k = mod-pow-add base (6 - k) k in
    let at_6 : base % 2 ^ (6 - k + k) ≡ base % 64 = ap (λ j. base % 2 ^ j) parts in
    let same : base % 64 ≡ base / 2 ^ k % 2 ^ (6 - k) * 2 ^ k = omega (arith, place, at_6, begins) in
    ap (λ x. x % 2 ^ k) same ∙ multiple (base / 2 ^ k % 2 ^ (6 - k)) k

place_within : (n base k : ℕ)
    → k ≤ 6
    → base % 2 ^ k ≡ 0
    → base + 2 ^ k ≤ 2 ^ n
    → base % 64 + 2 ^ k ≤ 2 ^ min n 6
place_within n base k small begins within = elim (cases_lt n 6) [
  | inl less ↦
      let size : min n 6 ≡ n = omega arith in
      let most : 2 ^ n ≤ 64 = size_le n (omega arith) in
      let has_some : 0 < 2 ^ k = pow_pos k in
      let same : base % 64 ≡ base = mod-eq_of_lt (omega arith) in
      subst (λ z. base % 64 + 2 ^ k ≤ 2 ^ z) (sym size) (omega (arith, same, within))
  | inr big ↦
      let size : min n 6 ≡ 6 = omega arith in
      subst (λ z. base % 64 + 2 ^ k ≤ 2 ^ z) (sym size) (fits_word base k small begins)
]

-- of each row of units of a level one has a property, where this is so of each row in each word
each_units : (P : ℕ → Type 0) (n k f : ℕ)
    → k ≤ 6
    → k ≤ n
    → ((w : ℕ)
    → w < 2 ^ (n - 6)
    → (o : ℕ)
    → o % 2 ^ k ≡ 0
    → o + 2 ^ k ≤ 2 ^ min n 6
    → (q : ℕ) × (64 * (f + w) + o ≤ q) × (q < 64 * (f + w) + o + 2 ^ k) × P q)
    → (m : ℕ)
    → m < 2 ^ (n - k)
    → (q : ℕ) × (64 * f + m * 2 ^ k ≤ q) × (q < 64 * f + m * 2 ^ k + 2 ^ k) × P q
each_units P n k f small fits full m number =
    let rows : m * 2 ^ k + 2 ^ k ≤ 2 ^ (n - k) * 2 ^ k = row_fits m (2 ^ k) (2 ^ (n - k)) (2 ^ k) number (omega arith) in
    let within : m * 2 ^ k + 2 ^ k ≤ 2 ^ n = omega (arith, rows, split_at n k fits) in
    let begins : m * 2 ^ k % 2 ^ k ≡ 0 = multiple m k in
    let parts : m * 2 ^ k / 64 * 64 + m * 2 ^ k % 64 ≡ m * 2 ^ k = div-add-mod' (m * 2 ^ k) 64 in
    let same : 64 * (f + m * 2 ^ k / 64) + m * 2 ^ k % 64 ≡ 64 * f + m * 2 ^ k = omega (arith, parts) in
    let more : 0 < 2 ^ k = pow_pos k in
    let word : m * 2 ^ k / 64 < 2 ^ (n - 6) = row_word n (m * 2 ^ k) (omega (arith, within, more)) in
    subst (λ b. (q : ℕ) × (b ≤ q) × (q < b + 2 ^ k) × P q) same
    (full (m * 2 ^ k / 64) word (m * 2 ^ k % 64) (place_begins (m * 2 ^ k) k small begins) (place_within n (m * 2 ^ k) k small begins within))
  where
    row_word : (n x : ℕ) → x < 2 ^ n → x / 64 < 2 ^ (n - 6)
    row_word n x below = elim (cases_lt n 6) [
      | inl less ↦
          let most : 2 ^ n ≤ 64 = size_le n (omega arith) in
          let one : 0 < 2 ^ (n - 6) = pow_pos (n - 6) in
          omega (arith, below, most, one)
      | inr big ↦ omega (arith, below, split_at n 6 big)
    ]

-- the same of the regions of a dimension
each_region : (P : ℕ → Type 0) (n k f : ℕ)
    → k ≤ n
    → f ≡ first_word (n / 6 - k / 6)
    → ((w : ℕ)
    → w < 2 ^ (n - 6 * (k / 6) - 6)
    → (o : ℕ)
    → o % 2 ^ (k % 6) ≡ 0
    → o + 2 ^ (k % 6) ≤ 2 ^ min (n - 6 * (k / 6)) 6
    → (q : ℕ) × (64 * (f + w) + o ≤ q) × (q < 64 * (f + w) + o + 2 ^ (k % 6)) × P q)
    → (m : ℕ)
    → m < 2 ^ (n - k)
    → (q : ℕ) × (0 < has q (run_of n (block k m))) × P q
each_region P n k f fits is_f full m number =
    let parts : n - k ≡ n - 6 * (k / 6) - k % 6 = omega arith in
    let below : m < 2 ^ (n - 6 * (k / 6) - k % 6) = subst (λ e. m < 2 ^ e) parts number in
    let seen = each_units P (n - 6 * (k / 6)) (k % 6) f (omega arith) (omega (arith, fits)) full m below in
    let whole : m * 2 ^ k ≡ m * 2 ^ (k % 6) * 2 ^ (6 * (k / 6)) = ap (λ z. m * z) (sym (dim_split k)) ∙ sym (mul_assoc m (2 ^ (k % 6)) (2 ^ (6 * (k / 6)))) in
    let value : m * 2 ^ k / 2 ^ (6 * (k / 6)) ≡ m * 2 ^ (k % 6) = ap (λ z. z / 2 ^ (6 * (k / 6))) whole ∙ mul-div_cancel (m * 2 ^ (k % 6)) (pow_pos (6 * (k / 6))) in
    let at : 64 * f + m * 2 ^ (k % 6) ≡ place_in n (k / 6) (m * 2 ^ k) = omega (arith, is_f, value) in
    (seen.0, inside seen.0 (place_in n (k / 6) (m * 2 ^ k)) (2 ^ (k % 6)) (omega (arith, seen.1, at)) (omega (arith, seen.2, at)), seen.3)
  where
    inside : (q b L : ℕ) → b ≤ q → q < b + L → 0 < has q (run b L)
    inside q b L low high = omega (arith, low, high)

pub each_taken : (n k f : ℕ) (trail : List Note)
    → k ≤ n
    → f ≡ first_word (n / 6 - k / 6)
    → ((w : ℕ)
    → w < 2 ^ (n - 6 * (k / 6) - 6)
    → IsFull (2 ^ min (n - 6 * (k / 6)) 6) (k % 6) (f + w) trail)
    → WasEachTaken n k trail
each_taken n k f trail fits is_f full = each_region (λ q. WasSet trail q) n k f fits is_f full

-- of each region of a dimension a bit was left set, where each word was left without room
pub each_set : (n k f : ℕ) (left : ℕ → ℕ)
    → k ≤ n
    → f ≡ first_word (n / 6 - k / 6)
    → ((w : ℕ)
    → w < 2 ^ (n - 6 * (k / 6) - 6)
    → IsFullWord (2 ^ min (n - 6 * (k / 6)) 6) (k % 6) (left (f + w)))
    → (m : ℕ)
    → m < 2 ^ (n - k)
    → IsSetIn left (run_of n (block k m))
each_set n k f left fits is_f full = each_region (λ q. bit_at (left (q / 64)) (q % 64) ≡ 1) n k f fits is_f (λ w there o begins within.
    let bit = full w there o begins within in
    let size : 2 ^ min (n - 6 * (k / 6)) 6 ≤ 64 = size_le (min (n - 6 * (k / 6)) 6) (omega arith) in
    let from : o ≤ bit.0 = bit.1 in
    let below : bit.0 < o + 2 ^ (k % 6) = bit.2 in
    let word : (64 * (f + w) + bit.0) / 64 ≡ f + w = omega (arith, below, within, size) in
    let place : (64 * (f + w) + bit.0) % 64 ≡ bit.0 = omega (arith, below, within, size) in
    (64 * (f + w) + bit.0, omega (arith, from), omega (arith, below), ap₂ (λ x z. bit_at (left x) z) word place ∙ bit.3))

pub taken_keeps : (n k : ℕ) (old new : Known)
    → Keeps old new
    → WasEachTaken n k old.0.trail
    → WasEachTaken n k new.0.trail
taken_keeps n k old new kept each m number = let t = each m number in (t.0, t.1, kept t.0 t.2)

-- ---- the search in a word

pub none_next : (word size k i mask : ℕ)
    → k ≤ 6
    → size ≤ 64
    → i < size / 2 ^ k
    → mask ≡ 2 ^ (i * 2 ^ k % 4294967296 + 2 ^ k) - 2 ^ (i * 2 ^ k % 4294967296)
    → bit_and word mask ≢ 0
    → ((j : ℕ) → j < i → HasBit word (j * 2 ^ k) (2 ^ k))
    → (j : ℕ)
    → j < i + 1
    → HasBit word (j * 2 ^ k) (2 ^ k)
none_next word size k i mask small limit within is taken before j less = elim (cases_lt j i) [
  | inl earlier ↦ before j earlier
  | inr last ↦
      let some : 0 < 2 ^ k = pow_pos k in
      let rows : i * 2 ^ k + 2 ^ k ≤ size / 2 ^ k * 2 ^ k = row_fits i (2 ^ k) (size / 2 ^ k) (2 ^ k) within (omega arith) in
      let parts : size / 2 ^ k * 2 ^ k + size % 2 ^ k ≡ size = div-add-mod' size (2 ^ k) in
      let most : i * 2 ^ k + 2 ^ k ≤ size = omega arith in
      let value : i * 2 ^ k % 4294967296 ≡ i * 2 ^ k = mod-eq_of_lt (omega arith) in
      let same : i ≡ j = omega arith in
      let there : bit_and word (2 ^ (i * 2 ^ k + 2 ^ k) - 2 ^ (i * 2 ^ k)) ≢ 0 = λ none. taken (ap (bit_and word) (is ∙ ap (λ o. 2 ^ (o + 2 ^ k) - 2 ^ o) value) ∙ none) in
      subst (λ x. HasBit word (x * 2 ^ k) (2 ^ k)) same (blocked word (i * 2 ^ k) (2 ^ k) there)
]

pub none_all : (word size k i : ℕ)
    → size / 2 ^ k ≤ i
    → ((j : ℕ) → j < i → HasBit word (j * 2 ^ k) (2 ^ k))
    → (o : ℕ)
    → o % 2 ^ k ≡ 0
    → o + 2 ^ k ≤ size
    → HasBit word o (2 ^ k)
none_all word size k i end all o begins within =
    let some : 0 < 2 ^ k = pow_pos k in
    let parts : o / 2 ^ k * 2 ^ k + o % 2 ^ k ≡ o = div-add-mod' o (2 ^ k) in
    let whole : o / 2 ^ k * 2 ^ k ≡ o = omega (arith, parts, begins) in
    let next : (o / 2 ^ k + 1) * 2 ^ k ≡ o / 2 ^ k * 2 ^ k + 1 * 2 ^ k = add-mul (o / 2 ^ k) 1 (2 ^ k) in
    let low : o / 2 ^ k + 1 ≤ size / 2 ^ k = le-div (o / 2 ^ k + 1) size (2 ^ k) some (omega (arith, next, whole, within)) in
    subst (λ x. HasBit word x (2 ^ k)) whole (all (o / 2 ^ k) (omega (arith, low, end)))

-- ---- loops

-- one word more was found full, unless it was given up
pub full_next : (size k f word : ℕ) (why more both : NoBlock) (old new : Known)
    → Keeps old new
    → (both ≡ Full → (why ≡ Full) × (more ≡ Full))
    → (why ≡ Full → (w : ℕ) → w < word → IsFull size k (f + w) old.0.trail)
    → (more ≡ Full → IsFull size k (f + word) new.0.trail)
    → both ≡ Full
    → (w : ℕ)
    → w < word + 1
    → IsFull size k (f + w) new.0.trail
full_next size k f word why more both old new kept parts before here full w less = elim (cases_lt w word) [
  | inl earlier ↦ full_keeps size k (f + w) old new kept (before (parts full).0 w earlier)
  | inr last ↦ let same : word ≡ w = omega arith in subst (λ x. IsFull size k (f + x) new.0.trail) same (here (parts full).1)
]

-- one level more was found taken
pub level_next : (n k low level : ℕ) (why more both : NoBlock) (old new : Known)
    → Keeps old new
    → (both ≡ Full → (why ≡ Full) × (more ≡ Full))
    → (why ≡ Full → (s : ℕ) → low ≤ s → s < level → WasEachTaken n (max k (6 * s)) old.0.trail)
    → (more ≡ Full → WasEachTaken n (max k (6 * level)) new.0.trail)
    → both ≡ Full
    → (s : ℕ)
    → low ≤ s
    → s < level + 1
    → WasEachTaken n (max k (6 * s)) new.0.trail
level_next n k low level why more both old new kept parts before here full s from less = elim (cases_lt s level) [
  | inl earlier ↦ taken_keeps n (max k (6 * s)) old new kept (before (parts full).0 s from earlier)
  | inr last ↦ let same : level ≡ s = omega arith in subst (λ x. WasEachTaken n (max k (6 * x)) new.0.trail) same (here (parts full).1)
]

-- ---- where a search begins

pub all_set : (size k o : ℕ) → size ≤ 64 → o + 2 ^ k ≤ size → HasBit 18446744073709551615 o (2 ^ k)
all_set size k o limit within =
    let has_some : 0 < 2 ^ k = pow_pos k in
    let ones : bit_at (2 ^ 64 - 1) o ≡ 1 = bit_at_ones 64 o (omega (arith, limit, within, has_some)) in
    (o, omega arith, omega (arith, has_some), ones)

-- the regions before the first bit that is clear
pub skips : (word k first : ℕ)
    → word < 18446744073709551616
    → word ≢ 18446744073709551615
    → first ≡ trailing_ones w64 word
    → (i : ℕ)
    → i < first / 2 ^ k
    → HasBit word (i * 2 ^ k) (2 ^ k)
skips word k first wide not_all is i less =
    let has_some : 0 < 2 ^ k = pow_pos k in
    let ones = bit_at-trailing_ones w64 word (omega (arith, wide, not_all)) in
    let rows : i * 2 ^ k + 2 ^ k ≤ first / 2 ^ k * 2 ^ k = row_fits i (2 ^ k) (first / 2 ^ k) (2 ^ k) less (omega arith) in
    let parts : first / 2 ^ k * 2 ^ k + first % 2 ^ k ≡ first = div-add-mod' first (2 ^ k) in
    let low : i * 2 ^ k < trailing_ones w64 word = omega (arith, rows, parts, is, has_some) in
    (i * 2 ^ k, omega arith, omega (arith, has_some), ones.2 (i * 2 ^ k) low)

-- ---- bits of a number

-- a number other than 0 has a bit
pub some_bit : (x : ℕ) → x < 18446744073709551616 → x ≢ 0 → HasBit x 0 64
some_bit x wide more = elim (has_bit x 0 64) [
  | inl found ↦ found
  | inr none ↦ absurd (more (same_from_bits_below 64 x 0 wide (pow_pos 64) (λ j low. none j (omega arith) (omega (arith, low)) ∙ sym (bit_at-zero j))))
]

pub all_bits : HasBit 18446744073709551615 0 64
all_bits = all_set 64 6 0 (omega arith) (omega arith)

-- a bit of the mask that was found set
pub blocked_run : (words : ℕ → ℕ) (w o L found : ℕ)
    → words w ≡ found
    → o + L ≤ 64
    → bit_and found (2 ^ (o + L) - 2 ^ o) ≢ 0
    → IsSetIn words (run (64 * w + o) L)
blocked_run words w o L found is within taken =
    let bit = blocked found o L taken in
    let from : o ≤ bit.0 = bit.1 in
    let below : bit.0 < o + L = bit.2 in
    let word : (64 * w + bit.0) / 64 ≡ w = omega (arith, below, within) in
    let place : (64 * w + bit.0) % 64 ≡ bit.0 = omega (arith, below, within) in
    (64 * w + bit.0, inside (64 * w) bit.0 o L from below, ap₂ (λ x z. bit_at (words x) z) word place ∙ (ap (λ x. bit_at x bit.0) is ∙ bit.3))
  where
    inside : (a j o L : ℕ) → o ≤ j → j < o + L → 0 < has (a + j) (run (a + o) L)
    inside a j o L from below = omega (arith, from, below)

pub blocked_seen : (trail : List Note) (w o L found : ℕ)
    → Shows w found trail
    → o + L ≤ 64
    → bit_and found (2 ^ (o + L) - 2 ^ o) ≢ 0
    → (q : ℕ) × (0 < has q (run (64 * w + o) L)) × WasSet trail q
blocked_seen trail w o L found shows within taken =
    let bit = blocked found o L taken in
    let from : o ≤ bit.0 = bit.1 in
    let below : bit.0 < o + L = bit.2 in
    (64 * w + bit.0, inside (64 * w) bit.0 o L from below, shows bit.0 (omega (arith, below, within)) bit.3)
  where
    inside : (a j o L : ℕ) → o ≤ j → j < o + L → 0 < has (a + j) (run (a + o) L)
    inside a j o L from below = omega (arith, from, below)
