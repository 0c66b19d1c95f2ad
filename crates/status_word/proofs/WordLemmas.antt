-- What each operation on a word does to the tests of its bits.
use Rattle.std.proofs.Common.{◌≡◌, ◌≢◌, ℕ, zero, suc, ◌+◌, ◌*◌, ◌%◌, ◌^◌, ◌<◌, ◌≤◌, ◌⊎◌, inl, inr, Bool, true, false, eqb, bit_and, bit_or, refl, sym, ◌∙◌, ap, subst, arith, lit<}
use Rattle.std.specs.Prelude.{◌↔◌}
use Rattle.std.specs.Int.{bit_at}
use Rattle.std.proofs.lemmas.Bool.{cases_lt, cases_eq, eqb-true, eq-eqb, true≢false}
use Rattle.std.proofs.lemmas.Nat.{and_le_r, pow_pos}
use Rattle.std.proofs.Math.Nat.{zero-mul, one-mul, div-eq_of_lt}
use Rattle.std.proofs.Math.Pow.{pow_mono}
use Rattle.std.proofs.lemmas.Nat.Bits.{bit_at_and, bit_at_or, bit_at-pow_same, bit_at-pow_other, and_pow, same_from_bits_below, bit_at-zero, bit_at_above, bit_at_ones}
use Rattle.cube_shape.specs.declared.node.Side.{Side}
use Rattle.cube_shape.specs.declared.node.Side.TheVariants.{Left, Right}
use Rattle.status_word.specs.Word.{side_bit, mark_bit, IsSet, SameElsewhere, IsOccupied, HasSide, IsMarked, use_of, IsInUse, with_side, with_mark, cleared}

-- a number below 2 that is not 1 is 0
zero_or_one : (bit : ℕ) → bit < 2 → (bit ≡ 1 → ⊥) → bit ≡ 0
zero_or_one bit below not_one = elim (cases_lt bit 1) [ inl zero_bit ↦ omega arith | inr one_bit ↦ absurd (not_one (omega arith)) ]

-- a bit is 0 or 1
pub bit_below : (w bit : ℕ) → bit_at w bit < 2
bit_below w bit = omega arith

-- ---- a bit of `and` and `or`

pub IsSet-and_left : (a b bit : ℕ) → IsSet (bit_and a b) bit → IsSet a bit
IsSet-and_left a b bit set = omega (arith, bit_at_and a b bit, bit_below a bit, bit_below b bit)

pub IsSet-and_right : (a b bit : ℕ) → IsSet (bit_and a b) bit → IsSet b bit
IsSet-and_right a b bit set = omega (arith, bit_at_and a b bit, bit_below a bit, bit_below b bit)

pub IsSet-and : (a b bit : ℕ) → IsSet a bit → IsSet b bit → IsSet (bit_and a b) bit
IsSet-and a b bit in_a in_b = omega (arith, bit_at_and a b bit)

pub IsSet-or_left : (a b bit : ℕ) → IsSet a bit → IsSet (bit_or a b) bit
IsSet-or_left a b bit set = omega (arith, bit_at_or a b bit, bit_below b bit)

pub IsSet-or_right : (a b bit : ℕ) → IsSet b bit → IsSet (bit_or a b) bit
IsSet-or_right a b bit set = omega (arith, bit_at_or a b bit, bit_below a bit)

pub IsSet-or_cases : (a b bit : ℕ) → IsSet (bit_or a b) bit → IsSet a bit ⊎ IsSet b bit
IsSet-or_cases a b bit set = elim (cases_eq (bit_at a bit) 1) [
  | inl yes_a ↦ inl yes_a
  | inr no_a ↦ inr (omega (arith, bit_at_or a b bit, bit_below a bit, bit_below b bit))
]

-- the test of a bit by its mask
pub IsSet-test : (w bit : ℕ) → (eqb (bit_and w (2 ^ bit)) (2 ^ bit) ≡ true) ↔ IsSet w bit
IsSet-test w bit = (into, back)
  where
    mask : bit_and w (2 ^ bit) ≡ bit_at w bit * 2 ^ bit
    mask = and_pow w bit

    into : eqb (bit_and w (2 ^ bit)) (2 ^ bit) ≡ true → IsSet w bit
    into is =
        let same : bit_and w (2 ^ bit) ≡ 2 ^ bit = eqb-true (bit_and w (2 ^ bit)) (2 ^ bit) is in
        let positive : 0 < 2 ^ bit = pow_pos bit in
        elim (cases_eq (bit_at w bit) 1) [
          | inl set ↦ set
          | inr other ↦
              let zero_bit : bit_at w bit ≡ 0 = omega (arith, bit_below w bit) in
              let none : bit_at w bit * 2 ^ bit ≡ 0 = ap (λ b. b * 2 ^ bit) zero_bit ∙ zero-mul (2 ^ bit) in
              absurd (omega (arith, same, mask, none, positive))
        ]

    back : IsSet w bit → eqb (bit_and w (2 ^ bit)) (2 ^ bit) ≡ true
    back set = eq-eqb (bit_and w (2 ^ bit)) (2 ^ bit) (mask ∙ ap (λ b. b * 2 ^ bit) set ∙ one-mul (2 ^ bit))

-- a number below 2 ^ digits has no bit from there on
pub bit_beyond : (w digits bit : ℕ) → w < 2 ^ digits → digits ≤ bit → bit_at w bit ≡ 0
bit_beyond w digits bit short far =
    let big : 2 ^ digits ≤ 2 ^ bit = pow_mono far in
    let below : w < 2 ^ bit = omega arith in
    ap (λ x. x % 2) (div-eq_of_lt below)

-- ---- the three bits of use

-- a number below 8 has no bit from 3 on
low_has_no_mark : (m bit : ℕ) → m < 8 → 3 ≤ bit → IsSet m bit → ⊥
low_has_no_mark m bit small far set =
    let none : bit_at m bit ≡ 0 = bit_beyond m 3 bit small far in
    omega arith

-- the bits of use are those of the word, and no other
pub IsSet-use_of : (w bit : ℕ) → bit < 3 → IsSet (use_of w) bit ↔ IsSet w bit
IsSet-use_of w bit low =
    (λ set. IsSet-and_left w 7 bit set, λ set. IsSet-and w 7 bit set (bit_at_ones 3 bit low))

pub use_of-bits : (w bit : ℕ) → IsSet (use_of w) bit ↔ (IsSet w bit × (bit < 3))
use_of-bits w bit = (into, λ both. (IsSet-use_of w bit both.1).1 both.0)
  where
    into : IsSet (use_of w) bit → IsSet w bit × (bit < 3)
    into set = elim (cases_lt bit 3) [
      | inl low ↦ ((IsSet-use_of w bit low).0 set, low)
      | inr far ↦ absurd (low_has_no_mark 7 bit (lit< tt) far (IsSet-and_right w 7 bit set))
    ]

pub use_of-unmarked : (w station : ℕ) → IsMarked station (use_of w) → ⊥
use_of-unmarked w station marked =
    low_has_no_mark 7 (mark_bit station) (lit< tt) (omega arith) (IsSet-and_right w 7 (mark_bit station) marked)

-- a word with one of these bits is in use
used : (w bit : ℕ) → bit < 3 → IsSet w bit → IsInUse w
used w bit low set free =
    let kept : IsSet (use_of w) bit = (IsSet-use_of w bit low).1 set in
    let gone : bit_at (use_of w) bit ≡ 0 = ap (λ x. bit_at x bit) free ∙ bit_at-zero bit in
    omega arith

pub IsOccupied-in_use : (w : ℕ) → IsOccupied w → IsInUse w
IsOccupied-in_use w occupied = used w 0 (lit< tt) occupied

pub HasSide-in_use : (side : Side) (w : ℕ) → HasSide side w → IsInUse w
HasSide-in_use Left w has = used w 1 (lit< tt) has
HasSide-in_use Right w has = used w 2 (lit< tt) has

-- and a word in use has one of them
pub IsInUse-cases : (w : ℕ) → IsInUse w → IsOccupied w ⊎ (HasSide Left w ⊎ HasSide Right w)
IsInUse-cases w in_use = elim (cases_eq (bit_at w 0) 1) [
  | inl occupied ↦ inl occupied
  | inr not_occupied ↦ elim (cases_eq (bit_at w 1) 1) [
    | inl left ↦ inr (inl left)
    | inr not_left ↦ elim (cases_eq (bit_at w 2) 1) [
      | inl right ↦ inr (inr right)
      | inr not_right ↦ absurd (in_use (none not_occupied not_left not_right))
    ]
  ]
]
  where
    unset : (bit : ℕ) → (IsSet w bit → ⊥) → bit_at (use_of w) bit ≡ bit_at 0 bit
    unset bit not_set =
        let clear : bit_at w bit ≡ 0 = zero_or_one (bit_at w bit) (bit_below w bit) not_set in
        omega (arith, bit_at_and w 7 bit, bit_at-zero bit)

    bits : (IsSet w 0 → ⊥)
        → (IsSet w 1 → ⊥)
        → (IsSet w 2 → ⊥)
        → (bit : ℕ)
        → bit < 3
        → bit_at (use_of w) bit ≡ bit_at 0 bit
    bits no_occ no_left no_right zero low = unset 0 no_occ
    bits no_occ no_left no_right (suc zero) low = unset 1 no_left
    bits no_occ no_left no_right (suc (suc zero)) low = unset 2 no_right
    bits no_occ no_left no_right (suc (suc (suc bit))) low = absurd (omega arith)

    none : (IsSet w 0 → ⊥) → (IsSet w 1 → ⊥) → (IsSet w 2 → ⊥) → use_of w ≡ 0
    none no_occ no_left no_right =
        same_from_bits_below 3 (use_of w) 0 (omega (arith, and_le_r w 7)) (lit< tt) (bits no_occ no_left no_right)

-- or with another bit changes no bit but that one
or_power-same : (w power : ℕ) → SameElsewhere power w (bit_or w (2 ^ power))
or_power-same w power i other =
    let none : bit_at (2 ^ power) i ≡ 0 = bit_at-pow_other power i other in
    omega (arith, bit_at_or w (2 ^ power) i)

-- ---- a side more

-- or with another bit sets no bit but that one
not_in_power : (w power bit : ℕ) → bit ≢ power → IsSet (bit_or w (2 ^ power)) bit → IsSet w bit
not_in_power w power bit other set = elim (IsSet-or_cases w (2 ^ power) bit set) [
  | inl in_w ↦ in_w
  | inr in_power ↦ let none : bit_at (2 ^ power) bit ≡ 0 = bit_at-pow_other power bit other in absurd (omega arith)
]

pub with_side-has : (side : Side) (w : ℕ) → HasSide side (with_side side w)
with_side-has side w = IsSet-or_right w (2 ^ side_bit side) (side_bit side) (bit_at-pow_same (side_bit side))

pub with_side-keeps : (side : Side) (w bit : ℕ) → IsSet w bit → IsSet (with_side side w) bit
with_side-keeps side w bit set = IsSet-or_left w (2 ^ side_bit side) bit set

pub with_side-same : (side : Side) (w : ℕ) → SameElsewhere (side_bit side) w (with_side side w)
with_side-same side w = or_power-same w (side_bit side)

pub with_side-others : (side : Side) (w bit : ℕ)
    → bit ≢ side_bit side
    → IsSet (with_side side w) bit
    → IsSet w bit
with_side-others side w bit other set = not_in_power w (side_bit side) bit other set

-- ---- a mark more

pub with_mark-has : (station w : ℕ) → IsMarked station (with_mark station w)
with_mark-has station w = IsSet-or_right w (2 ^ mark_bit station) (mark_bit station) (bit_at-pow_same (mark_bit station))

pub with_mark-keeps : (station w bit : ℕ) → IsSet w bit → IsSet (with_mark station w) bit
with_mark-keeps station w bit set = IsSet-or_left w (2 ^ mark_bit station) bit set

pub with_mark-same : (station w : ℕ) → SameElsewhere (mark_bit station) w (with_mark station w)
with_mark-same station w = or_power-same w (mark_bit station)

pub with_mark-others : (station w bit : ℕ)
    → bit ≢ mark_bit station
    → IsSet (with_mark station w) bit
    → IsSet w bit
with_mark-others station w bit other set = not_in_power w (mark_bit station) bit other set

-- ---- a word without its marks and without the sides whose child was seen free

-- a bit that a mask has stays, and one that it lacks goes
kept_bit : (w mask bit : ℕ) → IsSet mask bit → IsSet (bit_and w mask) bit ↔ IsSet w bit
kept_bit w mask bit has = (λ set. IsSet-and_left w mask bit set, λ set. IsSet-and w mask bit set has)

stays : (w mask bit : ℕ)
    → IsSet mask bit
    → IsSet (bit_and w mask) bit ↔ (IsSet w bit × (◌≡◌ {A = Bool} false false))
stays w mask bit has = (λ set. (IsSet-and_left w mask bit set, refl), λ both. IsSet-and w mask bit both.0 has)

goes : (w mask bit : ℕ)
    → bit_at mask bit ≡ 0
    → IsSet (bit_and w mask) bit ↔ (IsSet w bit × (◌≡◌ {A = Bool} true false))
goes w mask bit lacks =
    (λ set. let has : bit_at mask bit ≡ 1 = IsSet-and_right w mask bit set in absurd (omega (arith, lacks, has)), λ both. absurd (true≢false both.1))

-- OCC stays
pub cleared-occupied : (w : ℕ) (left_free right_free : Bool)
    → IsOccupied (cleared w left_free right_free) ↔ IsOccupied w
cleared-occupied w false false = kept_bit w 7 0 refl
cleared-occupied w true false = kept_bit w 5 0 refl
cleared-occupied w false true = kept_bit w 3 0 refl
cleared-occupied w true true = kept_bit w 1 0 refl

-- a side stays exactly if it was there and its child was not seen free
pub cleared-left : (w : ℕ) (left_free right_free : Bool)
    → HasSide Left (cleared w left_free right_free) ↔ (HasSide Left w × (left_free ≡ false))
cleared-left w false false = stays w 7 1 refl
cleared-left w false true = stays w 3 1 refl
cleared-left w true false = goes w 5 1 refl
cleared-left w true true = goes w 1 1 refl

pub cleared-right : (w : ℕ) (left_free right_free : Bool)
    → HasSide Right (cleared w left_free right_free) ↔ (HasSide Right w × (right_free ≡ false))
cleared-right w false false = stays w 7 2 refl
cleared-right w true false = stays w 5 2 refl
cleared-right w false true = goes w 3 2 refl
cleared-right w true true = goes w 1 2 refl

-- no mark stays
pub cleared-unmarked : (w : ℕ) (left_free right_free : Bool) (station : ℕ)
    → IsMarked station (cleared w left_free right_free)
    → ⊥
cleared-unmarked w false false station marked = low_has_no_mark 7 (mark_bit station) (lit< tt) (omega arith) (IsSet-and_right w 7 (mark_bit station) marked)
cleared-unmarked w true false station marked = low_has_no_mark 5 (mark_bit station) (lit< tt) (omega arith) (IsSet-and_right w 5 (mark_bit station) marked)
cleared-unmarked w false true station marked = low_has_no_mark 3 (mark_bit station) (lit< tt) (omega arith) (IsSet-and_right w 3 (mark_bit station) marked)
cleared-unmarked w true true station marked = low_has_no_mark 1 (mark_bit station) (lit< tt) (omega arith) (IsSet-and_right w 1 (mark_bit station) marked)

-- ---- words with one bit

pub IsSet-power : (k bit : ℕ) → IsSet (2 ^ k) bit ↔ (bit ≡ k)
IsSet-power k bit = (into, λ is. subst (IsSet (2 ^ k)) (sym is) (bit_at-pow_same k))
  where
    into : IsSet (2 ^ k) bit → bit ≡ k
    into set = elim (cases_eq bit k) [
      | inl same ↦ same
      | inr other ↦ let none : bit_at (2 ^ k) bit ≡ 0 = bit_at-pow_other k bit other in absurd (omega (arith, none, set))
    ]

-- a word of bits of use alone has no mark
pub unmarked_below : (w station : ℕ) → w < 8 → IsMarked station w → ⊥
unmarked_below w station small marked =
    let none : bit_at w (8 + station) ≡ 0 = bit_at_above w 3 (8 + station) small (omega arith) in
    omega (arith, none, marked)
