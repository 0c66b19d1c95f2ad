-- Pairs of ranks that lie h apart: the lower rank x has x / h % 2 ≡ 0.
use Rattle.std.proofs.Common.{◌≡◌, ◌≢◌, ℕ, ◌+◌, ◌-◌, ◌*◌, ◌/◌, ◌%◌, ◌<◌, ◌≤◌, ◌⊎◌, inl, inr, List, length, set, refl, sym, ◌∙◌, ap, subst, arith, get_or-set_same, get_or-set_other}
use Rattle.std.proofs.lemmas.Nat.{div-add-mod', mod_below, mul-le, div-mul-add, mod-mul-add}
use Rattle.std.proofs.lemmas.Bool.{cases_lt}
use Rattle.std.proofs.Math.ListN.{length-set}
use Rattle.collectives.specs.Inner.Rounds.{item_at, TurnsPair, TurnsPairs, TurnsPairsIn}

pub div_next : (x h : ℕ) → 0 < h → (x + h) / h ≡ x / h + 1
div_next x h positive =
    let split = div-add-mod' x h in
    let rest : x % h < h = mod_below x h positive in
    let next : x + h ≡ (x / h + 1) * h + x % h = omega (arith, split) in
    ap (λ n. n / h) next ∙ div-mul-add (x / h + 1) h (x % h) rest

-- the higher rank of a pair is within whole blocks if the lower is
pub pair_fits : (n h x : ℕ) → 0 < h → n % (2 * h) ≡ 0 → x < n → x / h % 2 ≡ 0 → x + h < n
pair_fits n h x positive whole within low =
    let split = div-add-mod' x h in
    let rest : x % h < h = mod_below x h positive in
    let blocks = div-add-mod' n (2 * h) in
    let even : x / h ≡ 2 * (x / h / 2) = omega arith in
    let twice : x / h * h ≡ x / h / 2 * (2 * h) = ap (λ q. q * h) even ∙ grind arith in
    elim (cases_lt (x / h / 2) (n / (2 * h))) [
      | inl below ↦
          let up = mul-le (x / h / 2 + 1) (2 * h) (n / (2 * h)) (2 * h) (omega arith) (omega arith) in
          omega (arith, split, blocks, twice, up)
      | inr above ↦
          let down = mul-le (n / (2 * h)) (2 * h) (x / h / 2) (2 * h) above (omega arith) in
          absurd (omega (arith, split, blocks, twice, down))
    ]

-- no rank is the lower of one pair and the higher of another
pub pair_apart : (x y h : ℕ) → 0 < h → x / h % 2 ≡ 0 → y / h % 2 ≡ 0 → x ≢ y + h
pair_apart x y h positive x_low y_low same =
    let next = div_next y h positive in
    let moved : x / h ≡ (y + h) / h = ap (λ n. n / h) same in
    omega (arith, next, moved)

-- ---- the ranks of a block

-- a rank of the first half of a block is the lower of a pair
pub low_of_block : (block offset h : ℕ) → offset < h → (block * (2 * h) + offset) / h % 2 ≡ 0
low_of_block block offset h within =
    let place : block * (2 * h) + offset ≡ 2 * block * h + offset = grind arith in
    let quotient : (block * (2 * h) + offset) / h ≡ 2 * block = ap (λ n. n / h) place ∙ div-mul-add (2 * block) h offset within in
    omega (arith, quotient)

-- where a block begins
pub start_of : (start h : ℕ) → start % (2 * h) ≡ 0 → start ≡ start / (2 * h) * (2 * h)
start_of start h first = omega (arith, div-add-mod' start (2 * h))

pub low_in_block : (start h x : ℕ) → start % (2 * h) ≡ 0 → start ≤ x → x < start + h → x / h % 2 ≡ 0
low_in_block start h x first from below =
    let begins = start_of start h first in
    let place : x ≡ start / (2 * h) * (2 * h) + (x - start) = omega arith in
    ap (λ n. n / h % 2) place ∙ low_of_block (start / (2 * h)) (x - start) h (omega arith)

-- the place in the first half of a block
pub offset_in_block : (start h x : ℕ)
    → start % (2 * h) ≡ 0
    → start ≤ x
    → x < start + h
    → x % h ≡ x - start
offset_in_block start h x first from below =
    let begins = start_of start h first in
    let twice : start / (2 * h) * (2 * h) ≡ 2 * (start / (2 * h)) * h = grind arith in
    let place : x ≡ 2 * (start / (2 * h)) * h + (x - start) = omega (arith, begins, twice) in
    ap (λ n. n % h) place ∙ mod-mul-add (2 * (start / (2 * h))) h (x - start) (omega arith)

-- its second half has no lower rank
pub high_in_block : (start h x : ℕ)
    → 0 < h
    → start % (2 * h) ≡ 0
    → start + h ≤ x
    → x < start + 2 * h
    → x / h % 2 ≢ 0
high_in_block start h x positive first from below low =
    pair_apart x (x - h) h positive low (low_in_block start h (x - h) first (omega arith) (omega arith)) (omega arith)

-- ---- pairs that turn, a range of lower ranks after the other

pub Turned-start : {M : Type 0} (unit : M) (half from : ℕ) (left right : ℕ → M → M → M)
    (old : List M)
    → TurnsPairsIn unit half from from left right old old
Turned-start unit half from left right old = record {
  turned = λ low low_is within above below. absurd (omega arith);
  others = λ low low_is within outside. (refl, refl);
}

pub Turned-end : {M : Type 0} (unit : M) (half bound : ℕ) (left right : ℕ → M → M → M)
    (old new : List M)
    → TurnsPairsIn unit half 0 bound left right old new
    → length old ≤ bound
    → TurnsPairs unit half left right old new
Turned-end unit half bound left right old new so_far all low low_is within = so_far.turned low low_is within (omega arith) (omega arith)

-- one equation after the other, of two at a time
then_both : {M : Type 0} {a b c x y z : M}
    → (a ≡ b) × (x ≡ y)
    → (b ≡ c) × (y ≡ z)
    → (a ≡ c) × (x ≡ z)
then_both first second = (first.0 ∙ second.0, first.1 ∙ second.1)

sym_both : {M : Type 0} {a b x y : M} → (a ≡ b) × (x ≡ y) → (b ≡ a) × (y ≡ x)
sym_both both = (sym both.0, sym both.1)

-- outside of a range, so outside of one within it
outside_within : (low from bound a b : ℕ)
    → from ≤ a
    → b ≤ bound
    → (low < from) ⊎ (bound ≤ low)
    → (low < a) ⊎ (b ≤ low)
outside_within low from bound a b from_a b_bound outside = elim outside [
  | inl before ↦ inl (omega arith)
  | inr after ↦ inr (omega arith)
]

-- first the pairs of one range turn, then those of the next
pub Turned-join : {M : Type 0} (unit : M) (half a b d : ℕ) (left right : ℕ → M → M → M)
    (old new next : List M)
    → a ≤ b
    → b ≤ d
    → length new ≡ length old
    → TurnsPairsIn unit half a b left right old new
    → TurnsPairsIn unit half b d left right new next
    → TurnsPairsIn unit half a d left right old next
Turned-join unit half a b d left right old new next a_b b_d same_length first second = record {
  turned = λ low low_is within above below. elim (cases_lt low b) [
    | inl early ↦
        let done = first.turned low low_is within above early in
        let stays = second.others low low_is (omega arith) (inl early) in
        (stays.0 ∙ done.0, stays.1 ∙ done.1)
    | inr late ↦
        let was = first.others low low_is within (inr late) in
        let done = second.turned low low_is (omega arith) late below in (
          done.0 ∙ ap (λ x. left low x (item_at unit new (low + half))) was.0 ∙ ap (left low (item_at unit old low)) was.1,
          done.1 ∙ ap (λ x. right low x (item_at unit new (low + half))) was.0 ∙ ap (right low (item_at unit old low)) was.1,
        )
  ];
  others = λ low low_is within outside. then_both
      (second.others low low_is (omega arith) (outside_within low a d b d a_b (omega arith) outside))
      (first.others low low_is within (outside_within low a d a b (omega arith) b_d outside));
}

-- the pair of x turns
pub Turned-pair : {M : Type 0} (unit : M) (half x : ℕ) (left right : ℕ → M → M → M)
    (old next : List M)
    → 0 < half
    → x / half % 2 ≡ 0
    → x + half < length old
    → (a b : M)
    → a ≡ left x (item_at unit old x) (item_at unit old (x + half))
    → b ≡ right x (item_at unit old x) (item_at unit old (x + half))
    → next ≡ set (set old x a) (x + half) b
    → TurnsPairsIn unit half x (x + 1) left right old next
Turned-pair {M = M} unit half x left right old next positive x_low x_within a b a_is b_is next_is = subst (TurnsPairsIn unit half x (x + 1) left right old) (sym next_is) (record {
  turned = λ low low_is within above below. subst (λ y. TurnsPair unit left right old (set (set old x a) (x + half) b) y (y + half)) (is_x low above below) at_x;
  others = λ low low_is within outside. (
    untouched low (not_x low outside) (pair_apart low x half positive low_is x_low),
    untouched (low + half) (λ is. pair_apart x low half positive x_low low_is (sym is)) (λ is. not_x low outside (omega arith)),
  );
})
  where
    is_x : (low : ℕ) → x ≤ low → low < x + 1 → x ≡ low
    is_x low above below = omega arith

    not_x : (low : ℕ) → (low < x) ⊎ (x + 1 ≤ low) → low ≢ x
    not_x low outside is = elim outside [
      | inl before ↦ absurd (omega arith)
      | inr after ↦ absurd (omega arith)
    ]

    untouched : (y : ℕ)
        → (y ≢ x)
        → (y ≢ x + half)
        → item_at unit (set (set old x a) (x + half) b) y ≡ item_at unit old y
    untouched y apart_low apart_high = get_or-set_other (set old x a) (x + half) y b unit apart_high ∙ get_or-set_other old x y a unit apart_low

    at_x : TurnsPair unit left right old (set (set old x a) (x + half) b) x (x + half)
    at_x = (
      get_or-set_other (set old x a) (x + half) x b unit (λ is. omega arith) ∙ get_or-set_same old x a unit (omega arith) ∙ a_is,
      get_or-set_same (set old x a) (x + half) b unit (omega (arith, length-set old x a)) ∙ b_is,
    )

-- what the higher rank's item is may be said in another way
pub Turned-alike : {M : Type 0} (unit : M) (half from bound : ℕ) (left right other : ℕ → M → M → M)
    (old new : List M)
    → ((low : ℕ) → from ≤ low → low < bound → low / half % 2 ≡ 0 → low + half < length old
    → (a b : M) → right low a b ≡ other low a b)
    → TurnsPairsIn unit half from bound left right old new
    → TurnsPairsIn unit half from bound left other old new
Turned-alike unit half from bound left right other old new alike so_far = record {
  turned = λ low low_is within above below. (
    (so_far.turned low low_is within above below).0,
    (so_far.turned low low_is within above below).1 ∙ alike low above below low_is within (item_at unit old low) (item_at unit old (low + half)),
  );
  others = so_far.others;
}

-- pairs whose items stay, because what is said of them changes nothing
pub Turned-keep : {M : Type 0} (unit : M) (half from bound : ℕ) (left right : ℕ → M → M → M)
    (old : List M)
    → ((x : ℕ) → from ≤ x → x < bound → x / half % 2 ≡ 0 → (a b : M) → (left x a b ≡ a)
    × (right x a b ≡ b))
    → TurnsPairsIn unit half from bound left right old old
Turned-keep unit half from bound left right old kept = record {
  turned = λ low low_is within above below. sym_both (kept low above below low_is (item_at unit old low) (item_at unit old (low + half)));
  others = λ low low_is within outside. (refl, refl);
}

-- once those of the first half of a block have turned, all of the block have
pub Turned-block : {M : Type 0} (unit : M) (half start : ℕ) (left right : ℕ → M → M → M)
    (old new : List M)
    → 0 < half
    → start % (2 * half) ≡ 0
    → TurnsPairsIn unit half start (start + half) left right old new
    → TurnsPairsIn unit half start (start + 2 * half) left right old new
Turned-block unit half start left right old new positive first so_far = record {
  turned = λ low low_is within above below. elim (cases_lt low (start + half)) [
    | inl lower ↦ so_far.turned low low_is within above lower
    | inr higher ↦ absurd (high_in_block start half low positive first higher below low_is)
  ];
  others = λ low low_is within outside. so_far.others low low_is within (elim outside [ inl before ↦ inl before | inr after ↦ inr (omega arith) ]);
}

-- n ranks that divide into blocks of `size` are the ranks of these blocks
pub blocks_cover : (n size blocks : ℕ) → n % size ≡ 0 → blocks ≡ n / size → n ≡ blocks * size
blocks_cover n size blocks whole counted = omega (arith, div-add-mod' n size, ap (λ q. q * size) counted)

pub block_fits : (n size block : ℕ) → block < n / size → block * size + size ≤ n
block_fits n size block below =
    let up = mul-le (block + 1) size (n / size) size (omega arith) (omega arith) in
    let next : (block + 1) * size ≡ block * size + size = grind arith in
    omega (arith, div-add-mod' n size, up, next)

-- a block of `size` ranks that begins within n ranks, which divide into such blocks, ends within
-- them
pub block_within : (n size start : ℕ)
    → n % size ≡ 0
    → start % size ≡ 0
    → start < n
    → start + size ≤ n
block_within n size start whole first within = elim (cases_lt (start / size) (n / size)) [
  | inl below ↦ omega (arith, div-add-mod' start size, block_fits n size (start / size) below)
  | inr above ↦
      let down = mul-le (n / size) size (start / size) size above (omega arith) in
      absurd (omega (arith, div-add-mod' start size, div-add-mod' n size, down))
]
