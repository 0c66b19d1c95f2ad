-- What the blocks of ranks hold from round to round. A block of 2 * h ranks is a block of h ranks,
-- its lower half, and the next block of h ranks.
use Rattle.std.proofs.Common.{◌≡◌, ℕ, ◌+◌, ◌-◌, ◌*◌, ◌/◌, ◌%◌, ◌^◌, ◌<◌, ◌≤◌, ◌≢◌, inl, inr, List, length, sym, ◌∙◌, ap, subst, arith}
use Rattle.std.specs.Prelude.{All, Some, ◌==◌, if◌then◌else◌}
use Rattle.std.proofs.lemmas.Nat.{div-add-mod', mod-mul-add, mod_below, mul-le, pow-add, pow_pos}
use Rattle.std.proofs.Math.Nat.{mod-eq_of_lt}
use Rattle.std.proofs.lemmas.List.{take_all}
use Rattle.std.proofs.lemmas.List.Elements.{All-get_or}
use Rattle.std.proofs.lemmas.Option.{slice_get-get_or}
use Rattle.std.proofs.lemmas.Bool.{cases_lt, cases_eq, eq-eqb, ne_eqb}
use Rattle.collectives.specs.Laws.{MonoidLaws}
use Rattle.collectives.specs.Places.{total, prefix_total, Holds}
use Rattle.collectives.specs.Inner.Rounds.{item_at, TurnsPairs, reduced_low, reduced_high}
use Rattle.collectives.proofs.PairLemmas.{low_of_block, pair_fits}
use Rattle.collectives.proofs.FoldLemmas.{range_total, range_total-add, range_total-one, range_total-value}

-- each rank of each block of `size` ranks holds `held first offset`. Here first is the block's
-- first rank, and offset is the rank's distance from it
abbrev pub EachInBlock : {M : Type 0} → M → ℕ → (ℕ → ℕ → M) → List M → Type 0
EachInBlock unit size held items = (block offset : ℕ) → offset < size → block * size + offset < length items
    → item_at unit items (block * size + offset) ≡ held (block * size) offset

-- ---- the ranks of a block

-- an item of a block, for any terms that are equal to its rank and its block's first rank
pub block_item : {M : Type 0} (unit : M) (size : ℕ) (held : ℕ → ℕ → M) (items : List M)
    → EachInBlock unit size held items
    → (block offset rank first : ℕ)
    → offset < size
    → rank < length items
    → rank ≡ block * size + offset
    → first ≡ block * size
    → item_at unit items rank ≡ held first offset
block_item unit size held items each block offset rank first within below rank_is first_is =
    ap (item_at unit items) rank_is ∙ each block offset within (omega arith) ∙ ap (λ b. held b offset) (sym first_is)

-- what holds for both halves of each pair of blocks, one after the other, holds for blocks twice as
-- large
pub double_blocks : {M : Type 0} (unit : M) (h : ℕ) (held : ℕ → ℕ → M) (items : List M)
    → 0 < h
    → length items % (2 * h) ≡ 0
    → ((block offset : ℕ) → offset < h → block * (2 * h) + offset + h < length items
    → (item_at unit items (block * (2 * h) + offset) ≡ held (block * (2 * h)) offset)
    × (item_at unit items (block * (2 * h) + offset + h) ≡ held (block * (2 * h)) (h + offset)))
    → EachInBlock unit (2 * h) held items
double_blocks unit h held items positive whole halves block offset within below = elim (cases_lt offset h) [
  | inl low ↦ (halves block offset low (pair_fits (length items) h (block * (2 * h) + offset) positive whole below (low_of_block block offset h low))).0
  | inr high ↦ (
      let place : block * (2 * h) + offset ≡ block * (2 * h) + (offset - h) + h = omega arith in
      let back : h + (offset - h) ≡ offset = omega arith in
      ap (item_at unit items) place
      ∙ (halves block (offset - h) (omega arith) (omega arith)).1
      ∙ ap (held (block * (2 * h))) back)
]

-- ---- rounds

-- round i of the k rounds over n places, with pairs that lie half apart
pub record IsRound (n k i half : ℕ) : Type 0 where
  pub places : n ≡ 2 ^ k
  pub within : i < k
  pub half_is : half ≡ 2 ^ i

pub IsRound-positive : (n k i half : ℕ) → IsRound n k i half → 0 < half
IsRound-positive n k i half round = omega (arith, pow_pos i, round.half_is)

-- the blocks of a round divide the places
pub IsRound-whole : (n k i half : ℕ) → IsRound n k i half → n % (2 * half) ≡ 0
IsRound-whole n k i half round =
    let positive : 0 < 2 * half = omega (arith, IsRound-positive n k i half round) in
    let exponent : k ≡ i + (k - i - 1 + 1) = omega (arith, round.within) in
    let split : 2 ^ k ≡ 2 ^ i * 2 ^ (k - i - 1 + 1) = ap (λ e. 2 ^ e) exponent ∙ pow-add 2 i (k - i - 1 + 1) in
    let twice : 2 ^ (k - i - 1 + 1) ≡ 2 ^ (k - i - 1) * 2 = pow-add 2 (k - i - 1) 1 in
    let product : n ≡ 2 ^ (k - i - 1) * (2 * half) + 0 =
    round.places ∙ split ∙ ap (λ w. 2 ^ i * w) twice ∙ ap (λ h. h * (2 ^ (k - i - 1) * 2)) (sym round.half_is) ∙ grind arith in
    ap (λ x. x % (2 * half)) product ∙ mod-mul-add (2 ^ (k - i - 1)) (2 * half) 0 positive

-- there is at least one
pub IsRound-block : (n k i half : ℕ) → IsRound n k i half → 2 * half ≤ n
IsRound-block n k i half round =
    elim (cases_lt n (2 * half)) [
      | inl less ↦ absurd (omega (arith, mod-eq_of_lt less, IsRound-whole n k i half round, pow_pos k, round.places))
      | inr enough ↦ enough
    ]

-- the next round's pairs lie twice as far apart
pub IsRound-next : (n k i half : ℕ) → IsRound n k i half → 2 * half ≡ 2 ^ (i + 1)
IsRound-next n k i half round = omega (arith, pow-add 2 i 1, round.half_is)

-- ---- the totals of blocks

-- every rank holds the total of its block
abbrev pub HoldsTotals : {M : Type 0} → M → (M → M → M) → ℕ → List M → List M → Type 0
HoldsTotals unit join size old items = EachInBlock unit size (λ first offset. range_total join unit old first size) items

module _ {M : Type 0} {IsValue : M → Type 0} {unit : M} {join : M → M → M}
    (laws : MonoidLaws IsValue unit join) where
  pub HoldsTotals-start : (items : List M) → All IsValue items → HoldsTotals unit join 1 items items
  HoldsTotals-start items values block offset within below =
      let place : block * 1 + offset ≡ block * 1 = omega arith in
      ap (item_at unit items) place ∙ sym (range_total-one laws items (block * 1) values (omega arith))

  -- the totals of two blocks, joined
  pub joined_totals : (h : ℕ) (old items : List M)
      → All IsValue old
      → HoldsTotals unit join h old items
      → (block offset : ℕ)
      → offset < h
      → block * (2 * h) + offset + h < length items
      → join (item_at unit items (block * (2 * h) + offset))
      (item_at unit items (block * (2 * h) + offset + h))
      ≡ range_total join unit old (block * (2 * h)) (2 * h)
  joined_totals h old items values totals block offset within below =
      let lower = block_item unit h (λ first place. range_total join unit old first h) items totals (2 * block) offset (block * (2 * h) + offset) (block * (2 * h)) within (omega arith) (grind arith) (grind arith) in
      let higher = block_item unit h (λ first place. range_total join unit old first h) items totals (2 * block + 1) offset (block * (2 * h) + offset + h) (block * (2 * h) + h) within below (grind arith) (grind arith) in
      let twice : h + h ≡ 2 * h = omega arith in
      ap (λ x. join x (item_at unit items (block * (2 * h) + offset + h))) lower
      ∙ ap (join (range_total join unit old (block * (2 * h)) h)) higher
      ∙ sym (range_total-add laws old (block * (2 * h)) h h values)
      ∙ ap (range_total join unit old (block * (2 * h))) twice

  HoldsTotals-double : (h : ℕ) (old items next : List M)
      → 0 < h
      → length items ≡ length next
      → length items % (2 * h) ≡ 0
      → All IsValue old
      → HoldsTotals unit join h old items
      → TurnsPairs unit h (λ low. join) (λ low. join) items next
      → HoldsTotals unit join (2 * h) old next
  HoldsTotals-double h old items next positive same_length whole values totals turned =
      double_blocks unit h (λ first offset. range_total join unit old first (2 * h)) next positive (ap (λ n. n % (2 * h)) (sym same_length) ∙ whole)
      (λ block offset within below.
      (let pair = turned (block * (2 * h) + offset) (low_of_block block offset h within) (omega arith) in
      let joined = joined_totals h old items values totals block offset within (omega arith) in
      (pair.0 ∙ joined, pair.1 ∙ joined)))

  -- a round of the all-reduce
  pub HoldsTotals-round : (k i half : ℕ) (old items next : List M)
      → IsRound (length items) k i half
      → length items ≡ length next
      → All IsValue old
      → HoldsTotals unit join (2 ^ i) old items
      → TurnsPairs unit half (λ low. join) (λ low. join) items next
      → HoldsTotals unit join (2 ^ (i + 1)) old next
  HoldsTotals-round k i half old items next round same_length values totals turned =
      let n = length items in
      let now : HoldsTotals unit join half old items = subst (λ size. HoldsTotals unit join size old items) (sym round.half_is) totals in
      let doubled = HoldsTotals-double half old items next (IsRound-positive n k i half round) same_length (IsRound-whole n k i half round) values now turned in
      subst (λ size. HoldsTotals unit join size old next) (IsRound-next n k i half round) doubled

-- ---- the prefixes within blocks

-- every rank holds the total of its block before its own item, and after it what its own place
-- began with
abbrev pub HoldsPrefixes : {M : Type 0} → M → (M → M → M) → ℕ → List M → List M → List M → Type 0
HoldsPrefixes unit join size old begun items =
    EachInBlock unit size (λ first offset. join (range_total join unit old first offset) (item_at unit begun (first + offset))) items

module _ {M : Type 0} {IsValue : M → Type 0} {unit : M} {join : M → M → M}
    (laws : MonoidLaws IsValue unit join) where
  pub HoldsPrefixes-start : (old begun : List M)
      → All IsValue begun
      → HoldsPrefixes unit join 1 old begun begun
  HoldsPrefixes-start old begun values block offset within below =
      let none : 0 ≡ offset = omega arith in
      let own = item_at unit begun (block * 1 + offset) in
      sym (laws.left_unit own (All-get_or IsValue begun (block * 1 + offset) unit below values))
      ∙ ap (λ count. join (range_total join unit old (block * 1) count) own) none

  -- two ranges that follow each other, before an item
  joined_before : (old : List M) (first h offset : ℕ) (own : M)
      → All IsValue old
      → IsValue own
      → join (range_total join unit old first h)
      (join (range_total join unit old (first + h) offset) own)
      ≡ join (range_total join unit old first (h + offset)) own
  joined_before old first h offset own values own_value =
      sym (laws.assoc (range_total join unit old first h) (range_total join unit old (first + h) offset) own
      (range_total-value laws old first h values) (range_total-value laws old (first + h) offset values) own_value)
      ∙ ap (λ total. join total own) (sym (range_total-add laws old first h offset values))

  HoldsPrefixes-double : (h : ℕ) (old begun items totals next : List M)
      → 0 < h
      → length items ≡ length begun
      → length items ≡ length next
      → length totals ≡ length items
      → length items % (2 * h) ≡ 0
      → All IsValue old
      → All IsValue begun
      → HoldsPrefixes unit join h old begun items
      → HoldsTotals unit join h old totals
      → TurnsPairs unit h (λ low a b. a) (λ low a b. join (item_at unit totals low) b) items next
      → HoldsPrefixes unit join (2 * h) old begun next
  HoldsPrefixes-double h old begun items totals next positive begun_length same_length total_length whole values begun_values prefixes sums turned =
      let held = λ (first offset : ℕ). join (range_total join unit old first offset) (item_at unit begun (first + offset)) in
      double_blocks unit h held next positive (ap (λ n. n % (2 * h)) (sym same_length) ∙ whole)
      (λ block offset within below.
      (let first = block * (2 * h) in
      let pair = turned (first + offset) (low_of_block block offset h within) (omega arith) in
      let lower = block_item unit h held items prefixes (2 * block) offset (first + offset) first within (omega arith) (grind arith) (grind arith) in
      let higher = block_item unit h held items prefixes (2 * block + 1) offset (first + offset + h) (first + h) within (omega arith) (grind arith) (grind arith) in
      let sum = block_item unit h (λ first place. range_total join unit old first h) totals sums (2 * block) offset (first + offset) first within (omega arith) (grind arith) (grind arith) in
      let own = item_at unit begun (first + h + offset) in
      let own_value = All-get_or IsValue begun (first + h + offset) unit (omega arith) begun_values in
      let place : first + h + offset ≡ first + (h + offset) = omega arith in (
        pair.0 ∙ lower,
        pair.1 ∙ ap (λ x. join x (item_at unit items (first + offset + h))) sum ∙ ap (join (range_total join unit old first h)) higher
            ∙ joined_before old first h offset own values own_value
            ∙ ap (λ rank. join (range_total join unit old first (h + offset)) (item_at unit begun rank)) place,
      )))

  -- a round of a scan
  pub HoldsPrefixes-round : (k i half : ℕ) (old begun items totals next : List M)
      → IsRound (length items) k i half
      → length items ≡ length begun
      → length items ≡ length next
      → length totals ≡ length items
      → All IsValue old
      → All IsValue begun
      → HoldsPrefixes unit join (2 ^ i) old begun items
      → HoldsTotals unit join (2 ^ i) old totals
      → TurnsPairs unit half (λ low a b. a) (λ low a b. join (item_at unit totals low) b) items next
      → HoldsPrefixes unit join (2 ^ (i + 1)) old begun next
  HoldsPrefixes-round k i half old begun items totals next round begun_length same_length total_length values begun_values prefixes sums turned =
      let n = length items in
      let now : HoldsPrefixes unit join half old begun items = subst (λ size. HoldsPrefixes unit join size old begun items) (sym round.half_is) prefixes in
      let sums_now : HoldsTotals unit join half old totals = subst (λ size. HoldsTotals unit join size old totals) (sym round.half_is) sums in
      let doubled = HoldsPrefixes-double half old begun items totals next (IsRound-positive n k i half round) begun_length same_length total_length (IsRound-whole n k i half round) values begun_values now sums_now turned in
      subst (λ size. HoldsPrefixes unit join size old begun next) (IsRound-next n k i half round) doubled

-- ---- towards the root

if_same : {M : Type 0} (a b : ℕ) (x y : M) → a ≡ b → (if a == b then x else y) ≡ x
if_same a b x y same = ap (λ t. if t then x else y) (eq-eqb a b same)

if_other : {M : Type 0} (a b : ℕ) (x y : M) → a ≢ b → (if a == b then x else y) ≡ y
if_other a b x y other = ap (λ t. if t then x else y) (ne_eqb a b other)

-- the root's place in its block of 2 * h ranks
root_place : (root h : ℕ) → 0 < h → root % (2 * h) ≡ root / h % 2 * h + root % h
root_place root h positive =
    let split = div-add-mod' root h in
    let rest : root % h < h = mod_below root h positive in
    let halves : root / h ≡ root / h / 2 * 2 + root / h % 2 = omega arith in
    let bit : root / h % 2 ≤ 1 = omega arith in
    let small = mul-le (root / h % 2) h 1 h bit (omega arith) in
    let product : root / h * h ≡ root / h / 2 * (2 * h) + root / h % 2 * h = ap (λ q. q * h) halves ∙ grind arith in
    let place : root ≡ root / h / 2 * (2 * h) + (root / h % 2 * h + root % h) = omega (arith, split, product) in
    ap (λ n. n % (2 * h)) place ∙ mod-mul-add (root / h / 2) (2 * h) (root / h % 2 * h + root % h) (omega (arith, small))

-- every rank that agrees with the root in its place within its block holds the block's total, and
-- every other one the unit
abbrev pub reduced : {M : Type 0} → M → (M → M → M) → ℕ → ℕ → List M → ℕ → ℕ → M
reduced unit join root size old first offset = if offset == root % size then range_total join unit old first size else unit

abbrev pub HoldsReduced : {M : Type 0} → M → (M → M → M) → ℕ → ℕ → List M → List M → Type 0
HoldsReduced unit join root size old items = EachInBlock unit size (reduced unit join root size old) items

-- the lower rank of a pair, by the bit of the root and the place r of the root in its half
low_cases : {M : Type 0} (unit a both sum : M) (h bit r place offset : ℕ)
    → offset < h
    → r < h
    → bit < 2
    → place ≡ offset
    → (offset ≡ r → both ≡ sum)
    → (offset ≢ r → a ≡ unit)
    → (if place == r then (if bit == 0 then both else unit) else a)
    ≡ (if offset == bit * h + r then sum else unit)
low_cases unit a both sum h bit r place offset within r_within bit_is place_is agree differ = elim (cases_eq offset r) [
  | inl same ↦ if_same place r (if bit == 0 then both else unit) a (place_is ∙ same) ∙ elim (cases_eq bit 0) [
    | inl zero_bit ↦
        let none : bit * h ≡ 0 = ap (λ n. n * h) zero_bit ∙ omega arith in
        if_same bit 0 both unit zero_bit ∙ agree same ∙ sym (if_same offset (bit * h + r) sum unit (omega arith))
    | inr one_bit ↦
        let all : bit * h ≡ h = (let one : bit ≡ 1 = omega arith in ap (λ n. n * h) one ∙ omega arith) in
        if_other bit 0 both unit one_bit ∙ sym (if_other offset (bit * h + r) sum unit (λ is. omega arith))
  ]
  | inr other ↦ if_other place r (if bit == 0 then both else unit) a (λ is. other (sym place_is ∙ is)) ∙ differ other ∙ elim (cases_eq bit 0) [
    | inl zero_bit ↦
        let none : bit * h ≡ 0 = ap (λ n. n * h) zero_bit ∙ omega arith in
        sym (if_other offset (bit * h + r) sum unit (λ is. other (omega arith)))
    | inr one_bit ↦
        let all : bit * h ≡ h = (let one : bit ≡ 1 = omega arith in ap (λ n. n * h) one ∙ omega arith) in
        sym (if_other offset (bit * h + r) sum unit (λ is. omega arith))
  ]
]

-- the higher rank of a pair
high_cases : {M : Type 0} (unit b both sum : M) (h bit r place offset : ℕ)
    → offset < h
    → r < h
    → bit < 2
    → place ≡ offset
    → (offset ≡ r → both ≡ sum)
    → (offset ≢ r → b ≡ unit)
    → (if place == r then (if bit == 0 then unit else both) else b)
    ≡ (if h + offset == bit * h + r then sum else unit)
high_cases unit b both sum h bit r place offset within r_within bit_is place_is agree differ = elim (cases_eq offset r) [
  | inl same ↦ if_same place r (if bit == 0 then unit else both) b (place_is ∙ same) ∙ elim (cases_eq bit 0) [
    | inl zero_bit ↦
        let none : bit * h ≡ 0 = ap (λ n. n * h) zero_bit ∙ omega arith in
        if_same bit 0 unit both zero_bit ∙ sym (if_other (h + offset) (bit * h + r) sum unit (λ is. omega arith))
    | inr one_bit ↦
        let all : bit * h ≡ h = (let one : bit ≡ 1 = omega arith in ap (λ n. n * h) one ∙ omega arith) in
        if_other bit 0 unit both one_bit ∙ agree same ∙ sym (if_same (h + offset) (bit * h + r) sum unit (omega arith))
  ]
  | inr other ↦ if_other place r (if bit == 0 then unit else both) b (λ is. other (sym place_is ∙ is)) ∙ differ other ∙ elim (cases_eq bit 0) [
    | inl zero_bit ↦
        let none : bit * h ≡ 0 = ap (λ n. n * h) zero_bit ∙ omega arith in
        sym (if_other (h + offset) (bit * h + r) sum unit (λ is. omega arith))
    | inr one_bit ↦
        let all : bit * h ≡ h = (let one : bit ≡ 1 = omega arith in ap (λ n. n * h) one ∙ omega arith) in
        sym (if_other (h + offset) (bit * h + r) sum unit (λ is. other (omega arith)))
  ]
]

module _ {M : Type 0} {IsValue : M → Type 0} {unit : M} {join : M → M → M}
    (laws : MonoidLaws IsValue unit join) where
  pub HoldsReduced-start : (root : ℕ) (items : List M)
      → All IsValue items
      → HoldsReduced unit join root 1 items items
  HoldsReduced-start root items values block offset within below =
      let place : block * 1 + offset ≡ block * 1 = omega arith in
      let root_is = mod_below root 1 (omega arith) in
      ap (item_at unit items) place ∙ sym (range_total-one laws items (block * 1) values (omega arith))
      ∙ sym (if_same offset (root % 1) (range_total join unit items (block * 1) 1) unit (omega arith))

  HoldsReduced-double : (root h : ℕ) (old items next : List M)
      → 0 < h
      → length items ≡ length next
      → length items % (2 * h) ≡ 0
      → All IsValue old
      → HoldsReduced unit join root h old items
      → TurnsPairs unit h (reduced_low unit join root h) (reduced_high unit join root h) items next
      → HoldsReduced unit join root (2 * h) old next
  HoldsReduced-double root h old items next positive same_length whole values before turned =
      double_blocks unit h (reduced unit join root (2 * h) old) next positive (ap (λ n. n % (2 * h)) (sym same_length) ∙ whole)
      (λ block offset within below.
      (let low = block * (2 * h) + offset in
      let first = block * (2 * h) in
      let a = item_at unit items low in
      let b = item_at unit items (low + h) in
      let pair = turned low (low_of_block block offset h within) (omega arith) in
      let lower = block_item unit h (reduced unit join root h old) items before (2 * block) offset low first within (omega arith) (grind arith) (grind arith) in
      let higher = block_item unit h (reduced unit join root h old) items before (2 * block + 1) offset (low + h) (first + h) within (omega arith) (grind arith) (grind arith) in
      let place : low % h ≡ offset = place_in_half block offset h within in
      let rest : root % h < h = mod_below root h positive in
      let bit : root / h % 2 < 2 = omega arith in
      let sum = range_total join unit old first (2 * h) in
      let agree : offset ≡ root % h → join a b ≡ sum = λ same.
      joined_ranges old first h values a b
      (lower ∙ if_same offset (root % h) (range_total join unit old first h) unit same)
      (higher ∙ if_same offset (root % h) (range_total join unit old (first + h) h) unit same) in
      let at_root : (x : ℕ) → (if x == root / h % 2 * h + root % h then sum else unit) ≡ reduced unit join root (2 * h) old first x =
      λ x. ap (λ r. if x == r then sum else unit) (sym (root_place root h positive)) in (
        pair.0 ∙ low_cases unit a (join a b) sum h (root / h % 2) (root % h) (low % h) offset within rest bit place agree
            (λ other. lower ∙ if_other offset (root % h) (range_total join unit old first h) unit other) ∙ at_root offset,
        pair.1 ∙ high_cases unit b (join a b) sum h (root / h % 2) (root % h) (low % h) offset within rest bit place agree
            (λ other. higher ∙ if_other offset (root % h) (range_total join unit old (first + h) h) unit other) ∙ at_root (h + offset),
      )))
    where
      place_in_half : (block offset h : ℕ) → offset < h → (block * (2 * h) + offset) % h ≡ offset
      place_in_half block offset h within =
          let place : block * (2 * h) + offset ≡ 2 * block * h + offset = grind arith in
          ap (λ n. n % h) place ∙ mod-mul-add (2 * block) h offset within

      joined_ranges : (old : List M) (first h : ℕ)
          → All IsValue old
          → (a b : M)
          → a ≡ range_total join unit old first h
          → b ≡ range_total join unit old (first + h) h
          → join a b ≡ range_total join unit old first (2 * h)
      joined_ranges old first h values a b a_is b_is =
          let twice : h + h ≡ 2 * h = omega arith in
          ap (λ x. join x b) a_is ∙ ap (join (range_total join unit old first h)) b_is ∙ sym (range_total-add laws old first h h values) ∙ ap (range_total join unit old first) twice

  -- a round of the reduction
  pub HoldsReduced-round : (root k i half : ℕ) (old items next : List M)
      → IsRound (length items) k i half
      → length items ≡ length next
      → All IsValue old
      → HoldsReduced unit join root (2 ^ i) old items
      → TurnsPairs unit half (reduced_low unit join root half) (reduced_high unit join root half)
      items next
      → HoldsReduced unit join root (2 ^ (i + 1)) old next
  HoldsReduced-round root k i half old items next round same_length values before turned =
      let n = length items in
      let now : HoldsReduced unit join root half old items = subst (λ size. HoldsReduced unit join root size old items) (sym round.half_is) before in
      let doubled = HoldsReduced-double root half old items next (IsRound-positive n k i half round) same_length (IsRound-whole n k i half round) values now turned in
      subst (λ size. HoldsReduced unit join root size old next) (IsRound-next n k i half round) doubled

-- ---- the whole cube as one block

-- what the ranks of the one block of all places hold
pub one_block : {M : Type 0} (unit : M) (k : ℕ) (held : ℕ → ℕ → M) (items : List M)
    → length items ≡ 2 ^ k
    → EachInBlock unit (2 ^ k) held items
    → Holds items k (held 0)
one_block unit k held items places each rank within =
    slice_get-get_or items rank unit (omega arith)
    ∙ ap Some (block_item unit (2 ^ k) held items each 0 rank rank 0 within (omega arith) (omega arith) (omega arith))

-- the range of all items
pub range_total-all : {M : Type 0} (unit : M) (join : M → M → M) (items : List M) (n : ℕ)
    → length items ≡ n
    → range_total join unit items 0 n ≡ total join unit items
range_total-all unit join items n all = ap (total join unit) (take_all n items (omega arith))

pub HoldsTotals-all : {M : Type 0} (unit : M) (join : M → M → M) (k : ℕ) (old items : List M)
    → length old ≡ 2 ^ k
    → length items ≡ 2 ^ k
    → HoldsTotals unit join (2 ^ k) old items
    → Holds items k (λ rank. total join unit old)
HoldsTotals-all unit join k old items old_places places totals rank within =
    one_block unit k (λ first offset. range_total join unit old first (2 ^ k)) items places totals rank within
    ∙ ap Some (range_total-all unit join old (2 ^ k) old_places)

pub HoldsPrefixes-all : {M : Type 0} (unit : M) (join : M → M → M) (k : ℕ)
    (old begun items : List M)
    → length items ≡ 2 ^ k
    → HoldsPrefixes unit join (2 ^ k) old begun items
    → Holds items k (λ rank. join (prefix_total join unit old rank) (item_at unit begun rank))
HoldsPrefixes-all unit join k old begun items places prefixes rank within =
    let place : 0 + rank ≡ rank = omega arith in
    one_block unit k (λ first offset. join (range_total join unit old first offset) (item_at unit begun (first + offset))) items places prefixes rank within
    ∙ ap (λ own. Some (join (prefix_total join unit old rank) (item_at unit begun own))) place

module _ {M : Type 0} {IsValue : M → Type 0} {unit : M} {join : M → M → M}
    (laws : MonoidLaws IsValue unit join) where
  -- what the rounds make of prefixes that begin as the items themselves
  pub with_own_items : (k : ℕ) (old items : List M)
      → length old ≡ 2 ^ k
      → All IsValue old
      → Holds items k (λ rank. join (prefix_total join unit old rank) (item_at unit old rank))
      → Holds items k (λ rank. prefix_total join unit old (rank + 1))
  with_own_items k old items places values held rank within =
      let place : rank ≡ 0 + rank = omega arith in
      held rank within
      ∙ ap (λ own. Some (join (prefix_total join unit old rank) own)) (sym (range_total-one laws old rank values (omega arith)))
      ∙ ap (λ from. Some (join (prefix_total join unit old rank) (range_total join unit old from 1))) place
      ∙ ap Some (sym (range_total-add laws old 0 rank 1 values))

  -- and what they make of prefixes that begin as the unit
  pub with_units : (k : ℕ) (old begun items : List M)
      → All IsValue old
      → ((rank : ℕ) → item_at unit begun rank ≡ unit)
      → Holds items k (λ rank. join (prefix_total join unit old rank) (item_at unit begun rank))
      → Holds items k (λ rank. prefix_total join unit old rank)
  with_units k old begun items values units held rank within =
      held rank within
      ∙ ap (λ own. Some (join (prefix_total join unit old rank) own)) (units rank)
      ∙ ap Some (laws.right_unit (prefix_total join unit old rank) (range_total-value laws old 0 rank values))

pub HoldsReduced-all : {M : Type 0} (unit : M) (join : M → M → M) (root k : ℕ) (old items : List M)
    → root < 2 ^ k
    → length old ≡ 2 ^ k
    → length items ≡ 2 ^ k
    → HoldsReduced unit join root (2 ^ k) old items
    → Holds items k (λ rank. if rank == root then total join unit old else unit)
HoldsReduced-all unit join root k old items root_within old_places places before rank within =
    let only : root ≡ 0 * 2 ^ k + root = omega arith in
    let small : root % 2 ^ k ≡ root = ap (λ n. n % 2 ^ k) only ∙ mod-mul-add 0 (2 ^ k) root root_within in
    one_block unit k (reduced unit join root (2 ^ k) old) items places before rank within
    ∙ ap (λ r. Some (if rank == r then range_total join unit old 0 (2 ^ k) else unit)) small
    ∙ ap (λ sum. Some (if rank == root then sum else unit)) (range_total-all unit join old (2 ^ k) old_places)
