-- What the rule says, and how it is kept where one word and one view change.
use Rattle.std.proofs.Common.{◌*◌, ◌+◌, inl, inr, ◌≡◌, ◌≢◌, ℕ, zero, suc, ◌-◌, ◌/◌, ◌%◌, ◌^◌, ◌<◌, ◌≤◌, List, [], ◌∷◌, length, length-set, get_or, set, replicate, refl, sym, ◌∙◌, ap, arith}
use Rattle.std.specs.Int.{bit_at}
use Rattle.std.proofs.lemmas.Bool.{cases_eq, cases_lt}
use Rattle.std.proofs.lemmas.List.{get_or-replicate, get_or-set_same, get_or-set_other, get_or_past, length-replicate}
use Rattle.std.proofs.lemmas.Nat.Bits.{bit_at-zero, bit_at-lt, bit_at_ones, same_from_bits_below}
use Rattle.std.proofs.lemmas.Nat.{pow_pos}
use mathlib.Core.Option.{some}
use lib.ListN.{get_elem?}
use Rattle.atomic_table.specs.Table.{State, opening}
use Rattle.ghost_history.specs.Sums.{total, is_at}
use Rattle.ghost_history.proofs.SumLemmas.{total-set, term_le, is_at-same, is_at-other}
use Rattle.bitmap_tree.specs.declared.view.Run.{Run}
use Rattle.bitmap_tree.specs.declared.view.View.{View}
use Rattle.bitmap_tree.specs.declared.view.Size.{Size}
use Rattle.ghost_history.proofs.DealLemmas.{only_view}
use Rattle.bitmap_tree.specs.Rule.{word_count, bit_of}
use Rattle.bitmap_tree.specs.InnerRule.{times, times_in, IsOwned, IsKeptWith, IsEven, IsKept, first_view}
use Rattle.bitmap_tree.specs.InnerSteps.{Changes, Fills, Opens, Shuts, AreRunsApart, IsUnder, up}

-- ---- words

pub some_word : (n words : ℕ) → words ≡ word_count n → 0 < words
some_word n words is = let some : 0 < 2 ^ (n - 6) = pow_pos (n - 6) in omega (arith, is, some)

-- all bits of a word
pub ones_bit : (j : ℕ) → j < 64 → bit_at 18446744073709551615 j ≡ 1
ones_bit j within = bit_at_ones 64 j within

-- the default does not matter where there is a word
pub same_or : (xs : List ℕ) (i d e : ℕ) → i < length xs → get_or xs i d ≡ get_or xs i e
same_or [] i d e within = absurd (omega (arith, within))
same_or (x ∷ xs) zero d e within = refl
same_or (x ∷ xs) (suc i) d e within = same_or xs i d e (omega (arith, within))

-- the bit of a place in the word that changes, and in each other
pub bit_here : (words : List ℕ) (i w q : ℕ)
    → i < length words
    → q / 64 ≡ i
    → bit_of (set words i w) q ≡ bit_at w (q % 64)
bit_here words i w q within at = ap (λ j. bit_at (get_or (set words i w) j 18446744073709551615) (q % 64)) at ∙ ap (λ x. bit_at x (q % 64)) (get_or-set_same words i w 18446744073709551615 within)

pub bit_there : (words : List ℕ) (i w q : ℕ)
    → q / 64 ≢ i
    → bit_of (set words i w) q ≡ bit_of words q
bit_there words i w q other = ap (λ x. bit_at x (q % 64)) (get_or-set_other words i (q / 64) w 18446744073709551615 other)

-- the bit that a place had in the word, by its number there
pub bit_was : (words : List ℕ) (i q : ℕ)
    → i < length words
    → q / 64 ≡ i
    → bit_of words q ≡ bit_at (get_or words i 0) (q % 64)
bit_was words i q within at = ap (λ j. bit_at (get_or words j 18446744073709551615) (q % 64)) at ∙ ap (λ x. bit_at x (q % 64)) (same_or words i 18446744073709551615 0 within)

-- ---- the words at the start: the top word is 0, and each other is shut

abbrev full : ℕ
full = 18446744073709551615

first_bit : (count q : ℕ)
    → 0 < count
    → bit_of (set (replicate count full) 0 0) q + is_at 0 (q / 64) ≡ 1
first_bit count q more = elim (cases_eq (q / 64) 0) [
  | inl top ↦
      let there : 0 < length (replicate count full) = omega (arith, length-replicate count full, more) in
      let bit : bit_of (set (replicate count full) 0 0) q ≡ bit_at 0 (q % 64) = bit_here (replicate count full) 0 0 q there top in
      let one : is_at 0 (q / 64) ≡ 1 = ap (is_at 0) top ∙ is_at-same 0 in
      omega (arith, bit, bit_at-zero (q % 64), one)
  | inr below ↦
      let bit : bit_of (set (replicate count full) 0 0) q ≡ bit_of (replicate count full) q = bit_there (replicate count full) 0 0 q below in
      let place : q % 64 < 64 = omega arith in
      let shut : bit_of (replicate count full) q ≡ bit_at full (q % 64) = ap (λ w. bit_at w (q % 64)) (all_full (q / 64)) in
      omega (arith, bit, shut, ones_bit (q % 64) place, is_at-other 0 (q / 64) below)
]
  where
    all_full : (i : ℕ) → get_or (replicate count full) i full ≡ full
    all_full i = elim (cases_lt i count) [
      | inl inside ↦ get_or-replicate count i full full inside
      | inr past ↦ let long : length (replicate count full) ≡ count = length-replicate count full in get_or_past (replicate count full) i full (omega (arith, long))
    ]

is_at_few : (k w : ℕ) → is_at k w ≤ 1
is_at_few k w = elim (cases_eq w k) [
  | inl here ↦ let one : is_at k w ≡ 1 = ap (is_at k) here ∙ is_at-same k in omega (arith, one)
  | inr other ↦ omega (arith, is_at-other k w other)
]

pub begins : (k : Size) (words : List ℕ)
    → words ≡ set (replicate (word_count k.dim) 18446744073709551615) 0 0
    → IsKept k (opening words [] (first_view k))
begins k words is =
    let more : 0 < word_count k.dim = some_word k.dim (word_count k.dim) refl in (
      (
        is_at 0,
        record {
          count = ap length is ∙ length-set (replicate (word_count k.dim) 18446744073709551615) 0 0 ∙ length-replicate (word_count k.dim) 18446744073709551615;
          root = is_at-same 0;
          few = is_at_few 0;
          outside = λ w past. is_at-other 0 w (λ top. absurd (omega (arith, past, more, top)));
          bits = λ q.
              let below : is_at 0 (q + 1) ≡ 0 = is_at-other 0 (q + 1) (λ none. absurd (omega (arith, none))) in
              let bit : bit_of words q ≡ bit_of (set (replicate (word_count k.dim) 18446744073709551615) 0 0) q = ap (λ ws. bit_of ws q) is in
              omega (arith, below, bit, first_bit (word_count k.dim) q more);
        },
      ),
      record { permits = omega arith; owned = λ has_permits. only_view IsOwned (first_view k) (λ none_is q. refl) },
    )

-- ---- what the rule says

module _ (n : ℕ) (opened : ℕ → ℕ) (s : State Run View) (k : IsKeptWith n opened s) where
  pub bit_few : (q : ℕ) → bit_of s.words q ≤ 1
  bit_few q = omega (arith, bit_at-lt (get_or s.words (q / 64) 18446744073709551615) (q % 64))

  module _ (id : ℕ) (v : View) (me : get_elem? s.views id ≡ some v) where
    -- A view that has a place has it alone. Its bit is set, its word is open, and the word under it
    -- is shut.
    pub has_alone : (q : ℕ)
        → 0 < times q v.runs
        → (total (times_in q) s.views ≡ 1) × (times q v.runs ≡ 1) × (bit_of s.words q ≡ 1)
        × (opened (q / 64) ≡ 1) × (opened (q + 1) ≡ 0)
    has_alone q more =
        let mine = term_le (times_in q) s.views id v me in
        let a = k.bits q in
        let b = bit_few q in
        let c = k.few (q / 64) in
        (omega (arith, mine, a, b, c, more), omega (arith, mine, a, b, c, more), omega (arith, mine, a, b, c, more), omega (arith, mine, a, b, c, more), omega (arith, mine, a, b, c, more))

    pub few_runs : (q : ℕ) → times q v.runs ≤ bit_of s.words q
    few_runs q = let mine = term_le (times_in q) s.views id v me in let a = k.bits q in let b = bit_few q in let c = k.few (q / 64) in omega (arith, mine, a, b, c)

  -- in a word that is shut each bit is set, no run has it, and the word under it is shut
  pub shut_here : (q : ℕ)
      → opened (q / 64) ≡ 0
      → (total (times_in q) s.views ≡ 0) × (bit_of s.words q ≡ 1) × (opened (q + 1) ≡ 0)
  shut_here q closed = let a = k.bits q in let b = bit_few q in (omega (arith, a, b, closed), omega (arith, a, b, closed), omega (arith, a, b, closed))

  -- a word in which a bit is clear is opened; no run has the bit, and the word under it is shut
  pub clear_here : (q : ℕ)
      → bit_of s.words q ≡ 0
      → (total (times_in q) s.views ≡ 0) × (opened (q / 64) ≡ 1) × (opened (q + 1) ≡ 0)
  clear_here q clear = let a = k.bits q in let b = k.few (q / 64) in (omega (arith, a, b, clear), omega (arith, a, b, clear), omega (arith, a, b, clear))

  -- under a word that is shut each word is shut
  pub shut_under : (d q : ℕ)
      → IsUnder (suc d) q
      → opened (up (suc d) q + 1) ≡ 0
      → opened (q / 64) ≡ 0
  shut_under zero q under closed =
      let back : q / 64 - 1 + 1 ≡ q / 64 = omega (arith, under.0) in
      ap opened (sym back) ∙ closed
  shut_under (suc d) q under closed =
      let above : opened ((q / 64 - 1) / 64) ≡ 0 = shut_under d (q / 64 - 1) under.1 closed in
      let next = (shut_here (q / 64 - 1) above).2 in
      let back : q / 64 - 1 + 1 ≡ q / 64 = omega (arith, under.0) in
      ap opened (sym back) ∙ next

  pub runs_apart : (id : ℕ) (v : View) → get_elem? s.views id ≡ some v → AreRunsApart v.runs
  runs_apart id v me = record {
    once = λ q. let less = few_runs id v me q in let b = bit_few q in omega (arith, less, b);
    under = λ d q under more.
        let closed : opened (up (suc d) q + 1) ≡ 0 = (has_alone id v me (up (suc d) q) more).4 in
        let shut = (shut_here q (shut_under d q under closed)).0 in
        let mine = term_le (times_in q) s.views id v me in
        omega (arith, shut, mine);
  }

  -- the rule after a step of one seat
  pub kept_with : (next : ℕ → ℕ) (id i new : ℕ) (v w : View)
      → get_elem? s.views id ≡ some v
      → next 0 ≡ 1
      → ((x : ℕ) → next x ≤ 1)
      → ((x : ℕ) → word_count n ≤ x → next x ≡ 0)
      → ((q : ℕ) → times q w.runs + next (q + 1) + (bit_of s.words q + opened (q / 64))
      ≡ times q v.runs + opened (q + 1) + (bit_of (set s.words i new) q + next (q / 64)))
      → IsKeptWith n next (record {
        words = set s.words i new;
        homes = s.homes;
        views = set s.views
            id w;
      })
  kept_with next id i new v w me root few outside fits = record {
    count = length-set s.words i new ∙ k.count;
    root = root;
    few = few;
    outside = outside;
    bits = λ q. omega (arith, total-set (times_in q) s.views id v w me, k.bits q, fits q);
  }

  module _ (id i : ℕ) (v w : View) (within : i < word_count n) (me : get_elem? s.views id ≡ some v)
    where
      inside : i < length s.words
      inside = omega (arith, k.count, within)

      -- where bits change as runs do
      pub changes : (new : ℕ)
          → Changes i (get_or s.words i 0) new v.runs w.runs
          → IsEven n (record {
            words = set s.words i new;
            homes = s.homes;
            views = set s.views id w;
          })
      changes new fits = (
        opened,
        kept_with opened id i new v w me k.root k.few k.outside (λ q. elim (cases_eq (q / 64) i) [
          | inl at ↦ omega (arith, fits.here q at, bit_here s.words i new q inside at, bit_was s.words i q inside at)
          | inr other ↦ omega (arith, fits.there q other, bit_there s.words i new q other)
        ]),
      )

      -- a word whose unit a seat has is shut
      pub unit_shut : 0 < i → 0 < times (i - 1) v.runs → opened i ≡ 0
      unit_shut below unit = let back : i - 1 + 1 ≡ i = omega (arith, below) in ap opened (sym back) ∙ (has_alone id v me (i - 1) unit).4

      pub found_full : get_or s.words i 0 < 18446744073709551616
          → opened i ≡ 0
          → get_or s.words i 0 ≡ 18446744073709551615
      found_full small shut = same_from_bits_below 64 (get_or s.words i 0) 18446744073709551615 small (omega arith) (λ j low.
          let at : (64 * i + j) / 64 ≡ i = omega (arith, low) in
          let place : (64 * i + j) % 64 ≡ j = omega (arith, low) in
          let is = bit_was s.words i (64 * i + j) inside at in
          let same : bit_at (get_or s.words i 0) ((64 * i + j) % 64) ≡ bit_at (get_or s.words i 0) j = ap (bit_at (get_or s.words i 0)) place in
          let one = (shut_here (64 * i + j) (ap opened at ∙ shut)).1 in
          omega (arith, is, same, one, ones_bit j low))

      pub opens : (new : ℕ)
          → Opens i new v.runs w.runs
          → IsEven n (record {
            words = set s.words i new;
            homes = s.homes;
            views = set s.views id w;
          })
      opens new fits =
          let shut : opened i ≡ 0 = unit_shut fits.some fits.unit in
          let next : ℕ → ℕ = λ x. opened x + is_at i x in
          let other_word : (x : ℕ) → x ≢ i → opened x + is_at i x ≡ opened x = λ x other. omega (arith, is_at-other i x other) in
          let this_word : opened i + is_at i i ≡ 1 = omega (arith, shut, is_at-same i) in (
            next,
            kept_with next id i new v w me (other_word 0 (λ none. absurd (omega (arith, none, fits.some))) ∙ k.root)
                (λ x. elim (cases_eq x i) [
                  | inl here ↦ let is : opened x + is_at i x ≡ 1 = ap (λ y. opened y + is_at i y) here ∙ this_word in omega (arith, is)
                  | inr other ↦ omega (arith, other_word x other, k.few x)
                ])
                (λ x past. other_word x (λ here. absurd (omega (arith, here, past, within))) ∙ k.outside x past)
                (λ q. elim (cases_eq (q / 64) i) [
                  | inl at ↦
                      let was = shut_here q (ap opened at ∙ shut) in
                      let below : opened (q + 1) + is_at i (q + 1) ≡ opened (q + 1) = other_word (q + 1) (λ is. absurd (omega (arith, is, at))) in
                      let here : opened (q / 64) + is_at i (q / 64) ≡ 1 = ap (λ y. opened y + is_at i y) at ∙ this_word in
                      let zero_here : opened (q / 64) ≡ 0 = ap opened at ∙ shut in
                      omega (arith, was.1, below, here, zero_here, fits.here q at, bit_here s.words i new q inside at)
                  | inr other ↦
                      let there : opened (q / 64) + is_at i (q / 64) ≡ opened (q / 64) = other_word (q / 64) other in
                      elim (cases_eq q (i - 1)) [
                        | inl unit ↦
                            let next_is : q + 1 ≡ i = omega (arith, unit, fits.some) in
                            let one : opened (q + 1) + is_at i (q + 1) ≡ 1 = ap (λ y. opened y + is_at i y) next_is ∙ this_word in
                            let none : opened (q + 1) ≡ 0 = ap opened next_is ∙ shut in
                            let now_is : times q w.runs ≡ times (i - 1) w.runs = ap (λ y. times y w.runs) unit in
                            let was_is : times q v.runs ≡ times (i - 1) v.runs = ap (λ y. times y v.runs) unit in
                            omega (arith, there, one, none, now_is, was_is, fits.above, bit_there s.words i new q other)
                        | inr no_unit ↦
                            let below : opened (q + 1) + is_at i (q + 1) ≡ opened (q + 1) = other_word (q + 1) (λ is. absurd (no_unit (omega (arith, is)))) in
                            omega (arith, there, below, fits.there q other no_unit, bit_there s.words i new q other)
                      ]
                ]),
          )

      pub shuts : get_or s.words i 0 ≡ 0
          → Shuts i v.runs w.runs
          → IsEven n (record {
            words = set s.words i 18446744073709551615;
            homes = s.homes;
            views =
                set s.views id w;
          })
      shuts empty fits =
          let clear : (q : ℕ) → q / 64 ≡ i → bit_of s.words q ≡ 0 = λ q at. bit_was s.words i q inside at ∙ (ap (λ x. bit_at x (q % 64)) empty ∙ bit_at-zero (q % 64)) in
          let first_at : 64 * i / 64 ≡ i = omega arith in
          let was_open : opened i ≡ 1 = ap opened (sym first_at) ∙ (clear_here (64 * i) (clear (64 * i) first_at)).1 in
          let next : ℕ → ℕ = λ x. opened x - is_at i x in
          let other_word : (x : ℕ) → x ≢ i → opened x - is_at i x ≡ opened x = λ x other. omega (arith, is_at-other i x other) in
          let this_word : opened i - is_at i i ≡ 0 = omega (arith, was_open, is_at-same i) in (
            next,
            kept_with next id i 18446744073709551615 v w me (other_word 0 (λ none. absurd (omega (arith, none, fits.some))) ∙ k.root)
                (λ x. omega (arith, k.few x))
                (λ x past. omega (arith, k.outside x past))
                (λ q. elim (cases_eq (q / 64) i) [
                  | inl at ↦
                      let was = clear_here q (clear q at) in
                      let below : opened (q + 1) - is_at i (q + 1) ≡ opened (q + 1) = other_word (q + 1) (λ is. absurd (omega (arith, is, at))) in
                      let here : opened (q / 64) - is_at i (q / 64) ≡ 0 = ap (λ y. opened y - is_at i y) at ∙ this_word in
                      let place : q % 64 < 64 = omega arith in
                      let same = fits.there q (λ is. absurd (omega (arith, is, at, fits.some))) in
                      omega (arith, was.1, clear q at, below, here, same, bit_here s.words i 18446744073709551615 q inside at, ones_bit (q % 64) place)
                  | inr other ↦
                      let there : opened (q / 64) - is_at i (q / 64) ≡ opened (q / 64) = other_word (q / 64) other in
                      elim (cases_eq q (i - 1)) [
                        | inl unit ↦
                            let next_is : q + 1 ≡ i = omega (arith, unit, fits.some) in
                            let none : opened (q + 1) - is_at i (q + 1) ≡ 0 = ap (λ y. opened y - is_at i y) next_is ∙ this_word in
                            let one : opened (q + 1) ≡ 1 = ap opened next_is ∙ was_open in
                            let now_is : times q w.runs ≡ times (i - 1) w.runs = ap (λ y. times y w.runs) unit in
                            let was_is : times q v.runs ≡ times (i - 1) v.runs = ap (λ y. times y v.runs) unit in
                            omega (arith, there, one, none, now_is, was_is, fits.above, bit_there s.words i 18446744073709551615 q other)
                        | inr no_unit ↦
                            let below : opened (q + 1) - is_at i (q + 1) ≡ opened (q + 1) = other_word (q + 1) (λ is. absurd (no_unit (omega (arith, is)))) in
                            omega (arith, there, below, fits.there q no_unit, bit_there s.words i 18446744073709551615 q other)
                      ]
                ]),
          )

      -- a word of which a seat has each bit is shut, and no bit changes
      pub fills : Fills i v.runs w.runs
          → IsEven n (record {
            words = set s.words i (get_or s.words i 0);
            homes = s.homes;
            views =
                set s.views id w;
          })
      fills fits =
          let first_at : 64 * i / 64 ≡ i = omega arith in
          let was_open : opened i ≡ 1 = ap opened (sym first_at) ∙ (has_alone id v me (64 * i) (fits.here (64 * i) first_at).0).3 in
          let next : ℕ → ℕ = λ x. opened x - is_at i x in
          let other_word : (x : ℕ) → x ≢ i → opened x - is_at i x ≡ opened x = λ x other. omega (arith, is_at-other i x other) in
          let this_word : opened i - is_at i i ≡ 0 = omega (arith, was_open, is_at-same i) in (
            next,
            kept_with next id i (get_or s.words i 0) v w me (other_word 0 (λ none. absurd (omega (arith, none, fits.some))) ∙ k.root)
                (λ x. omega (arith, k.few x))
                (λ x past. omega (arith, k.outside x past))
                (λ q. elim (cases_eq (q / 64) i) [
                  | inl at ↦
                      let mine = fits.here q at in
                      let was = has_alone id v me q mine.0 in
                      let below : opened (q + 1) - is_at i (q + 1) ≡ opened (q + 1) = other_word (q + 1) (λ is. absurd (omega (arith, is, at))) in
                      let here : opened (q / 64) - is_at i (q / 64) ≡ 0 = ap (λ y. opened y - is_at i y) at ∙ this_word in
                      let bit = bit_here s.words i (get_or s.words i 0) q inside at in
                      let bit_is = bit_was s.words i q inside at in
                      let now_is = mine.1 in
                      let one = was.1 in
                      let set_bit = was.2 in
                      let lent_one = was.3 in
                      let none_below = was.4 in
                      omega (arith, now_is, one, set_bit, lent_one, none_below, below, here, bit, bit_is)
                  | inr other ↦
                      let there : opened (q / 64) - is_at i (q / 64) ≡ opened (q / 64) = other_word (q / 64) other in
                      elim (cases_eq q (i - 1)) [
                        | inl unit ↦
                            let next_is : q + 1 ≡ i = omega (arith, unit, fits.some) in
                            let none : opened (q + 1) - is_at i (q + 1) ≡ 0 = ap (λ y. opened y - is_at i y) next_is ∙ this_word in
                            let one : opened (q + 1) ≡ 1 = ap opened next_is ∙ was_open in
                            let now_is : times q w.runs ≡ times (i - 1) w.runs = ap (λ y. times y w.runs) unit in
                            let was_is : times q v.runs ≡ times (i - 1) v.runs = ap (λ y. times y v.runs) unit in
                            omega (arith, there, one, none, now_is, was_is, fits.above, bit_there s.words i (get_or s.words i 0) q other)
                        | inr no_unit ↦
                            let below : opened (q + 1) - is_at i (q + 1) ≡ opened (q + 1) = other_word (q + 1) (λ is. absurd (no_unit (omega (arith, is)))) in
                            omega (arith, there, below, fits.there q other no_unit, bit_there s.words i (get_or s.words i 0) q other)
                      ]
                ]),
          )
