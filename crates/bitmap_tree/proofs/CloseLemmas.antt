-- The words at the end: those that are 0 are shut, the last one first.
use Rattle.bitmap_tree.specs.declared.view.Size.{Size}
use Rattle.bitmap_tree.specs.InnerLayout.{IsBlank}
use Rattle.bitmap_tree.specs.Layout.{HasNone, HasRun, base_in}
use Rattle.bitmap_tree.specs.Seats.{HasNoBit}
use Rattle.bitmap_tree.specs.Layout.{Known}
use Rattle.bitmap_tree.specs.InnerSteps.{joined}
use Rattle.std.proofs.Common.{inl, inr, ◌≡◌, ◌≢◌, ℕ, zero, suc, ◌+◌, ◌-◌, ◌*◌, ◌/◌, ◌%◌, ◌^◌, ◌<◌, ◌≤◌, w64, bit_and, List, [], ◌∷◌, length, length-set, get_or, set, sym, ◌∙◌, ap, subst, arith, ◌++◌}
use Rattle.std.specs.Int.{bit_at}
use Rattle.std.proofs.lemmas.Bool.{cases_eq, cases_lt}
use Rattle.std.proofs.lemmas.List.{get_or-set_same, get_or-set_other, get_or_past}
use Rattle.std.proofs.lemmas.Nat.Bits.{bit_at-zero, bit_at-lt, bit_at_and, bit_at_not, same_from_bits_below}
use Rattle.std.proofs.lemmas.Nat.{pow_pos}
use Rattle.std.proofs.Math.Pow.{pow_mono}
use mathlib.Core.Option.{some, some-injective, some-ne-none}
use lib.ListN.{get_elem?}
use Rattle.atomic_table.specs.Table.{State}
use Rattle.ghost_history.specs.Sums.{total, is_at}
use Rattle.ghost_history.proofs.SumLemmas.{is_at-same, is_at-other, positive_term, two_terms_le, total-append}
use Rattle.bitmap_tree.specs.declared.view.Run.{Run}
use Rattle.bitmap_tree.specs.declared.view.View.{View}
use Rattle.bitmap_tree.specs.InnerRule.{IsEven, times_in, times, permits_in, IsShared}
use Rattle.bitmap_tree.specs.Rule.{word_count, bit_of, run, has}
use Rattle.bitmap_tree.specs.Ends.{IsLeftWith, IsLeft, IsClosed}
use Rattle.bitmap_tree.specs.InnerEnds.{IsShutFrom}
use Rattle.bitmap_tree.proofs.MaskLemmas.{mask_bit, has_none}
use Rattle.bitmap_tree.proofs.RuleLemmas.{bit_here, bit_there, bit_was, ones_bit, same_or}

-- ---- the words are copied

-- the word at a place
read_at : (l : List ℕ) (i x : ℕ) → get_elem? l i ≡ some x → get_or l i 0 ≡ x
read_at [] i x e = absurd (some-ne-none x (sym e))
read_at (y ∷ l) zero x e = some-injective y x e
read_at (y ∷ l) (suc i) x e = read_at l i x e

-- one word more is copied
pub copied_more : (room words : List ℕ) (i x : ℕ)
    → i < length room
    → get_elem? words i ≡ some x
    → ((k : ℕ) → k < i → get_or room k 0 ≡ get_or words k 0)
    → (k : ℕ)
    → k < i + 1
    → get_or (set room i x) k 0 ≡ get_or words k 0
copied_more room words i x there at had k below = elim (cases_eq k i) [
  | inl here ↦ ap (λ j. get_or (set room i x) j 0) here ∙ get_or-set_same room i x 0 there ∙ sym (read_at words i x at) ∙ ap (λ j. get_or words j 0) (sym here)
  | inr other ↦ get_or-set_other room i k x 0 other ∙ had k (omega arith)
]

same_bits : (xs ys : List ℕ) (q : ℕ)
    → length xs ≡ length ys
    → ((k : ℕ) → k < length xs → get_or xs k 0 ≡ get_or ys k 0)
    → bit_of xs q ≡ bit_of ys q
same_bits xs ys q long same = elim (cases_lt (q / 64) (length xs)) [
  | inl inside ↦ ap (λ w. bit_at w (q % 64)) (same_or xs (q / 64) 18446744073709551615 0 inside ∙ same (q / 64) inside ∙ same_or ys (q / 64) 0 18446744073709551615 (omega (arith, inside, long)))
  | inr past ↦ ap (λ w. bit_at w (q % 64)) (get_or_past xs (q / 64) 18446744073709551615 past ∙ sym (get_or_past ys (q / 64) 18446744073709551615 (omega (arith, past, long))))
]

pub left_copy : (n : ℕ) (room ws : List ℕ) (s : State Run View)
    → IsEven n s
    → s.words ≡ ws
    → length room ≡ word_count n
    → ((k : ℕ) → k < length room → get_or room k 0 ≡ get_or ws k 0)
    → IsLeft n (λ q. total (times_in q) s.views) room
left_copy n room ws s k is long same = (
  k.0,
  record {
    count = long;
    root = k.1.root;
    few = k.1.few;
    outside = k.1.outside;
    even = λ q.
        let bits : bit_of room q ≡ bit_of ws q = same_bits room ws q (long ∙ sym k.1.count ∙ ap length is) same in
        let there : bit_of ws q ≡ bit_of s.words q = ap (λ l. bit_of l q) (sym is) in
        omega (arith, bits, there, k.1.bits q);
  },
)

-- ---- all permits are in one view that has claimed nothing

pub nothing_held : (k : Size) (s : State Run View) (id : ℕ) (v : View)
    → IsShared k s
    → get_elem? s.views id ≡ some v
    → 0 < k.permits
    → v.permits ≡ k.permits
    → ((q : ℕ) → times q v.runs ≡ 0)
    → (q : ℕ)
    → total (times_in q) s.views ≡ 0
nothing_held k s id v shared me has_permits all nothing q = elim (cases_eq (total (times_in q) s.views) 0) [
  | inl is ↦ is
  | inr more ↦ absurd (nobody (positive_term (times_in q) s.views (omega (arith, more))))
]
  where
    nobody : (j : ℕ) × (u : View) × (get_elem? s.views j ≡ some u) × (0 < times q u.runs) → ⊥
    nobody t = elim (cases_eq t.0 id) [
      | inl here ↦
          let same : t.1 ≡ v = some-injective t.1 v (sym t.2 ∙ (ap (get_elem? s.views) here ∙ me)) in
          let zero_here : times q t.1.runs ≡ 0 = ap (λ (u : View). times q u.runs) same ∙ nothing q in
          omega (arith, t.3, zero_here)
      | inr other ↦
          let sum = two_terms_le permits_in s.views id t.0 v t.1 other me t.2 in
          let none_there : t.1.permits ≡ 0 = omega (arith, sum, shared.permits, all) in
          let zero_there : times q t.1.runs ≡ 0 = shared.owned has_permits t.0 t.1 t.2 none_there q in
          omega (arith, t.3, zero_there)
    ]

-- a seat that has claimed nothing takes in another one
pub merged_none : (m n both : Known) (q : ℕ)
    → times q m.0.runs ≡ 0
    → HasNone n
    → both ≡ (joined m.0 n.0, m.1)
    → times q both.0.runs ≡ 0
merged_none m n both q nothing empty is =
    let runs : times q both.0.runs ≡ times q (m.0.runs ++ n.0.runs) = ap (λ (x : Known). times q x.0.runs) is in
    let other : times q n.0.runs ≡ times q (run (base_in n.0.runs) 0 ∷ []) = ap (times q) empty.0 in
    omega (arith, runs, other, total-append (has q) m.0.runs n.0.runs, nothing, has_none (base_in n.0.runs) q)

-- a seat takes in another one that has a run
pub merged_run : (m n both : Known) (r : Run) (q : ℕ)
    → HasRun r n
    → both ≡ (joined m.0 n.0, m.1)
    → times q both.0.runs ≡ times q m.0.runs + has q r
merged_run m n both r q one is =
    let runs : times q both.0.runs ≡ times q (m.0.runs ++ n.0.runs) = ap (λ (x : Known). times q x.0.runs) is in
    let other : times q n.0.runs ≡ times q (r ∷ []) = ap (times q) one.0 in
    omega (arith, runs, other, total-append (has q) m.0.runs n.0.runs)

-- a seat with an empty run has no bit
pub blank_no_bit : (m : Known) → IsBlank m → HasNoBit m
blank_no_bit m blank = (
  λ q. let runs : times q m.0.runs ≡ times q (run blank.0 0 ∷ []) = ap (times q) blank.1.0 in omega (arith, runs, has_none blank.0 q),
  blank.1.1,
)

-- ---- a word that is 0 is shut, and its unit given back

-- a bit that is cleared
cleared : (old b j : ℕ)
    → j < 64
    → b < 64
    → bit_at (bit_and old (18446744073709551615 - (2 ^ (b + 1) - 2 ^ b))) j
    ≡ bit_at old j - is_at b j
cleared old b j low place =
    let wide : 2 ^ (b + 1) - 2 ^ b < 18446744073709551616 = below (b + 1) (omega (arith, place)) in
    let bit : bit_at (2 ^ (b + 1) - 2 ^ b) j ≡ has j (run b 1) = mask_bit b 1 j in
    elim (cases_eq j b) [
      | inl here ↦
          let one : is_at b j ≡ 1 = ap (is_at b) here ∙ is_at-same b in
          let set_bit : has j (run b 1) ≡ 1 = omega (arith, here) in
          omega (arith, bit_at_and old (18446744073709551615 - (2 ^ (b + 1) - 2 ^ b)) j, bit_at_not w64 (2 ^ (b + 1) - 2 ^ b) j wide low, bit, one, set_bit, bit_at-lt old j)
      | inr other ↦
          let clear : has j (run b 1) ≡ 0 = omega (arith, other) in
          omega (arith, bit_at_and old (18446744073709551615 - (2 ^ (b + 1) - 2 ^ b)) j, bit_at_not w64 (2 ^ (b + 1) - 2 ^ b) j wide low, bit, is_at-other b j other, clear, bit_at-lt old j)
    ]
  where
    below : (e : ℕ) → e ≤ 64 → 2 ^ e - 2 ^ b < 18446744073709551616
    below e within = let most : 2 ^ e ≤ 2 ^ 64 = pow_mono within in let more : 0 < 2 ^ b = pow_pos b in omega (arith, most, more)

module _ (n : ℕ) (held opened : ℕ → ℕ) (words : List ℕ) (k : IsLeftWith n held opened words) where
  bit_few : (q : ℕ) → bit_of words q ≤ 1
  bit_few q = omega (arith, bit_at-lt (get_or words (q / 64) 18446744073709551615) (q % 64))

  -- in a word that is 0 nothing is held, and the words under it are shut
  empty_here : (w q : ℕ)
      → w < length words
      → get_or words w 0 ≡ 0
      → q / 64 ≡ w
      → (bit_of words q ≡ 0) × (opened w ≡ 1) × (held q ≡ 0) × (opened (q + 1) ≡ 0)
  empty_here w q inside empty at =
      let bit : bit_of words q ≡ 0 = bit_was words w q inside at ∙ (ap (λ x. bit_at x (q % 64)) empty ∙ bit_at-zero (q % 64)) in
      let same : opened (q / 64) ≡ opened w = ap opened at in
      let e = k.even q in
      let f = k.few w in
      (bit, omega (arith, bit, same, e, f), omega (arith, bit, same, e, f), omega (arith, bit, same, e, f))

  -- the words once the word w is shut
  module _ (w a b : ℕ) (below : 0 < w) (within : w < word_count n) (empty : get_or words w 0 ≡ 0)
      (is_a : a ≡ (w - 1) / 64) (is_b : b ≡ (w - 1) % 64) where
    inside : w < length words
    inside = omega (arith, within, k.count)

    one : List ℕ
    one = set words w 18446744073709551615

    above_inside : a < length (set words w 18446744073709551615)
    above_inside = let long = length-set words w 18446744073709551615 in omega (arith, long, inside, is_a)

    pub left_shut : IsLeftWith n held (λ x. opened x - is_at w x)
        (set (set words w 18446744073709551615) a
        (bit_and (get_or (set words w 18446744073709551615) a 0)
        (18446744073709551615 - (2 ^ (b + 1) - 2 ^ b))))
    left_shut = record {
      count = length-set (set words w 18446744073709551615) a _ ∙ length-set words w 18446744073709551615 ∙ k.count;
      root = omega (arith, k.root, is_at-other w 0 (λ top. absurd (omega (arith, top, below))));
      few = λ x. omega (arith, k.few x);
      outside = λ x past. omega (arith, k.outside x past);
      even = λ q. elim (cases_eq (q / 64) w) [
        | inl at ↦
            let was = empty_here w q inside empty at in
            let other : q / 64 ≢ a = λ here. absurd (omega (arith, at, here, is_a, below)) in
            let place : q % 64 < 64 = omega arith in
            let none_opened : is_at w (q + 1) ≡ 0 = is_at-other w (q + 1) (λ here. absurd (omega (arith, here, at))) in
            let me : is_at w (q / 64) ≡ 1 = ap (is_at w) at ∙ is_at-same w in
            let me_opened : opened (q / 64) ≡ opened w = ap opened at in
            omega (arith, was.1, was.2, was.3, none_opened, me, me_opened, bit_there (set words w 18446744073709551615) a (bit_and (get_or (set words w 18446744073709551615) a 0) (18446744073709551615 - (2 ^ (b + 1) - 2 ^ b))) q other, bit_here words w 18446744073709551615 q inside at, ones_bit (q % 64) place)
        | inr no_word ↦
            let first_at : 64 * w / 64 ≡ w = omega arith in
            let opened_one : opened w ≡ 1 = (empty_here w (64 * w) inside empty first_at).1 in
            let there : is_at w (q / 64) ≡ 0 = is_at-other w (q / 64) no_word in
            let before : bit_of (set words w 18446744073709551615) q ≡ bit_of words q = bit_there words w 18446744073709551615 q no_word in
            elim (cases_eq (q / 64) a) [
              | inl at ↦
                  let place : q % 64 < 64 = omega arith in
                  let b_place : b < 64 = omega (arith, is_b) in
                  let now_is : bit_of (set (set words w 18446744073709551615) a (bit_and (get_or (set words w 18446744073709551615) a 0) (18446744073709551615 - (2 ^ (b + 1) - 2 ^ b)))) q ≡ bit_at (get_or (set words w 18446744073709551615) a 0) (q % 64) - is_at b (q % 64) =
                  bit_here (set words w 18446744073709551615) a (bit_and (get_or (set words w 18446744073709551615) a 0) (18446744073709551615 - (2 ^ (b + 1) - 2 ^ b))) q above_inside at ∙ cleared (get_or (set words w 18446744073709551615) a 0) b (q % 64) place b_place in
                  let was = bit_was (set words w 18446744073709551615) a q above_inside at in
                  elim (cases_eq (q % 64) b) [
                    | inl unit ↦
                        let next_is : q + 1 ≡ w = omega (arith, at, unit, is_a, is_b, below) in
                        let me : is_at w (q + 1) ≡ 1 = ap (is_at w) next_is ∙ is_at-same w in
                        let me_opened : opened (q + 1) ≡ 1 = ap opened next_is ∙ opened_one in
                        let cut : is_at b (q % 64) ≡ 1 = ap (is_at b) unit ∙ is_at-same b in
                        let e = k.even q in
                        let f = k.few (q / 64) in
                        let g = bit_few q in
                        omega (arith, there, before, now_is, was, me, me_opened, cut, e, f, g)
                    | inr no_unit ↦
                        let below_is : is_at w (q + 1) ≡ 0 = is_at-other w (q + 1) (λ here. absurd (no_unit (omega (arith, here, is_b)))) in
                        omega (arith, there, before, now_is, was, below_is, is_at-other b (q % 64) no_unit, k.even q)
                  ]
              | inr other ↦
                  let below_is : is_at w (q + 1) ≡ 0 = is_at-other w (q + 1) (λ here. absurd (other (omega (arith, here, is_a)))) in
                  omega (arith, there, before, below_is, k.even q, bit_there (set words w 18446744073709551615) a (bit_and (get_or (set words w 18446744073709551615) a 0) (18446744073709551615 - (2 ^ (b + 1) - 2 ^ b))) q other)
            ]
      ];
    }

-- ---- the loop

pub shut_next : (n : ℕ) (held : ℕ → ℕ) (w a b : ℕ) (words : List ℕ)
    → 0 < w
    → w < word_count n
    → get_or words w 0 ≡ 0
    → a ≡ (w - 1) / 64
    → b ≡ (w - 1) % 64
    → IsShutFrom n held (w + 1) words
    → IsShutFrom n held w (set (set words w 18446744073709551615) a
    (bit_and (get_or (set words w 18446744073709551615) a 0)
    (18446744073709551615 - (2 ^ (b + 1) - 2 ^ b))))
shut_next n held w a b words below within empty is_a is_b shut =
    let opened = shut.0 in (
      (λ x. opened x - is_at w x),
      left_shut n held opened words shut.1 w a b below within empty is_a is_b,
      λ none_held x from more. elim (cases_eq x w) [
        | inl here ↦
            let me : is_at w x ≡ 1 = ap (is_at w) here ∙ is_at-same w in
            omega (arith, shut.1.few x, me)
        | inr other ↦ let was = shut.2 none_held x (omega (arith, from, other)) more in omega (arith, was)
      ],
    )

-- the same as the code has it
pub shut_here : (n : ℕ) (held : ℕ → ℕ) (w a b x mask : ℕ) (words : List ℕ)
    → 0 < w
    → w < length words
    → get_or words w 0 ≡ 0
    → a ≡ (w - 1) / 64
    → b ≡ (w - 1) % 64
    → mask ≡ 2 ^ (b + 2 ^ 0) - 2 ^ b
    → x ≡ get_or (set words w 18446744073709551615) a 0
    → IsShutFrom n held (w + 1) words
    → IsShutFrom n held w (set (set words w 18446744073709551615) a
    (bit_and x (18446744073709551615 - mask)))
shut_here n held w a b x mask words below within empty is_a is_b is_mask is_x shut =
    let there : w < word_count n = omega (arith, within, shut.1.count) in
    subst (λ m. IsShutFrom n held w (set (set words w 18446744073709551615) a (bit_and x (18446744073709551615 - m)))) (sym is_mask)
    (subst (λ y. IsShutFrom n held w (set (set words w 18446744073709551615) a (bit_and y (18446744073709551615 - (2 ^ (b + 1) - 2 ^ b))))) (sym is_x) (shut_next n held w a b words below there empty is_a is_b shut))

pub shut_kept : (n : ℕ) (held : ℕ → ℕ) (w : ℕ) (words : List ℕ)
    → w < word_count n
    → get_or words w 0 < 18446744073709551616
    → get_or words w 0 ≢ 0
    → IsShutFrom n held (w + 1) words
    → IsShutFrom n held w words
shut_kept n held w words within wide more_than shut =
    let opened = shut.0 in
    let k = shut.1 in
    let inside : w < length words = omega (arith, within, k.count) in (
      opened,
      k,
      λ none_held x from more. elim (cases_eq x w) [
        | inl here ↦ elim (cases_eq (opened x) 0) [
          | inl is ↦ is
          | inr open_is ↦
              let opened_one : opened x ≡ 1 = omega (arith, k.few x, open_is) in
              let all_clear : get_or words w 0 ≡ 0 = same_from_bits_below 64 (get_or words w 0) 0 wide (pow_pos 64) (λ j low.
              let at : (64 * w + j) / 64 ≡ w = omega (arith, low) in
              let place : (64 * w + j) % 64 ≡ j = omega (arith, low) in
              let bit = bit_was words w (64 * w + j) inside at in
              let same : bit_at (get_or words w 0) ((64 * w + j) % 64) ≡ bit_at (get_or words w 0) j = ap (bit_at (get_or words w 0)) place in
              let under : opened (64 * w + j + 1) ≡ 0 = shut.2 none_held (64 * w + j + 1) (omega arith) (omega arith) in
              let mine : opened ((64 * w + j) / 64) ≡ 1 = ap opened (at ∙ sym here) ∙ opened_one in
              omega (arith, bit, same, under, mine, none_held (64 * w + j), k.even (64 * w + j), bit_at-zero j)) in
              absurd (more_than all_clear)
        ]
        | inr other ↦ shut.2 none_held x (omega (arith, from, other)) more
      ],
    )

pub shut_kept_at : (n : ℕ) (held : ℕ → ℕ) (w x : ℕ) (words : List ℕ)
    → w < length words
    → x ≡ get_or words w 0
    → x < 18446744073709551616
    → x ≢ 0
    → IsShutFrom n held (w + 1) words
    → IsShutFrom n held w words
shut_kept_at n held w x words within is wide more_than shut = shut_kept n held w words (omega (arith, within, shut.1.count)) (omega (arith, is, wide)) (λ e. more_than (is ∙ e)) shut

pub shut_first : (n : ℕ) (held : ℕ → ℕ) (words : List ℕ)
    → IsLeft n held words
    → IsShutFrom n held (length words) words
shut_first n held words left = (left.0, left.1, λ none_held x from more. left.1.outside x (omega (arith, from, left.1.count)))

pub shut_all : (n : ℕ) (held : ℕ → ℕ) (from : ℕ) (words : List ℕ)
    → from ≤ 1
    → IsShutFrom n held from words
    → IsClosed n held words
shut_all n held from words few shut =
    let opened = shut.0 in
    let k = shut.1 in (
      shut.0,
      shut.1,
      λ none_held. (
        (λ q top.
            let under : opened (q + 1) ≡ 0 = shut.2 none_held (q + 1) (omega (arith, few)) (omega arith) in
            let mine : opened (q / 64) ≡ 1 = ap opened top ∙ k.root in
            omega (arith, under, mine, none_held q, k.even q)),
        (λ q more.
            let under : opened (q + 1) ≡ 0 = shut.2 none_held (q + 1) (omega (arith, few)) (omega arith) in
            let mine : opened (q / 64) ≡ 0 = shut.2 none_held (q / 64) (omega (arith, few, more)) more in
            omega (arith, under, mine, none_held q, k.even q)),
      ),
    )
