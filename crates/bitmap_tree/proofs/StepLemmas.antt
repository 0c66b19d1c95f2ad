-- How the single steps keep the rule.
use Rattle.std.proofs.lemmas.Bool.{cases_eq, cases_lt}
use Rattle.std.proofs.Common.{◌*◌, ◌+◌, ◌≡◌, ℕ, ◌-◌, ◌/◌, ◌%◌, ◌^◌, ◌<◌, ◌≤◌, eqb, bit_and, w64, List, [], ◌∷◌, length, get_or, set, refl, sym, ap, ap₂, subst, arith, ◌++◌, inl, inr, ◌∙◌}
use Rattle.std.specs.Int.{bit_at}
use Rattle.std.proofs.lemmas.Nat.Bits.{same_from_bits_below, bit_at_and, bit_at_not, bit_at-lt}
use Rattle.std.proofs.lemmas.Nat.{and_le_l, and_comm, and-not}
use mathlib.Core.Option.{some, none}
use lib.ListN.{get_elem?}
use prog.Atomic.{either}
use Rattle.atomic_table.specs.Table.{State, Act, keeps, Valid, carried_after, step, stepped, Allows, Enters, Splits, Joins}
use Rattle.atomic_table.proofs.Lists.{exchanged, set_else, at_snoc}
use Rattle.ghost_history.specs.Lists.{rest_of}
use Rattle.ghost_history.proofs.SumLemmas.{total-set, total-push, total-append}
use Rattle.ghost_history.proofs.DealLemmas.{cut-total, in_changed, in_cut, in_joined}
use Rattle.bitmap_tree.specs.declared.view.Run.{Run}
use Rattle.bitmap_tree.specs.declared.view.View.{View}
use Rattle.bitmap_tree.specs.declared.view.Size.{Size}
use Rattle.bitmap_tree.specs.Rule.{word_count, run, has}
use Rattle.bitmap_tree.specs.InnerRule.{times, times_in, permits_in, IsOwned, IsShared, IsKept}
use Rattle.bitmap_tree.specs.Layout.{Known}
use Rattle.bitmap_tree.specs.InnerSteps.{note, after, enters, begins, loads, claims, opens_word, clears, tells_apart, opens_whole, shuts_whole, cut_first, first_over, first_under, lower_first, upper_first, with_lower, only_upper, glued, glued_runs, AreNext, Changes, Fills, Opens, Shuts, Loses, without_first, only_first, without_permit, one_permit, joined, spent}
use Rattle.bitmap_tree.proofs.RuleLemmas.{bit_was, few_runs, runs_apart, unit_shut, found_full}
use Rattle.bitmap_tree.proofs.RuleLemmas as rule

-- the empty run that a seat begins with
has_none : (q : ℕ) → times q (run 0 0 ∷ []) ≡ 0
has_none q = omega arith

-- ---- permits

-- a new view
in_pushed : {V : Type 0} (P : V → Type 0) (views : List V) (w : V)
    → P w
    → ((j : ℕ) (u : V) → get_elem? views j ≡ some u → P u)
    → (j : ℕ) (u : V)
    → get_elem? (views ++ w ∷ []) j ≡ some u
    → P u
in_pushed P views w new others j u there = elim (at_snoc views w u j there) [
  | inl was ↦ others j u was
  | inr is ↦ subst P is new
]

-- a view is changed, and not its permits
shared_set : (n : Size) (s : State Run View)
    → IsShared n s
    → (words : List ℕ) (id : ℕ) (v w : View)
    → get_elem? s.views id ≡ some v
    → w.permits ≡ v.permits
    → (0 < n.permits → IsOwned w)
    → IsShared n (record { words = words; homes = s.homes; views = set s.views id w })
shared_set n s k words id v w me same own = record {
  permits = omega (arith, total-set permits_in s.views id v w me, k.permits, same);
  owned = λ has_permits. in_changed IsOwned s.views id w (own has_permits) (k.owned has_permits);
}

-- ---- a seat comes in, or looks

pub enters_step : (n : Size) (slots i : ℕ) (v : View)
    → Enters (IsKept n) slots i (λ found w. enters (step slots i 0 0 none) (v, []) found (w, []))
enters_step n slots i v s k homes small =
    let w : View = record { runs = run 0 0 ∷ []; trail = note i (get_or s.words i 0) (get_or s.words i 0) ∷ []; permits = 0 } in (
      w,
      (
        (
          k.0.0,
          record {
            count = k.0.1.count;
            root = k.0.1.root;
            few = k.0.1.few;
            outside = k.0.1.outside;
            bits = λ q. omega (arith, total-push (times_in q) s.views w, k.0.1.bits q, has_none q);
          },
        ),
        record {
          permits = omega (arith, total-push permits_in s.views w, k.1.permits);
          owned = λ has_permits. in_pushed IsOwned s.views w (λ none_is q. has_none q) (k.1.owned has_permits);
        },
      ),
      refl,
    )

-- a step that changes no word and no run
same_runs : (i old : ℕ) (runs : List Run) → Changes i old old runs runs
same_runs i old runs = record { here = λ q at. refl; there = λ q other. refl }

-- a load keeps the rule
looks : (n : Size) (s : State Run View)
    → IsKept n s
    → (id i found left : ℕ) (m : Known)
    → i < word_count n.dim
    → get_elem? s.views id ≡ some m.0
    → IsKept n (record {
      words = set s.words i (get_or s.words i 0);
      homes = s.homes;
      views = set
          s.views id (after m.0.runs i found left m).0;
    })
looks n s k id i found left m within me = (
  rule.changes n.dim k.0.0 s k.0.1 id i m.0 (after m.0.runs i found left m).0 within me (get_or s.words i 0) (same_runs i (get_or s.words i 0) m.0.runs),
  shared_set n s k.1 _ id m.0 (after m.0.runs i found left m).0 me refl (λ has_permits. k.1.owned has_permits id m.0 me),
)

pub begin_step : (n : Size) (slots id i : ℕ) (m : Known)
    → i < word_count n.dim
    → Allows (IsKept n) slots id m i (λ x. x) (begins (step slots i 0 0 none) m)
begin_step n slots id i m within s k homes me small =
    let w : View = record { runs = m.0.runs; trail = note i (get_or s.words i 0) (get_or s.words i 0) ∷ []; permits = m.0.permits } in (
      w,
      keeps,
      tt,
      (
        rule.changes n.dim k.0.0 s k.0.1 id i m.0 w within me (get_or s.words i 0) (same_runs i (get_or s.words i 0) m.0.runs),
        shared_set n s k.1 _ id m.0 w me refl (λ has_permits. k.1.owned has_permits id m.0 me),
      ),
      refl,
    )

pub load_step : (n : Size) (slots id i : ℕ) (m : Known)
    → i < word_count n.dim
    → Allows (IsKept n) slots id m i (λ x. x) (loads (step slots i 0 0 none) m)
load_step n slots id i m within s k homes me small =
    ((after m.0.runs i (get_or s.words i 0) (get_or s.words i 0) m).0, keeps, tt, looks n s k id i (get_or s.words i 0) (get_or s.words i 0) m within me, refl)

pub compare_step : (n : Size) (slots id i : ℕ) (m : Known)
    → i < word_count n.dim
    → Allows (IsKept n) slots id m i (λ x. x) (tells_apart (step slots i 0 0 none) m)
compare_step n slots id i m within s k homes me small = (
  (after m.0.runs i (get_or s.words i 0) (get_or s.words i 0) m).0,
  keeps,
  tt,
  looks n s k id i (get_or s.words i 0) (get_or s.words i 0) m within me,
  (refl, runs_apart n.dim k.0.0 s k.0.1 id m.0 me),
)

-- ---- a run is claimed, and given back

-- an exchange that keeps the rule where it is won
exchange_step : (n : Size) (slots id i old new : ℕ) (said : Run) (m : Known)
    → i < word_count n.dim
    → ((s : State Run View) → IsKept n s → get_elem? s.views id ≡ some m.0 → get_or s.words i 0
    ≡ old → IsKept n (record {
      words = set s.words i new;
      homes = s.homes;
      views = set s.views
          id (after (said ∷ rest_of m.0.runs) i (get_or s.words i 0) new m).0;
    }))
    → Allows (IsKept n) slots id m i (λ x. either (eqb x old) new x)
    (claims (step slots i old new (some said)) m)
exchange_step n slots id i old new said m within won s k homes me small =
    let found = get_or s.words i 0 in
    let G : ℕ → Type 0 = λ x. (w : View) × (a : Act Run) × Valid s.homes m.1 a × IsKept n (stepped s i x id m.1 w a) × claims (step slots i old new (some said)) m found (w, carried_after m.1 a) in
    exchanged found old new G
    (λ hit. (
      (after (said ∷ rest_of m.0.runs) i found new m).0,
      keeps,
      tt,
      won s k me hit,
      ((λ _. refl), λ miss. absurd (miss hit)),
    ))
    (λ miss. ((after m.0.runs i found found m).0, keeps, tt, looks n s k id i found found m within me, ((λ hit. absurd (miss hit)), λ _. refl)))

pub claim_step : (n : Size) (slots id i old new : ℕ) (said : Run) (m : Known)
    → i < word_count n.dim
    → (0 < n.permits → 0 < m.0.permits)
    → Changes i old new m.0.runs (said ∷ rest_of m.0.runs)
    → Allows (IsKept n) slots id m i (λ x. either (eqb x old) new x)
    (claims (step slots i old new (some said)) m)
claim_step n slots id i old new said m within may changes = exchange_step n slots id i old new said m within
    (λ s k me hit. (
      rule.changes n.dim k.0.0 s k.0.1 id i m.0 (after (said ∷ rest_of m.0.runs) i (get_or s.words i 0) new m).0 within me new (subst (λ x. Changes i x new m.0.runs (said ∷ rest_of m.0.runs)) (sym hit) changes),
      shared_set n s k.1 _ id m.0 (after (said ∷ rest_of m.0.runs) i (get_or s.words i 0) new m).0 me refl (λ has_permits none_is. absurd (omega (arith, may has_permits, none_is))),
    ))

pub shut_step : (n : Size) (slots id i : ℕ) (said : Run) (m : Known)
    → i < word_count n.dim
    → (0 < n.permits → 0 < m.0.permits)
    → Shuts i m.0.runs (said ∷ rest_of m.0.runs)
    → Allows (IsKept n) slots id m i (λ x. either (eqb x 0) 18446744073709551615 x)
    (claims (step slots i 0 18446744073709551615 (some said)) m)
shut_step n slots id i said m within may shuts = exchange_step n slots id i 0 18446744073709551615 said m within
    (λ s k me hit. (
      rule.shuts n.dim k.0.0 s k.0.1 id i m.0 (after (said ∷ rest_of m.0.runs) i (get_or s.words i 0) 18446744073709551615 m).0 within me hit shuts,
      shared_set n s k.1 _ id m.0 (after (said ∷ rest_of m.0.runs) i (get_or s.words i 0) 18446744073709551615 m).0 me refl (λ has_permits none_is. absurd (omega (arith, may has_permits, none_is))),
    ))

pub open_step : (n : Size) (slots id i new : ℕ) (said : Run) (m : Known)
    → i < word_count n.dim
    → Opens i new m.0.runs (said ∷ rest_of m.0.runs)
    → Allows (IsKept n) slots id m i (λ x. either (eqb x 18446744073709551615) new x)
    (opens_word (step slots i 18446744073709551615 new (some said)) m)
open_step n slots id i new said m within opens s k homes me small =
    let found = get_or s.words i 0 in
    let full : found ≡ 18446744073709551615 = found_full n.dim k.0.0 s k.0.1 id i m.0 m.0 within me small (unit_shut n.dim k.0.0 s k.0.1 id i m.0 m.0 within me opens.some opens.unit) in
    let G : ℕ → Type 0 = λ x. (w : View) × (a : Act Run) × Valid s.homes m.1 a × IsKept n (stepped s i x id m.1 w a) × opens_word (step slots i 18446744073709551615 new (some said)) m found (w, carried_after m.1 a) in
    exchanged found 18446744073709551615 new G
    (λ hit. (
      (after (said ∷ rest_of m.0.runs) i found new m).0,
      keeps,
      tt,
      (
        rule.opens n.dim k.0.0 s k.0.1 id i m.0 (after (said ∷ rest_of m.0.runs) i found new m).0 within me new opens,
        shared_set n s k.1 _ id m.0 (after (said ∷ rest_of m.0.runs) i found new m).0 me refl (λ has_permits none_is. absurd (omega (arith, opens.unit, k.1.owned has_permits id m.0 me none_is (i - 1)))),
      ),
      (full, refl),
    ))
    (λ miss. absurd (miss full))

-- a load by which the seat has the bits of a word instead of the unit over it
pub open_whole_step : (n : Size) (slots id i : ℕ) (m : Known)
    → i < word_count n.dim
    → Opens i 18446744073709551615 m.0.runs (first_under m.0.runs)
    → Allows (IsKept n) slots id m i (λ x. x) (opens_whole (step slots i 0 0 none) m)
open_whole_step n slots id i m within opens s k homes me small =
    let found = get_or s.words i 0 in
    let full : found ≡ 18446744073709551615 = found_full n.dim k.0.0 s k.0.1 id i m.0 m.0 within me small (unit_shut n.dim k.0.0 s k.0.1 id i m.0 m.0 within me opens.some opens.unit) in (
      (after (first_under m.0.runs) i found found m).0,
      keeps,
      tt,
      (
        rule.opens n.dim k.0.0 s k.0.1 id i m.0 (after (first_under m.0.runs) i found found m).0 within me found (subst (λ x. Opens i x m.0.runs (first_under m.0.runs)) (sym full) opens),
        shared_set n s k.1 _ id m.0 (after (first_under m.0.runs) i found found m).0 me refl (λ has_permits none_is. absurd (omega (arith, opens.unit, k.1.owned has_permits id m.0 me none_is (i - 1)))),
      ),
      refl,
    )

-- a load by which the seat has the unit over a word instead of its bits
pub shut_whole_step : (n : Size) (slots id i : ℕ) (m : Known)
    → i < word_count n.dim
    → (0 < n.permits → 0 < m.0.permits)
    → Fills i m.0.runs (first_over m.0.runs)
    → Allows (IsKept n) slots id m i (λ x. x) (shuts_whole (step slots i 0 0 none) m)
shut_whole_step n slots id i m within may fills s k homes me small =
    let found = get_or s.words i 0 in (
      (after (first_over m.0.runs) i found found m).0,
      keeps,
      tt,
      (
        rule.fills n.dim k.0.0 s k.0.1 id i m.0 (after (first_over m.0.runs) i found found m).0 within me fills,
        shared_set n s k.1 _ id m.0 (after (first_over m.0.runs) i found found m).0 me refl (λ has_permits none_is. absurd (omega (arith, may has_permits, none_is))),
      ),
      refl,
    )

-- the bits of a word that the mask has are those that the first run loses
clears_step : (n : Size) (slots id i : ℕ) (f : ℕ → ℕ) (operand : ℕ) (m : Known)
    → i < word_count n.dim
    → ((old : ℕ) → old < 18446744073709551616
    → ((q : ℕ) → q / 64 ≡ i → times q m.0.runs ≤ bit_at old (q % 64))
    → Changes i old (f old) m.0.runs (cut_first i m.0.runs))
    → ((q : ℕ) → times q (cut_first i m.0.runs) ≤ times q m.0.runs)
    → Allows (IsKept n) slots id m i f (clears (step slots i operand 0 none) m)
clears_step n slots id i f operand m within changes less s k homes me small =
    let found = get_or s.words i 0 in
    let inside : i < length s.words = omega (arith, k.0.1.count, within) in (
      (after (cut_first i m.0.runs) i found (found - operand) m).0,
      keeps,
      tt,
      (
        rule.changes n.dim k.0.0 s k.0.1 id i m.0 (after (cut_first i m.0.runs) i found (found - operand) m).0 within me (f found) (changes found small (λ q at. omega (arith, few_runs n.dim k.0.0 s k.0.1 id m.0 me q, bit_was s.words i q inside at))),
        shared_set n s k.1 _ id m.0 (after (cut_first i m.0.runs) i found (found - operand) m).0 me refl (λ has_permits none_is q. omega (arith, less q, k.1.owned has_permits id m.0 me none_is q)),
      ),
      (refl, λ q at. omega (arith, few_runs n.dim k.0.0 s k.0.1 id m.0 me q, bit_was s.words i q inside at)),
    )

-- Where a number has all bits of a mask, to take the mask away is to clear them.
takes_away : (mask old : ℕ)
    → mask < 18446744073709551616
    → old < 18446744073709551616
    → ((j : ℕ) → j < 64 → bit_at mask j ≤ bit_at old j)
    → (old + (18446744073709551616 - mask)) % 18446744073709551616
    ≡ bit_and old (18446744073709551615 - mask)
takes_away mask old wide small there =
    let low : bit_and mask old < 2 ^ 64 = omega (arith, and_le_l mask old, wide) in
    let all : bit_and mask old ≡ mask = same_from_bits_below 64 (bit_and mask old) mask low wide (λ j within. omega (arith, bit_at_and mask old j, there j within)) in
    let parts : bit_and (18446744073709551615 - mask) old + bit_and mask old ≡ old = and-not 64 mask old wide small in
    let turned : bit_and (18446744073709551615 - mask) old ≡ bit_and old (18446744073709551615 - mask) = and_comm (18446744073709551615 - mask) old in
    let x : ℕ = bit_and (18446744073709551615 - mask) old in
    let sum : old + (18446744073709551616 - mask) ≡ bit_and old (18446744073709551615 - mask) + 18446744073709551616 = omega (arith, parts, all, turned, wide) in
    let less : bit_and old (18446744073709551615 - mask) < 18446744073709551616 = omega (arith, parts, turned, small) in
    omega (arith, sum, less)

-- where a number has all bits of a mask, the mask is taken away bit by bit
pub minus_bits : (mask old j : ℕ)
    → mask < 18446744073709551616
    → old < 18446744073709551616
    → ((i : ℕ) → i < 64 → bit_at mask i ≤ bit_at old i)
    → j < 64
    → bit_at old j ≡ bit_at (old - mask) j + bit_at mask j
minus_bits mask old j wide small there within =
    let low : bit_and mask old < 2 ^ 64 = omega (arith, and_le_l mask old, wide) in
    let all : bit_and mask old ≡ mask = same_from_bits_below 64 (bit_and mask old) mask low wide (λ i below. omega (arith, bit_at_and mask old i, there i below)) in
    let parts : bit_and (18446744073709551615 - mask) old + bit_and mask old ≡ old = and-not 64 mask old wide small in
    let rest : old - mask ≡ bit_and (18446744073709551615 - mask) old = omega (arith, parts, all) in
    let bit : bit_at (old - mask) j ≡ bit_at (bit_and (18446744073709551615 - mask) old) j = ap (λ x. bit_at x j) rest in
    omega (arith, bit, bit_at_and (18446744073709551615 - mask) old j, bit_at_not w64 mask j wide within, bit_at-lt old j, bit_at-lt mask j, there j within)

-- the bits of a mask are given back
pub loses_step : (n : Size) (slots id i mask : ℕ) (m : Known)
    → i < word_count n.dim
    → mask < 18446744073709551616
    → Loses i mask m.0.runs
    → Allows (IsKept n) slots id m i (λ x. (x + (18446744073709551616 - mask)) %
    18446744073709551616) (clears (step slots i mask 0 none) m)
loses_step n slots id i mask m within wide loses = clears_step n slots id i (λ x. (x + (18446744073709551616 - mask)) % 18446744073709551616) mask m within (λ old small few. record {
  here = λ q at.
      let place : q % 64 < 64 = omega arith in
      let is = takes_away mask old wide small (λ j low.
      let word : (64 * i + j) / 64 ≡ i = omega (arith, low) in
      let there : (64 * i + j) % 64 ≡ j = omega (arith, low) in
      let has_bit : times (64 * i + j) m.0.runs ≤ bit_at old j = subst (λ x. times (64 * i + j) m.0.runs ≤ bit_at old x) there (few (64 * i + j) word) in
      let lost : times (64 * i + j) (cut_first i m.0.runs) + bit_at mask j ≡ times (64 * i + j) m.0.runs = subst (λ x. times (64 * i + j) (cut_first i m.0.runs) + bit_at mask x ≡ times (64 * i + j) m.0.runs) there (loses.here (64 * i + j) word) in
      omega (arith, has_bit, lost)) in
      let bit : bit_at ((old + (18446744073709551616 - mask)) % 18446744073709551616) (q % 64) ≡ bit_at (bit_and old (18446744073709551615 - mask)) (q % 64) = ap (λ x. bit_at x (q % 64)) is in
      omega (arith, bit, loses.here q at, few q at, bit_at_and old (18446744073709551615 - mask) (q % 64), bit_at_not w64 mask (q % 64) wide place, bit_at-lt old (q % 64), bit_at-lt mask (q % 64));
  there = loses.there;
}) (λ q. elim (cases_eq (q / 64) i) [ inl at ↦ omega (arith, loses.here q at) | inr other ↦ omega (arith, loses.there q other) ])

-- ---- seats are cut and joined

-- a view is cut in two, which have its places and its permits
cuts : (n : Size) (id : ℕ) (v left right : View)
    → ((q : ℕ) → times q left.runs + times q right.runs ≡ times q v.runs)
    → left.permits + right.permits ≡ v.permits
    → (0 < n.permits → IsOwned left)
    → (0 < n.permits → IsOwned right)
    → Splits (IsKept n) id v left right
cuts n id v left right places permits own_left own_right s k me = (
  (
    k.0.0,
    record {
      count = k.0.1.count;
      root = k.0.1.root;
      few = k.0.1.few;
      outside = k.0.1.outside;
      bits = λ q. omega (arith, total-push (times_in q) (set s.views id left) right, total-set (times_in q) s.views id v left me, places q, k.0.1.bits q);
    },
  ),
  record {
    permits = omega (arith, total-push permits_in (set s.views id left) right, total-set permits_in s.views id v left me, k.1.permits, permits);
    owned = λ has_permits. in_cut IsOwned s.views id left right (own_left has_permits) (own_right has_permits) (k.1.owned has_permits);
  },
)

-- two views become one, which has the places and the permits of both
joins : (n : Size) (id : ℕ) (v : View) (other : ℕ) (w both : View)
    → ((q : ℕ) → times q both.runs ≡ times q v.runs + times q w.runs)
    → both.permits ≡ v.permits + w.permits
    → Joins (IsKept n) id v other w both spent
joins n id v other w both places permits s k me differ them = (
  (
    k.0.0,
    record {
      count = k.0.1.count;
      root = k.0.1.root;
      few = k.0.1.few;
      outside = k.0.1.outside;
      bits = λ q. omega (arith, total-set (times_in q) s.views id v both me, total-set (times_in q) (set s.views id both) other w spent them, places q, k.0.1.bits q);
    },
  ),
  record {
    permits = omega (arith, total-set permits_in s.views id v both me, total-set permits_in (set s.views id both) other w spent them, k.1.permits, permits);
    owned = λ has_permits. in_joined IsOwned s.views id other both spent
        (λ none_is q. let a : v.permits ≡ 0 = omega (arith, none_is, permits) in let b : w.permits ≡ 0 = omega (arith, none_is, permits) in
        omega (arith, places q, k.1.owned has_permits id v me a q, k.1.owned has_permits other w (sym (set_else s.views id other both differ) ∙ them) b q))
        (λ none_is q. refl) (k.1.owned has_permits);
  },
)

pub deals : (n : Size) (id : ℕ) (v : View)
    → ((q : ℕ) → times q v.runs ≡ 0)
    → (0 < n.permits → 0 < v.permits)
    → Splits (IsKept n) id v (without_permit v) (one_permit v)
deals n id v nothing enough =
    cuts n id v (without_permit v) (one_permit v) (λ q. omega (arith, has_none q)) (omega arith)
    (λ has_permits none_is q. nothing q)
    (λ has_permits none_is q. has_none q)

pub cuts_first : (n : Size) (id : ℕ) (v : View)
    → (0 < n.permits → 1 < v.permits)
    → Splits (IsKept n) id v (without_first v) (only_first v)
cuts_first n id v enough =
    cuts n id v (without_first v) (only_first v) (λ q. cut-total (has q) v.runs) (omega arith)
    (λ has_permits none_is. absurd (omega (arith, enough has_permits, none_is)))
    (λ has_permits none_is. absurd (omega (arith, enough has_permits, none_is)))

pub merges : (n : Size) (id : ℕ) (v : View) (other : ℕ) (w : View)
    → Joins (IsKept n) id v other w (joined v w) spent
merges n id v other w = joins n id v other w (joined v w) (λ q. total-append (has q) v.runs w.runs) refl

-- a run has the places of its two parts
has_before : (q b L : ℕ) → q < b → has q (run b L) ≡ 0
has_before q b L less = omega (arith, less)

has_inside : (q b L : ℕ) → b ≤ q → q < b + L → has q (run b L) ≡ 1
has_inside q b L from below = omega (arith, from, below)

has_past : (q b L : ℕ) → b + L ≤ q → has q (run b L) ≡ 0
has_past q b L past = omega (arith, past)

has_parts : (q b L M : ℕ) → has q (run b L) + has q (run (b + L) M) ≡ has q (run b (L + M))
has_parts q b L M = elim (cases_lt q b) [
  | inl less ↦ ap₂ (λ x y. x + y) (has_before q b L less) (has_before q (b + L) M (omega (arith, less))) ∙ sym (has_before q b (L + M) less)
  | inr from ↦ elim (cases_lt q (b + L)) [
    | inl below ↦ ap₂ (λ x y. x + y) (has_inside q b L from below) (has_before q (b + L) M below) ∙ sym (has_inside q b (L + M) from (omega (arith, below)))
    | inr past ↦ elim (cases_lt q (b + L + M)) [
      | inl below ↦ ap₂ (λ x y. x + y) (has_past q b L past) (has_inside q (b + L) M past below) ∙ sym (has_inside q b (L + M) from (omega (arith, below)))
      | inr after_all ↦ ap₂ (λ x y. x + y) (has_past q b L past) (has_past q (b + L) M after_all) ∙ sym (has_past q b (L + M) (omega (arith, after_all)))
    ]
  ]
]

-- the halves of the first run have its places
halves-times : (q : ℕ) (runs : List Run)
    → times q (lower_first runs) + times q (upper_first runs) ≡ times q runs
halves-times q [] = refl
halves-times q (r ∷ rs) =
    let whole : r.len / 2 + (r.len - r.len / 2) ≡ r.len = omega arith in
    let parts : has q (run r.base (r.len / 2)) + has q (run (r.base + r.len / 2) (r.len - r.len / 2)) ≡ has q r = has_parts q r.base (r.len / 2) (r.len - r.len / 2) ∙ ap (λ L. has q (run r.base L)) whole in
    sum_halves (has q (run r.base (r.len / 2))) (has q (run (r.base + r.len / 2) (r.len - r.len / 2))) (has q r) (times q rs) parts
  where
    sum_halves : (a b c rest : ℕ) → a + b ≡ c → a + rest + (b + 0) ≡ c + rest
    sum_halves a b c rest parts = omega (arith, parts)

pub cuts_half : (n : Size) (id : ℕ) (v : View)
    → (0 < n.permits → 1 < v.permits)
    → Splits (IsKept n) id v (with_lower v) (only_upper v)
cuts_half n id v enough =
    cuts n id v (with_lower v) (only_upper v) (λ q. halves-times q v.runs) (omega arith)
    (λ has_permits none_is. absurd (omega (arith, enough has_permits, none_is)))
    (λ has_permits none_is. absurd (omega (arith, enough has_permits, none_is)))

-- two runs that are next to each other have the places of the one that they make
glued-times : (q : ℕ) (xs ys : List Run)
    → AreNext xs ys
    → times q (glued_runs xs ys) ≡ times q xs + times q ys
glued-times q [] ys near = absurd near
glued-times q (a ∷ rs) [] near = absurd near
glued-times q (a ∷ rs) (b ∷ bs) near =
    let next : has q (run (a.base + a.len) b.len) ≡ has q b = ap (λ x. has q (run x b.len)) (sym near) in
    let parts = has_parts q a.base a.len b.len in
    sum_parts (has q a) (has q b) (has q (run (a.base + a.len) b.len)) (has q (run a.base (a.len + b.len))) (times q rs) (times q bs) (times q (rs ++ bs)) next parts (total-append (has q) rs bs)
  where
    sum_parts : (a b c d r s t : ℕ) → c ≡ b → a + c ≡ d → t ≡ r + s → d + t ≡ a + r + (b + s)
    sum_parts a b c d r s t next parts all = omega (arith, next, parts, all)

pub glues : (n : Size) (id : ℕ) (v : View) (other : ℕ) (w : View)
    → AreNext v.runs w.runs
    → Joins (IsKept n) id v other w (glued v w) spent
glues n id v other w near = joins n id v other w (glued v w) (λ q. glued-times q v.runs w.runs near) refl
