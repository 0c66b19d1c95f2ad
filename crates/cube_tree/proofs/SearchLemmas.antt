-- Which nodes a search tries, and which nodes a refusal covers.
use Rattle.std.proofs.Common.{◌≡◌, ℕ, zero, suc, ◌+◌, ◌-◌, ◌*◌, ◌/◌, ◌%◌, ◌^◌, ◌<◌, ◌≤◌, ◌⊎◌, inl, inr, Option, Some, None, List, [], ◌∷◌, length, refl, sym, ◌∙◌, ap, subst, arith, suc-mul}
use Rattle.std.specs.Prelude.{All, Any, nat_eq}
use Rattle.std.proofs.lemmas.Bool.{cases_eq, cases_lt}
use Rattle.std.proofs.lemmas.Nat.{pow-add, pow_pos, shr_split, mod_below, mul-le, div-mul-add}
use Rattle.std.proofs.lemmas.List.Elements.{All-nil, All-cons, All-head, All-tail, All-weaker}
use Rattle.std.proofs.Math.Nat.{mul-le-mul_right}
use Rattle.cube_shape.specs.declared.node.Node.{Node}
use Rattle.cube_shape.specs.Node.{IsInCube, OnPath}
use Rattle.status_word.specs.Word.{IsOccupied}
use Rattle.cube_shape.proofs.PathLemmas.{OnPath-le, level_difference}
use Rattle.cube_shape.proofs.RegionLemmas.{IsNodeOf-level}
use Rattle.cube_core.specs.Held.{region_at}
use Rattle.cube_core.proofs.RunningLemmas.{region_named}
use Rattle.tree_steps.specs.declared.why.Why.{Why}
use Rattle.tree_steps.specs.declared.why.Why.TheVariants.{InUse, Lost, Under}
use Rattle.tree_steps.specs.declared.view.Entry.{Entry}
use Rattle.tree_steps.specs.declared.view.Peek.{Peek}
use Rattle.tree_steps.specs.Steps.{with_peeks}
use Rattle.cube_tree.specs.declared.refusal.Refusal.{Refusal}
use Rattle.cube_tree.specs.declared.handles.Cube.{Cube}
use Rattle.cube_tree.specs.declared.handles.Subcube.{Subcube}
use Rattle.cube_tree.specs.declared.handles.TreeStation.{TreeStation}
use Rattle.cube_tree.specs.Handles.{cube_dim, station_entry, subcube_entry, held_node, IsRefusedTry, TakesNode}
use Rattle.cube_tree.specs.Tries.{counted, no_refusal, refusal_sum, refusals_in, added}
use Rattle.cube_tree.specs.Search.{RefusedTry, StandsFor, IsPassedFor, IsSeenOccupied, AreRefused, Searches, TakesNext, IsRefusedEach}
use Rattle.tree_steps.specs.Answer.{ancestor_of}
use Rattle.cube_tree.specs.Hint.{hint_of, hint_with, hint_after_refusal, hint_after, IsAbove, IsHintAbove, PeeksAtHint, Remembers, RemembersRefused, RemembersTaken}
use Rattle.cube_tree.specs.InnerSearch.{NamesAncestor, IsUnder, IsNodeAfter, Begins, counts_of}
use Rattle.cube_tree.proofs.TryLemmas.{on_level, sum_counted}
use Rattle.cube_tree.proofs.RefusalLemmas.{no_events, more_events}

-- ---- nodes of one level under one ancestor

-- the level of a node that is not below level j
level_of : (a j : ℕ) → 0 < a → a < 2 * 2 ^ j → (i : ℕ) × (2 ^ i ≤ a) × (a < 2 * 2 ^ i)
level_of a j positive below =
    let twice : 2 ^ (1 + j) ≡ 2 * 2 ^ j = pow-add 2 1 j in
    let order : j + 1 ≡ 1 + j = omega arith in
    let same : 2 ^ (j + 1) ≡ 2 ^ (1 + j) = ap (λ e. 2 ^ e) order in
    let level = IsNodeOf-level j a (region_at j a) (region_named j a (positive, omega (arith, twice, same, below))) in
    (j - (region_at j a).dim, level.0, level.1)

-- the steps up from a node of level j to an ancestor
steps_up : (a v j : ℕ)
    → 2 ^ j ≤ v
    → v < 2 * 2 ^ j
    → (on : OnPath a v)
    → (i : ℕ) × (a < 2 * 2 ^ i) × (j ≡ i + on.1.0)
steps_up a v j low high on =
    let le = OnPath-le a v on in
    let level = level_of a j on.0 (omega (arith, le, high)) in
    (level.0, level.2, level_difference a v level.0 j level.1 level.2 low high on)

-- the number of steps is the same for each node of the level
same_steps : (a v w j : ℕ)
    → 2 ^ j ≤ v
    → v < 2 * 2 ^ j
    → 2 ^ j ≤ w
    → w < 2 * 2 ^ j
    → (on_v : OnPath a v)
    → (on_w : OnPath a w)
    → on_v.1.0 ≡ on_w.1.0
same_steps a v w j v_low v_high w_low w_high on_v on_w =
    let le = OnPath-le a v on_v in
    let level = level_of a j on_v.0 (omega (arith, le, v_high)) in
    let first = level_difference a v level.0 j level.1 level.2 v_low v_high on_v in
    let second = level_difference a w level.0 j level.1 level.2 w_low w_high on_w in
    omega (arith, first, second)

-- the nodes of the level under the ancestor: the first and the last
under_low : (a v s : ℕ) → v / 2 ^ s ≡ a → a * 2 ^ s ≤ v
under_low a v s is =
    let split : a * 2 ^ s + v % 2 ^ s ≡ v = ap (λ x. x * 2 ^ s + v % 2 ^ s) (sym is) ∙ shr_split v s in omega (arith, split)

under_high : (a v s : ℕ) → v / 2 ^ s ≡ a → v < (a + 1) * 2 ^ s
under_high a v s is =
    let split : a * 2 ^ s + v % 2 ^ s ≡ v = ap (λ x. x * 2 ^ s + v % 2 ^ s) (sym is) ∙ shr_split v s in
    let rest : v % 2 ^ s < 2 ^ s = mod_below v (2 ^ s) (pow_pos s) in
    omega (arith, split, rest)

under_is : (a v w s : ℕ) → v / 2 ^ s ≡ a → v < w → w < (a + 1) * 2 ^ s → w / 2 ^ s ≡ a
under_is a v w s is later before =
    let start = under_low a v s is in
    let split : w ≡ a * 2 ^ s + (w - a * 2 ^ s) = omega (arith, start, later) in
    ap (λ x. x / 2 ^ s) split ∙ div-mul-add a (2 ^ s) (w - a * 2 ^ s) (omega (arith, start, later, before))

-- the steps up, from the logarithms of both nodes
pub ancestor_steps : (a v i j : ℕ)
    → 2 ^ i ≤ a
    → a < 2 * 2 ^ i
    → 2 ^ j ≤ v
    → v < 2 * 2 ^ j
    → OnPath a v
    → (i ≤ j) × (v / 2 ^ (j - i) ≡ a) × ((a + 1) * 2 ^ (j - i) ≤ 2 * 2 ^ j)
ancestor_steps a v i j a_low a_high v_low v_high on =
    let level : j ≡ i + on.1.0 = level_difference a v i j a_low a_high v_low v_high on in
    let steps : j - i ≡ on.1.0 = omega (arith, level) in
    let back : j ≡ i + (j - i) = omega (arith, level) in
    let wide : (a + 1) * 2 ^ (j - i) ≤ 2 * 2 ^ i * 2 ^ (j - i) = mul-le (a + 1) (2 ^ (j - i)) (2 * 2 ^ i) (2 ^ (j - i)) (omega (arith, a_high)) (omega arith) in
    let scaled : 2 ^ (i + (j - i)) ≡ 2 ^ i * 2 ^ (j - i) = pow-add 2 i (j - i) in
    let same : 2 ^ j ≡ 2 ^ (i + (j - i)) = ap (λ e. 2 ^ e) back in
    (omega (arith, level), ap (λ k. v / 2 ^ k) steps ∙ on.1.1, omega (arith, wide, scaled, same))

-- ---- the node that is tried next

pub is_onward : (why : Why) (v next : ℕ) → IsNodeAfter why v next → v < next
is_onward InUse v next is = omega (arith, is)
is_onward Lost v next is = omega (arith, is)
is_onward (Under at) v next (s, is, end) = let high = under_high at.0 v s is in omega (arith, high, end)

-- it is on the level, or the level has ended
is_within : (why : Why) (v next j : ℕ)
    → 2 ^ j ≤ v
    → v < 2 * 2 ^ j
    → IsNodeAfter why v next
    → NamesAncestor why v
    → next ≤ 2 * 2 ^ j
is_within InUse v next j low high is names = omega (arith, is, high)
is_within Lost v next j low high is names = omega (arith, is, high)
is_within (Under at) v next j low high (s, is, end) names =
    let up = steps_up at.0 v j low high (names.0.0, (s, is)) in
    let few = up.1 in
    let wide : (at.0 + 1) * 2 ^ s ≤ 2 * 2 ^ up.0 * 2 ^ s = mul-le (at.0 + 1) (2 ^ s) (2 * 2 ^ up.0) (2 ^ s) (omega (arith, few)) (omega arith) in
    let scaled : 2 ^ (up.0 + s) ≡ 2 ^ up.0 * 2 ^ s = pow-add 2 up.0 s in
    let same : 2 ^ j ≡ 2 ^ (up.0 + s) = ap (λ e. 2 ^ e) up.2 in
    omega (arith, end, wide, scaled, same)

-- the refusal covers the nodes between
pub is_between : (why : Why) (v w next : ℕ)
    → IsNodeAfter why v next
    → NamesAncestor why v
    → v < w
    → w < next
    → IsUnder why w
is_between InUse v w next is names later before = absurd (omega (arith, is, later, before))
is_between Lost v w next is names later before = absurd (omega (arith, is, later, before))
is_between (Under at) v w next (s, is, end) names later before = (names.0.0, (s, under_is at.0 v w s is later (omega (arith, end, before))))

-- and none from there on
is_beyond : (why : Why) (v w next j : ℕ)
    → 2 ^ j ≤ v
    → v < 2 * 2 ^ j
    → IsNodeAfter why v next
    → NamesAncestor why v
    → next ≤ w
    → w < 2 * 2 ^ j
    → IsUnder why w
    → ⊥
is_beyond InUse v w next j low high is names from below under = absurd under
is_beyond Lost v w next j low high is names from below under = absurd under
is_beyond (Under at) v w next j low high (s, is, end) names from below on =
    let onward = under_high at.0 v s is in
    let same : s ≡ on.1.0 = same_steps at.0 v w j low high (omega (arith, low, onward, end, from)) below (names.0.0, (s, is)) on in
    let before = under_high at.0 w on.1.0 on.1.1 in
    let product : (at.0 + 1) * 2 ^ s ≡ (at.0 + 1) * 2 ^ on.1.0 = ap (λ e. (at.0 + 1) * 2 ^ e) same in
    omega (arith, from, end, before, product)

-- ---- lists of tries and of peeks

both_all : {X : Type 0} (P Q R : X → Type 0) (xs : List X)
    → ((x : X) → P x → Q x → R x)
    → All P xs
    → All Q xs
    → All R xs
both_all P Q R xs both ps qs k d within = both _ (ps k d within) (qs k d within)

any_first : {X : Type 0} (P : X → Type 0) (x : X) (xs : List X) → P x → Any P (x ∷ xs)
any_first P x xs has = (0, x, omega arith, refl, has)

any_later : {X : Type 0} (P : X → Type 0) (x : X) (xs : List X) → Any P xs → Any P (x ∷ xs)
any_later P x xs (i, y, within, is, has) = (suc i, y, omega (arith, within), is, has)

any_none : {X : Type 0} (P : X → Type 0) → Any P [] → ⊥
any_none P (i, x, within, is, has) = omega (arith, within)

any_single : {X : Type 0} (P : X → Type 0) (x : X) → Any P (x ∷ []) → P x
any_single P x (zero, y, within, is, has) = subst P (sym is) has
any_single P x (suc i, y, within, is, has) = absurd (omega (arith, within))

-- ---- where a search begins

-- the first node of a level
module _ (j first : ℕ) (is : first ≡ 2 ^ j) where
  first_low : 2 ^ j ≤ first
  first_low = omega (arith, is)

  first_high : first < 2 * 2 ^ j
  first_high = let some = pow_pos j in omega (arith, is, some)

  -- an ancestor of it is a node of the machine
  pub ancestor_in_cube : (n a : ℕ) → j ≤ n → OnPath a first × (a < first) → IsInCube n a
  ancestor_in_cube n a le above =
      let level = (on_level n j first le first_low first_high).0 in (above.0.0, omega (arith, level.1, above.1))

  -- a search begins there without a hint
  pub begins_first : (had : Option ℕ) (e : Entry)
      → (IsHintAbove had first → ⊥)
      → Begins j first had had e e
  begins_first had e not_above = record {
    peeks = [];
    few = omega arith;
    entry = refl;
    low = first_low;
    high = omega (arith, first_high);
    each = λ v low before. absurd (omega (arith, low, before, is));
    beyond = λ v from high over. any_none (λ (g : Peek). OnPath g.node v × IsOccupied g.word) over;
    peeked = (λ above. not_above (subst (IsHintAbove had) (sym is) above), refl);
  }

  -- after one peek
  module _ (a word : ℕ) (had : Option ℕ) (old new : Entry)
      (noted : new ≡ with_peeks (record { node = a; word = word } ∷ []) old) (here : had ≡ Some a)
      (above : IsAbove a first) where
    found : (v : ℕ)
        → IsSeenOccupied v (record { node = a; word = word } ∷ [])
        → OnPath a v × IsOccupied word
    found v over = any_single (λ (g : Peek). OnPath g.node v × IsOccupied g.word) (record { node = a; word = word }) over

    had_above : IsHintAbove had (2 ^ j)
    had_above = subst (λ hint. IsHintAbove hint (2 ^ j)) (sym here) (subst (IsAbove a) is above)

    -- if it did not find its node occupied, the search begins at the first node too
    pub begins_free : (kept : Option ℕ)
        → (IsOccupied word → ⊥)
        → kept ≡ None
        → Begins j first had kept old new
    begins_free kept free forgotten = record {
      peeks = record { node = a; word = word } ∷ [];
      few = omega arith;
      entry = noted;
      low = first_low;
      high = omega (arith, first_high);
      each = λ v low before. absurd (omega (arith, low, before, is));
      beyond = λ v from high over. free (found v over).1;
      peeked = (had_above, here, λ occupied. absurd (free occupied), λ _. forgotten);
    }

    -- after a peek that found an ancestor occupied, it begins after the nodes under this ancestor
    pub begins_after : (at : Node) (next : ℕ) (kept : Option ℕ)
        → at.0 ≡ a
        → IsOccupied word
        → kept ≡ Some a
        → NamesAncestor (Under at) first
        → IsNodeAfter (Under at) first next
        → Begins j next had kept old new
    begins_after at next kept same occupied still names after = record {
      peeks = record { node = a; word = word } ∷ [];
      few = omega arith;
      entry = noted;
      low = let onward = is_onward (Under at) first next after in omega (arith, onward, is);
      high = is_within (Under at) first next j first_low first_high after names;
      each = λ v low before. any_first (λ (g : Peek). OnPath g.node v × IsOccupied g.word) (record { node = a; word = word }) [] (subst (λ x. OnPath x v) same (over v low before), occupied);
      beyond = λ v from high over_it. is_beyond (Under at) first v next j first_low first_high after names from high (subst (λ x. OnPath x v) (sym same) (found v over_it).0);
      peeked = (had_above, here, λ _. still ∙ sym here, λ free. absurd (free occupied));
    }
      where
        over : (v : ℕ) → 2 ^ j ≤ v → v < next → OnPath at.0 v
        over v low before = elim (cases_eq first v) [
          | inl here ↦ subst (OnPath at.0) here names.0
          | inr other ↦ is_between (Under at) first v next after names (omega (arith, low, other, is)) before
        ]

-- ---- a search

-- the refusal covers no node of the level from `end` on
abbrev pub LeavesFrom : ℕ → ℕ → RefusedTry → Type 0
LeavesFrom j end t = (v : ℕ) → end ≤ v → v < 2 * 2 ^ j → StandsFor v t → ⊥

-- the node that was tried is on the level, and before `end`
abbrev IsBefore : ℕ → ℕ → RefusedTry → Type 0
IsBefore j end t = (2 ^ j ≤ t.node) × (t.node < end)

-- a search that has reached node `end`
pub record IsSearch (n j end : ℕ) (refusal : Refusal) (had now : Option ℕ)
    (old new : Entry) : Type 0 where
  pub peeks : List Peek
  pub tries : List RefusedTry
  pub searches : Searches n j end peeks tries old new
  pub leaves : All (LeavesFrom j end) tries
  pub beyond : (v : ℕ) → end ≤ v → v < 2 * 2 ^ j → IsSeenOccupied v peeks → ⊥
  pub counts : refusal ≡ counts_of tries
  pub kept : Option ℕ
  pub peeked : PeeksAtHint (2 ^ j) had peeks kept
  pub after : now ≡ hint_after (2 ^ j) kept tries
  pub low : 2 ^ j ≤ end
  pub high : end ≤ 2 * 2 ^ j

pub search_begun : (n j start : ℕ) (had now : Option ℕ) (old new : Entry)
    → Begins j start had now old new
    → IsSearch n j start no_refusal had now old new
search_begun n j start had now old new begins = record {
  peeks = begins.peeks;
  tries = [];
  searches = record {
    one = begins.few;
    refused = begins.entry;
    level = All-nil (IsBefore j start);
    beside = All-nil (λ (t : RefusedTry). IsSeenOccupied t.node begins.peeks → ⊥);
    each = λ v low before. inr (begins.each v low before);
  };
  leaves = All-nil (LeavesFrom j start);
  beyond = begins.beyond;
  counts = refl;
  kept = now;
  peeked = begins.peeked;
  after = refl;
  low = begins.low;
  high = begins.high;
}

-- no refusal covers the next node
passed_for : {n j v : ℕ} {r : Refusal} {was now : Option ℕ} {old new : Entry}
    → (had : IsSearch n j v r was now old new)
    → v < 2 * 2 ^ j
    → All (IsPassedFor v) had.tries
passed_for {j = j} {v = v} had below =
    both_all (IsBefore j v) (LeavesFrom j v) (IsPassedFor v) had.tries (λ t before leaves. (before.1, leaves v (omega arith) below)) had.searches.level had.leaves

-- one try more
pub search_more : {n j v next : ℕ} {r s : Refusal} {was then now : Option ℕ}
    {old between new : Entry} {why : Why}
    → IsSearch n j v r was then old between
    → v < 2 * 2 ^ j
    → IsRefusedTry n v between new why
    → s ≡ counted why r
    → IsNodeAfter why v next
    → now ≡ hint_after_refusal (nat_eq v (2 ^ j)) (ancestor_of why) then
    → IsSearch n j next s was now old new
search_more {j = j} {v = v} {next = next} {between = between} {why = why} had below refused counts after remembers = record {
  peeks = had.peeks;
  tries = own ∷ had.tries;
  searches = record {
    one = had.searches.one;
    refused = (between, had.searches.refused, refused, passed_for had below);
    level = All-cons (IsBefore j next) own had.tries (had.low, onward)
        (All-weaker (IsBefore j v) (IsBefore j next) (λ t before. (before.0, later t before.1)) had.tries had.searches.level);
    beside = All-cons (λ (t : RefusedTry). IsSeenOccupied t.node had.peeks → ⊥) own had.tries (had.beyond v (omega arith) below) had.searches.beside;
    each = each;
  };
  beyond = λ w from high. had.beyond w (omega (arith, from, onward)) high;
  leaves = All-cons (LeavesFrom j next) own had.tries own_leaves
      (All-weaker (LeavesFrom j v) (LeavesFrom j next) (λ t leaves w from. leaves w (omega (arith, from, onward))) had.tries had.leaves);
  counts = counts ∙ ap (counted why) had.counts;
  kept = had.kept;
  peeked = had.peeked;
  after = remembers ∙ ap (hint_after_refusal (nat_eq v (2 ^ j)) (ancestor_of why)) had.after;
  low = let low = had.low in omega (arith, low, onward);
  high = is_within why v next j had.low below after refused.names;
}
  where
    own : RefusedTry
    own = record { node = v; why = why }

    onward : v < next
    onward = is_onward why v next after

    later : (t : RefusedTry) → t.node < v → t.node < next
    later t before = omega (arith, before, onward)

    own_stands : (w : ℕ)
        → StandsFor w own
        → Any (StandsFor w) (own ∷ had.tries) ⊎ IsSeenOccupied w had.peeks
    own_stands w stands = inl (any_first (StandsFor w) own had.tries stands)

    each : (w : ℕ)
        → 2 ^ j ≤ w
        → w < next
        → Any (StandsFor w) (own ∷ had.tries) ⊎ IsSeenOccupied w had.peeks
    each w low before = elim (cases_lt w v) [
      | inl less ↦ elim (had.searches.each w low less) [
        | inl earlier ↦ inl (any_later (StandsFor w) own had.tries earlier)
        | inr over ↦ inr over
      ]
      | inr from ↦ elim (cases_eq v w) [
        | inl same ↦ own_stands w (inl same)
        | inr other ↦ own_stands w (inr (is_between why v w next after refused.names (omega (arith, from, other)) before))
      ]
    ]

    own_leaves : LeavesFrom j next own
    own_leaves w from high stands = elim stands [
      | inl same ↦ omega (arith, same, from, onward)
      | inr under ↦ is_beyond why v w next j had.low below after refused.names from high under
    ]

-- ---- the number of tries, and their counts

few_tries : (n j end : ℕ) (tries : List RefusedTry) (old new : Entry)
    → 2 ^ j ≤ end
    → All (IsBefore j end) tries
    → AreRefused n tries old new
    → length tries + 2 ^ j ≤ end
few_tries n j end [] old new le level refused = omega (arith, le)
few_tries n j end (t ∷ tries) old new le level (between, earlier_tries, refused, passed) =
    let own = All-head (IsBefore j end) t tries level in
    let earlier = few_tries n j t.node tries old between own.0
    (both_all (IsBefore j end) (IsPassedFor t.node) (IsBefore j t.node) tries (λ u before later. (before.0, later.0)) (All-tail (IsBefore j end) t tries level) passed)
    earlier_tries in
    let last = own.1 in
    omega (arith, earlier, last)

sum_of : (tries : List RefusedTry) → refusal_sum (counts_of tries) ≡ length tries
sum_of [] = refl
sum_of (t ∷ tries) = let more = sum_counted t.why (counts_of tries) in let earlier = sum_of tries in omega (arith, more, earlier)

events_of : (n : ℕ) (tries : List RefusedTry) (old new : Entry)
    → AreRefused n tries old new
    → refusals_in new.trail ≡ added (counts_of tries) (refusals_in old.trail)
events_of n [] old new refused = no_events old new no_refusal refused refl
events_of n (t ∷ tries) old new (between, earlier, refused, passed) =
    more_events n t.node old between new t.why (counts_of tries) (counts_of (t ∷ tries)) (events_of n tries old between earlier) refused refl

-- each try adds at most this many events
bound_of : (n j : ℕ) (tries : List RefusedTry) (old new : Entry)
    → j ≤ n
    → All (IsBefore j (2 * 2 ^ j)) tries
    → AreRefused n tries old new
    → length new.trail ≤ length old.trail + length tries * (3 + 7 * j)
bound_of n j [] old new le level refused = let same = ap (λ (e : Entry). length e.trail) refused in omega (arith, same)
bound_of n j (t ∷ tries) old new le level (between, earlier, refused, passed) =
    let own = All-head (IsBefore j (2 * 2 ^ j)) t tries level in
    let before = bound_of n j tries old between le (All-tail (IsBefore j (2 * 2 ^ j)) t tries level) earlier in
    let each : length new.trail ≤ length between.trail + (3 + 7 * j) = subst (λ d. length new.trail ≤ length between.trail + (3 + 7 * d)) (on_level n j t.node le own.0 own.1).1 refused.bound in
    let sum = suc-mul (length tries) (3 + 7 * j) in
    omega (arith, before, each, sum)

-- ---- the end of a search

pub refused_each : (n j end : ℕ) (r : Refusal) (was now : Option ℕ) (old new : Entry)
    → j ≤ n
    → end ≡ 2 * 2 ^ j
    → IsSearch n j end r was now old new
    → IsRefusedEach n j old new r
refused_each n j end r was now old new le is had = record {
  peeks = whole.peeks;
  tries = whole.tries;
  searches = whole.searches;
  few = let count = few_tries n j (2 * 2 ^ j) whole.tries first new whole.low whole.searches.level whole.searches.refused in omega (arith, count);
  sum = ap refusal_sum whole.counts ∙ sum_of whole.tries;
  events = events_of n whole.tries first new whole.searches.refused ∙ ap (λ c. added c (refusals_in old.trail)) (sym whole.counts);
  bound = bound_of n j whole.tries first new le whole.searches.level whole.searches.refused;
}
  where
    whole : IsSearch n j (2 * 2 ^ j) r was now old new
    whole = subst (λ e. IsSearch n j e r was now old new) is had

    first : Entry
    first = with_peeks whole.peeks old

pub takes_next : (cube : Cube) (j node : ℕ) (r : Refusal) (was now : Option ℕ) (old between : Entry)
    (subcube : Subcube)
    → j ≤ cube_dim cube
    → node < 2 * 2 ^ j
    → IsSearch (cube_dim cube) j node r was now old between
    → TakesNode cube node between subcube
    → TakesNext cube j old subcube
takes_next cube j node r was now old between subcube le below had_node taken_node = record {
  peeks = had.peeks;
  tries = had.tries;
  between = between;
  searches = had.searches;
  order = passed_for had high;
  beside = had.beyond v (omega arith) high;
  low = had.low;
  high = high;
  taken = taken;
  bound =
      let count = few_tries (cube_dim cube) j v had.tries (with_peeks had.peeks old) between had.low had.searches.level had.searches.refused in
      let earlier : length between.trail ≤ length old.trail + length had.tries * (3 + 7 * j) = bound_of (cube_dim cube) j had.tries (with_peeks had.peeks old) between le
      (All-weaker (IsBefore j v) (IsBefore j (2 * 2 ^ j)) (λ t before. (before.0, later t before.1)) had.tries had.searches.level) had.searches.refused in
      let last : length (subcube_entry subcube).trail ≤ length between.trail + (3 + 7 * j) = subst (λ d. length (subcube_entry subcube).trail ≤ length between.trail + (3 + 7 * d)) (on_level (cube_dim cube) j v le had.low high).1 taken.bound in
      let sum = suc-mul (length had.tries) (3 + 7 * j) in
      let all : suc (length had.tries) * (3 + 7 * j) ≤ 2 ^ j * (3 + 7 * j) = mul-le-mul_right (3 + 7 * j) (omega (arith, count, high)) in
      omega (arith, earlier, last, sum, all);
}
  where
    v : ℕ
    v = held_node subcube

    had : IsSearch (cube_dim cube) j v r was now old between
    had = subst (λ x. IsSearch (cube_dim cube) j x r was now old between) (sym taken_node.node_is) had_node

    taken : TakesNode cube v between subcube
    taken = subst (λ x. TakesNode cube x between subcube) (sym taken_node.node_is) taken_node

    high : v < 2 * 2 ^ j
    high = subst (λ x. x < 2 * 2 ^ j) (sym taken_node.node_is) below

    later : (t : RefusedTry) → t.node < v → t.node < 2 * 2 ^ j
    later t before = omega (arith, before, high)

-- the hint after it
pub remembers : {n j end : ℕ} {r : Refusal} {was now : Option ℕ} {old new : Entry}
    → IsSearch n j end r was now old new
    → Remembers n j end was now old new
remembers had = record {
  peeks = had.peeks;
  tries = had.tries;
  searches = had.searches;
  kept = had.kept;
  peeked = had.peeked;
  after = had.after;
}

pub remembers_refused : (n j end : ℕ) (r : Refusal) (old new : TreeStation)
    → end ≡ 2 * 2 ^ j
    → IsSearch n j end r (hint_of old) (hint_of new) (station_entry old) (station_entry new)
    → RemembersRefused n j old new
remembers_refused n j end r old new is had =
    subst (λ e. Remembers n j e (hint_of old) (hint_of new) (station_entry old) (station_entry new)) is (remembers had)

pub remembers_taken : (cube : Cube) (j node : ℕ) (r : Refusal) (old between : TreeStation)
    (subcube : Subcube)
    → IsSearch (cube_dim cube) j node r (hint_of old) (hint_of between) (station_entry old)
    (station_entry between)
    → TakesNode cube node (station_entry between) subcube
    → hint_with subcube ≡ hint_of between
    → RemembersTaken cube j old subcube
remembers_taken cube j node r old between subcube had taken same = record {
  between = station_entry between;
  search = subst (λ v. Remembers (cube_dim cube) j v (hint_of old) (hint_with subcube) (station_entry old) (station_entry between)) (sym taken.node_is)
      (subst (λ now. Remembers (cube_dim cube) j node (hint_of old) now (station_entry old) (station_entry between)) (sym same) (remembers had));
  taken = subst (λ v. TakesNode cube v (station_entry between) subcube) (sym taken.node_is) taken;
}

-- there are as many refusals as tries, and so at most as many as the level has nodes
pub search_sum : {n j end : ℕ} {r : Refusal} {was now : Option ℕ} {old new : Entry}
    → IsSearch n j end r was now old new
    → refusal_sum r + 2 ^ j ≤ end
search_sum {n = n} {j = j} {end = end} {old = old} {new = new} had =
    let count = few_tries n j end had.tries (with_peeks had.peeks old) new had.low had.searches.level had.searches.refused in
    let same = ap refusal_sum had.counts ∙ sum_of had.tries in
    omega (arith, count, same)
