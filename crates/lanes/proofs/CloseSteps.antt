-- Each step of the closer keeps the rule.
use Rattle.std.proofs.Common.{◌≡◌, ℕ, zero, suc, ◌+◌, ◌-◌, ◌%◌, ◌^◌, ◌<◌, Option, Some, None, List, [], ◌∷◌, ◌++◌, length, length-append, get_or, set, map, sym, refl, ap, ◌∙◌, subst, arith}
use Rattle.std.specs.Prelude.{min, replicate}
use Rattle.std.specs.List.{sum}
use Rattle.std.proofs.lemmas.List.Sums.{sum_by_push}
use Rattle.std.proofs.lemmas.List.{append-nil}
use mathlib.Core.Option.{none}
use Rattle.atomic_table.specs.Table.{keeps, step, Allows}
use Rattle.ghost_history.specs.Lists.{numbered_from}
use Rattle.lanes.specs.declared.sizes.TheConstants.{CLOSED, TAIL}
use Rattle.lanes.specs.declared.sizes.Plan.{Plan}
use Rattle.lanes.specs.declared.view.CloserRecord.{CloserRecord}
use Rattle.lanes.specs.Layout.{lane_start, lane_of}
use Rattle.lanes.specs.History.{closes, count, closed_at}
use Rattle.lanes.specs.Inner.View.{closer, fresh_closer, closer_view}
use Rattle.lanes.specs.Inner.Rule.{reads, Keeps}
use Rattle.lanes.specs.Inner.Step.{Sat, closer_in, number_in, counts_in, has_closed, has_closed_some, IsClosing, ClosesLanes, IsNoteSeat, closes_at}
use Rattle.lanes.proofs.ListLemmas.{numbered-at}
use Rattle.lanes.proofs.LayoutLemmas.{lane_of-start}
use Rattle.lanes.proofs.HistoryLemmas.{open_before}
use Rattle.lanes.proofs.WordLemmas.{tail_set}
use Rattle.lanes.proofs.NextLemmas.{written, closer_mine, closer_next, small, tail_open}

set_next : (counts : List ℕ) (rest : List (Option ℕ)) (c : ℕ)
    → set (map Some counts ++ None ∷ rest) (length counts) (Some c)
    ≡ map Some (counts ++ c ∷ []) ++ rest
set_next [] rest c = refl
set_next (x ∷ xs) rest c = let later = set_next xs rest c in λ k. Some x ∷ later k

is_next : (counts : List ℕ) (rest : List (Option ℕ))
    → get_or (map Some counts ++ None ∷ rest) (length counts) None ≡ None
is_next [] rest = refl
is_next (x ∷ xs) rest = is_next xs rest

length_next : (counts : List ℕ) (c : ℕ) → length (counts ++ c ∷ []) ≡ length counts + 1
length_next counts c = length-append counts (c ∷ [])

sum_next : (counts : List ℕ) (c : ℕ) → sum (counts ++ c ∷ []) ≡ sum counts + c
sum_next counts c = sum_by_push (λ x. x) counts c

module _ (plan : Plan) (counts : List ℕ) (low : length counts < plan.sizes.lanes) where
  abbrev later : ℕ
  later = plan.sizes.lanes - (length counts + 1)

  -- the next lane is open
  one_more : has_closed_some plan counts
      ≡ closer plan (map Some counts ++ None ∷ replicate later None)
  one_more = let e : plan.sizes.lanes - length counts ≡ suc later = omega arith in ap (λ (n : ℕ). closer plan (map Some counts ++ replicate n None)) e

  next_open : get_or (has_closed_some plan counts).closed (length counts) None ≡ None
  next_open = ap (λ (r : CloserRecord). get_or r.closed (length counts) None) one_more ∙ is_next counts (replicate later None)

  next_closed : (c : ℕ)
      → closer plan (set (has_closed_some plan counts).closed (length counts) (Some c))
      ≡ has_closed_some plan (counts ++ c ∷ [])
  next_closed c =
      let e : later ≡ plan.sizes.lanes - length (counts ++ c ∷ []) = omega (arith, length_next counts c) in
      ap (λ (r : CloserRecord). closer plan (set r.closed (length counts) (Some c))) one_more
      ∙ (ap (closer plan) (set_next counts (replicate later None) c) ∙ ap (λ (n : ℕ). closer plan (map Some (counts ++ c ∷ []) ++ replicate n None)) e)

pub close_step : (plan : Plan) (n id i l : ℕ) (m : Sat) (counts : List ℕ)
    → length counts ≡ l
    → l < plan.sizes.lanes
    → IsClosing plan counts m
    → i ≡ lane_start plan l + TAIL
    → Allows (Keeps plan) n id m i (λ x. (x + CLOSED) % 2 ^ 64)
    (closes_at (step n i CLOSED 0 none) m)
close_step plan n id i l m counts long low is at =
    let r = has_closed_some plan counts in
    let z : Sat = (closer_view r, []) in
    let i' = lane_start plan l + TAIL in
    let here : Allows (Keeps plan) n id z i' (λ x. (x + CLOSED) % 2 ^ 64) (closes_at (step n i' CLOSED 0 none) z) =
    λ s keep homes me within.
    let k = keep.kept in
    let h = k.histories l in
    let found = get_or s.words i' 0 in
    let open_yet : get_or r.closed l None ≡ None = subst (λ (j : ℕ). get_or r.closed j None ≡ None) long (next_open plan counts (subst (λ (j : ℕ). j < plan.sizes.lanes) (sym long) low)) in
    let none_yet : closed_at h ≡ None = sym (numbered-at (λ j. closed_at (k.histories j)) plan.sizes.lanes l None low) ∙ (ap (λ (c : CloserRecord). get_or c.closed l None) (sym (closer_mine plan s k id r me)) ∙ open_yet) in
    let still = open_before plan.sizes l h none_yet in
    let is_at : found ≡ count h = tail_open plan s k id l low still in
    let few : found < CLOSED = omega (arith, is_at, small plan s k id l) in
    let few_jobs = small plan s k id l in
    let up : (found + CLOSED) % 2 ^ 64 ≡ count h + CLOSED = omega (arith, is_at, few_jobs) in
    let new = (found + CLOSED) % 2 ^ 64 in
    let words = set s.words i' new in (
      closer_view (closer plan (set r.closed l (Some found))),
      keeps,
      tt,
      closer_next plan s k id r me l low found TAIL new (is_at, still) (omega arith)
          (tail_set plan.sizes.capacity k.some_room h (closes found ∷ h) (reads plan s.words l) (reads plan words l) (k.words l low) new (written plan s k id l TAIL new low (omega arith)) up refl refl refl (λ j. refl) (λ j. refl)),
      (few, ap (λ (j : ℕ). (closer_view (closer plan (set r.closed j (Some found))), [])) (sym (lane_of-start plan l TAIL (omega arith)))),
    ) in
    subst (λ (j : ℕ). Allows (Keeps plan) n id m j (λ x. (x + CLOSED) % 2 ^ 64) (closes_at (step n j CLOSED 0 none) m)) (sym at)
    (subst (λ (y : Sat). Allows (Keeps plan) n id y i' (λ x. (x + CLOSED) % 2 ^ 64) (closes_at (step n i' CLOSED 0 none) y)) (sym is) here)

-- What the step makes of the closer's seat.
pub closed_next : (plan : Plan) (i l found : ℕ) (m n : Sat) (counts : List ℕ)
    → length counts ≡ l
    → l < plan.sizes.lanes
    → i ≡ lane_start plan l + TAIL
    → IsClosing plan counts m
    → n
    ≡ (closer_view (closer (closer_in m.0.closers).plan (set (closer_in m.0.closers).closed (lane_of (closer_in m.0.closers).plan i) (Some found))), [])
    → IsClosing plan (counts ++ found ∷ []) n
closed_next plan i l found m n counts long low at is now =
    let r = has_closed_some plan counts in
    let seat : CloserRecord → Sat = λ c. (closer_view c, []) in
    let lane_is : lane_of plan i ≡ length counts = ap (lane_of plan) at ∙ (lane_of-start plan l TAIL (omega arith) ∙ sym long) in
    now ∙ (ap (λ (z : Sat). seat (closer (closer_in z.0.closers).plan (set (closer_in z.0.closers).closed (lane_of (closer_in z.0.closers).plan i) (Some found)))) is
    ∙ (ap (λ (j : ℕ). seat (closer plan (set r.closed j (Some found)))) lane_is
    ∙ ap seat (next_closed plan counts (subst (λ (j : ℕ). j < plan.sizes.lanes) (sym long) low) found)))

-- ---- the first and the last

fresh_nones : (n first : ℕ) → numbered_from {R = Option ℕ} (λ _. None) first n ≡ replicate n None
fresh_nones zero first = refl
fresh_nones (suc n) first = let later_ones = fresh_nones n (first + 1) in λ k. None ∷ later_ones k

pub none_closed : (plan : Plan) (m : Sat)
    → m ≡ (closer_view (fresh_closer plan), [])
    → ClosesLanes plan 0 0 m
none_closed plan m is =
    let all : plan.sizes.lanes ≡ plan.sizes.lanes - 0 = omega arith in
    let nones = fresh_nones plan.sizes.lanes 0 ∙ ap (λ (n : ℕ). replicate n None) all in
    record { counts = []; long = refl; seat = is ∙ ap (λ (xs : List (Option ℕ)). (closer_view (closer plan xs), [])) nones; sum_is = refl }

-- one lane more
pub closes_more : (plan : Plan) (lane total found next : ℕ) (m n : Sat)
    → ClosesLanes plan lane total m
    → ((counts : List ℕ) → length counts ≡ lane → IsClosing plan counts m → IsClosing plan (counts ++ found ∷ []) n)
    → next ≡ min (total + found) (2 ^ 64 - 1)
    → ClosesLanes plan (lane + 1) next n
closes_more plan lane total found next m n so_far step_is sum_is = record {
  counts = so_far.counts ++ found ∷ [];
  long = omega (arith, length_next so_far.counts found, so_far.long);
  seat = step_is so_far.counts so_far.long so_far.seat;
  sum_is = let both : sum (so_far.counts ++ found ∷ []) ≡ sum so_far.counts + found = sum_next so_far.counts found in omega (arith, both, sum_is, so_far.sum_is);
}

numbers_of : (counts : List ℕ) → map number_in (map Some counts) ≡ counts
numbers_of [] = refl
numbers_of (x ∷ xs) = let later = numbers_of xs in λ k. x ∷ later k

pub all_closed : (plan : Plan) (lane total : ℕ) (m : Sat)
    → lane ≡ plan.sizes.lanes
    → ClosesLanes plan lane total m
    → IsNoteSeat plan m × (length (counts_in m) ≡ plan.sizes.lanes)
    × (total ≡ min (sum (counts_in m)) (2 ^ 64 - 1))
all_closed plan lane total m at so_far =
    let counts = so_far.counts in
    let long : length counts ≡ plan.sizes.lanes = so_far.long ∙ at in
    let is = so_far.seat in
    let none_left : plan.sizes.lanes - length counts ≡ 0 = omega (arith, long) in
    let whole : m ≡ (closer_view (has_closed plan counts), []) = is ∙ (ap (λ (n : ℕ). (closer_view (closer plan (map Some counts ++ replicate n None)), [])) none_left ∙ ap (λ (xs : List (Option ℕ)). (closer_view (closer plan xs), [])) (append-nil (map Some counts))) in
    let numbers : counts_in m ≡ counts = ap counts_in whole ∙ numbers_of counts in
    (whole ∙ ap (λ (cs : List ℕ). (closer_view (has_closed plan cs), [])) (sym numbers), ap length numbers ∙ long, so_far.sum_is ∙ ap (λ (cs : List ℕ). min (sum cs) (2 ^ 64 - 1)) (sym numbers))
