-- Each step of a producer keeps the rule.
use Rattle.std.proofs.Common.{◌≡◌, ℕ, ◌+◌, ◌-◌, ◌^◌, ◌<◌, ◌≤◌, ⊎_elim, true, false, eqb, Some, [], ◌∷◌, length, get_or, set, sym, refl, ap, ◌∙◌, subst, arith}
use mathlib.Core.Logic.{dite}
use native.Mathlib.Decide.{ℕ_discrete}
use mathlib.Core.Option.{none}
use prog.Atomic.{either}
use Rattle.atomic_table.specs.Table.{Act, Valid, Step, keeps, step, stepped, Allows, carried_after}
use Rattle.atomic_table.proofs.Lists.{exchanged}
use Rattle.lanes.specs.declared.sizes.TheConstants.{CLOSED, MAX_JOBS, TAIL, HEAD}
use Rattle.lanes.specs.declared.sizes.Plan.{Plan}
use Rattle.lanes.specs.declared.record.LaneRecord.{LaneRecord}
use Rattle.lanes.specs.declared.view.View.{View}
use Rattle.lanes.specs.Layout.{lane_words, lane_start, cell_of}
use Rattle.lanes.specs.Lanes.{LanesId}
use Rattle.lanes.specs.Record.{after_count, after_full, after_room, after_payload, after_dim, after_accept, after_refusal}
use Rattle.lanes.specs.History.{reads_count, finds_full, finds_room, puts_payload, puts_dim, accepts, finds_closed, by_lane, count, taken, is_shut}
use Rattle.lanes.specs.Inner.View.{lane_view}
use Rattle.lanes.specs.Inner.Rule.{tail_word, reads, Keeps}
use Rattle.lanes.specs.Inner.Step.{Sat, lane_in, number_in, IsLane, reads_count_at, looks_at, puts_payload_at, puts_dim_at, accepts_at}
use Rattle.lanes.proofs.LayoutLemmas.{cell-inside}
use Rattle.lanes.proofs.WordLemmas.{Written, tail_set, payload_set, dim_set}
use Rattle.lanes.proofs.NextLemmas.{shut_or_open, all_sound, written, lane_mine, lane_next, still_words, small, tail_shut, tail_open}

-- What a step of a handle requires, where handle and lanes are of one table and one plan.
pub asked : (Is : Plan → Type 0) (lid sid x : LanesId) (key : Plan) (id i a b : ℕ) (m : Sat)
    (f : ℕ → ℕ) (then : Step (Unit {0}) → ℕ → Sat → Type 0)
    → lid ≡ x → sid ≡ x → key ≡ sid.plan → Is lid.plan → i < x.table.words
    → ((n : ℕ) → Is x.plan → Allows (Keeps x.plan) n id m i f (then (step n i a b none)))
    → (lid.table ≡ sid.table) × (i < sid.table.words)
    × Allows (Keeps key) sid.table.slots id m i f (then (step sid.table.slots i a b none))
asked Is lid sid x key id i a b m f then of_handle of_lanes plan_is is low allows =
    let P : LanesId → LanesId → Plan → Type 0 = λ l s k. Is l.plan → (l.table ≡ s.table) × (i < s.table.words) × Allows (Keeps k) s.table.slots id m i f (then (step s.table.slots i a b none)) in
    let at_one : P x x x.plan = λ is_here. (refl, low, allows x.table.slots is_here) in
    subst (λ (l : LanesId). P l sid key) (sym of_handle) (subst (λ (k : Plan). P x sid k) (sym plan_is) (subst (λ (s : LanesId). P x s s.plan) (sym of_lanes) at_one)) is

module _ (plan : Plan) (n id number seen : ℕ) (m : Sat) (is : IsLane plan number seen m) where
  -- The place of a word, by the number in the record.
  placed : (o i : ℕ)
      → i ≡ lane_start plan number + o
      → i ≡ lane_start plan (lane_in m.0.lanes).number + o
  placed o i at = at ∙ ap (λ (l : ℕ). lane_start plan l + o) (sym is.number_is)

  pub read_count_step : (i : ℕ)
      → i ≡ lane_start plan number + TAIL
      → Allows (Keeps plan) n id m i (λ x. x) (reads_count_at (step n i 0 0 none) m)
  read_count_step i at =
      let r = lane_in m.0.lanes in
      let l = r.number in
      let here : Allows (Keeps plan) n id (lane_view r, []) (lane_start plan l + TAIL) (λ x. x) (reads_count_at (step n (lane_start plan l + TAIL) 0 0 none) (lane_view r, [])) =
      λ s keep homes me within.
      let k = keep.kept in
      let h = k.histories l in
      let low = (lane_mine plan s k id r me).1 in
      let found = get_or s.words (lane_start plan l + TAIL) 0 in
      let counted : length r.accepted ≡ count h = ap (λ (z : LaneRecord). length z.accepted) (lane_mine plan s k id r me).0 ∙ (all_sound plan s k id l).lane.2 in
      ⊎_elim
      (λ (shut : is_shut h ≡ true).
      let is_at : found ≡ count h + CLOSED = tail_shut plan s k id l low shut in
      let number_is : count h ≡ found - CLOSED = omega (arith, is_at) in (
        lane_view (after_refusal (count h) r),
        keeps,
        tt,
        lane_next plan s k id r me (finds_closed (count h)) TAIL found refl (refl, shut) (omega arith) (still_words plan s k id l (by_lane (finds_closed (count h))) TAIL low refl refl refl refl refl (λ j. refl) (λ j. refl)),
        (λ below_it. absurd (omega (arith, is_at)), λ above. ap (λ (c : ℕ). (lane_view (after_refusal c r), [])) number_is),
      ))
      (λ (still : is_shut h ≡ false).
      let is_at : found ≡ count h = tail_open plan s k id l low still in (
        lane_view (after_count r),
        keeps,
        tt,
        lane_next plan s k id r me (reads_count (count h)) TAIL found refl (refl, still) (omega arith) (still_words plan s k id l (by_lane (reads_count (count h))) TAIL low refl refl refl refl refl (λ j. refl) (λ j. refl)),
        (λ below_it. (refl, is_at ∙ sym counted), λ above. absurd (omega (arith, is_at, small plan s k id l))),
      ))
      (shut_or_open (is_shut h)) in
      subst (λ (j : ℕ). Allows (Keeps plan) n id m j (λ x. x) (reads_count_at (step n j 0 0 none) m)) (sym (placed TAIL i at))
      (subst (λ (z : Sat). Allows (Keeps plan) n id z (lane_start plan l + TAIL) (λ x. x) (reads_count_at (step n (lane_start plan l + TAIL) 0 0 none) z)) (sym is.seat) here)

  pub look_step : (i : ℕ)
      → i ≡ lane_start plan number + HEAD
      → Allows (Keeps plan) n id m i (λ x. x) (looks_at (step n i 0 0 none) m)
  look_step i at =
      let r = lane_in m.0.lanes in
      let l = r.number in
      let here : Allows (Keeps plan) n id (lane_view r, []) (lane_start plan l + HEAD) (λ x. x) (looks_at (step n (lane_start plan l + HEAD) 0 0 none) (lane_view r, [])) =
      λ s keep homes me within.
      let k = keep.kept in
      let h = k.histories l in
      let mine = lane_mine plan s k id r me in
      let all = all_sound plan s k id l in
      let found = get_or s.words (lane_start plan l + HEAD) 0 in
      let is_at : found ≡ taken h = (k.words l mine.1).head in
      let counted : length r.accepted ≡ count h = ap (λ (z : LaneRecord). length z.accepted) mine.0 ∙ all.lane.2 in
      let room : r.capacity ≡ plan.sizes.capacity = ap (λ (z : LaneRecord). z.capacity) mine.0 ∙ all.lane.1 in
      let low : found ≤ length r.accepted = omega (arith, is_at, counted, all.counts.0) in
      let high : length r.accepted ≤ found + r.capacity = omega (arith, is_at, counted, room, all.counts.1, all.counts.3) in
      dite (ℕ_discrete (length r.accepted) (found + r.capacity))
      (λ e. (
        lane_view (after_full found r),
        keeps,
        tt,
        lane_next plan s k id r me (finds_full found) HEAD found refl (is_at, omega (arith, counted, e)) (omega arith) (still_words plan s k id l (by_lane (finds_full found)) HEAD mine.1 refl refl refl refl refl (λ j. refl) (λ j. refl)),
        (low, high, λ full. refl, λ less. absurd (omega (arith, e, less))),
      ))
      (λ ne. (
        lane_view (after_room found r),
        keeps,
        tt,
        lane_next plan s k id r me (finds_room found) HEAD found refl (is_at, omega (arith, counted, ne, high)) (omega arith) (still_words plan s k id l (by_lane (finds_room found)) HEAD mine.1 refl refl refl refl refl (λ j. refl) (λ j. refl)),
        (low, high, λ full. absurd (ne full), λ less. refl),
      )) in
      subst (λ (j : ℕ). Allows (Keeps plan) n id m j (λ x. x) (looks_at (step n j 0 0 none) m)) (sym (placed HEAD i at))
      (subst (λ (z : Sat). Allows (Keeps plan) n id z (lane_start plan l + HEAD) (λ x. x) (looks_at (step n (lane_start plan l + HEAD) 0 0 none) z)) (sym is.seat) here)

  pub put_payload_step : (i c p : ℕ)
      → i ≡ lane_start plan number + cell_of plan.sizes.capacity c
      → c ≡ length (lane_in m.0.lanes).accepted
      → c < (lane_in m.0.lanes).seen + (lane_in m.0.lanes).capacity
      → Allows (Keeps plan) n id m i (λ _. p) (λ _. puts_payload_at (step n i p 0 none) m p)
  put_payload_step i c p at counts room =
      let r = lane_in m.0.lanes in
      let l = r.number in
      let o = cell_of plan.sizes.capacity c in
      let here : Allows (Keeps plan) n id (lane_view r, []) (lane_start plan l + o) (λ _. p) (λ _. puts_payload_at (step n (lane_start plan l + o) p 0 none) (lane_view r, []) p) =
      λ s keep homes me within.
      let k = keep.kept in
      let h = k.histories l in
      let mine = lane_mine plan s k id r me in
      let all = all_sound plan s k id l in
      let same : count h ≡ c = sym (counts ∙ (ap (λ (z : LaneRecord). length z.accepted) mine.0 ∙ all.lane.2)) in
      let holds_room : r.capacity ≡ plan.sizes.capacity = ap (λ (z : LaneRecord). z.capacity) mine.0 ∙ all.lane.1 in
      let seen_low : r.seen ≤ taken h = omega (arith, ap (λ (z : LaneRecord). z.seen) mine.0, all.lane.3) in
      let inside : o < lane_words plan.sizes.capacity = omega (arith, cell-inside plan.sizes.capacity c k.some_room) in
      let cell_is : o ≡ cell_of plan.sizes.capacity (count h) = ap (cell_of plan.sizes.capacity) (sym same) in
      let words = set s.words (lane_start plan l + o) p in (
        lane_view (after_payload p r),
        keeps,
        tt,
        lane_next plan s k id r me (puts_payload p) o p refl (omega (arith, same, room)) inside
            (payload_set plan.sizes.capacity k.some_room h (reads plan s.words l) (reads plan words l) (k.words l mine.1) (omega (arith, same, room, holds_room, seen_low)) p all.counts.1 (subst (λ (z : ℕ). Written (reads plan s.words l) (reads plan words l) z p) cell_is (written plan s k id l o p mine.1 inside))),
        refl,
      ) in
      subst (λ (j : ℕ). Allows (Keeps plan) n id m j (λ _. p) (λ _. puts_payload_at (step n j p 0 none) m p)) (sym (placed o i at))
      (subst (λ (z : Sat). Allows (Keeps plan) n id z (lane_start plan l + o) (λ _. p) (λ _. puts_payload_at (step n (lane_start plan l + o) p 0 none) z p)) (sym is.seat) here)

  pub put_dim_step : (i c d : ℕ)
      → i ≡ lane_start plan number + (cell_of plan.sizes.capacity c + 1)
      → c ≡ length (lane_in m.0.lanes).accepted
      → c < (lane_in m.0.lanes).seen + (lane_in m.0.lanes).capacity
      → d < 2 ^ 32
      → Allows (Keeps plan) n id m i (λ _. d) (λ _. puts_dim_at (step n i d 0 none) m d)
  put_dim_step i c d at counts room few =
      let r = lane_in m.0.lanes in
      let l = r.number in
      let o : ℕ = cell_of plan.sizes.capacity c + 1 in
      let here : Allows (Keeps plan) n id (lane_view r, []) (lane_start plan l + o) (λ _. d) (λ _. puts_dim_at (step n (lane_start plan l + o) d 0 none) (lane_view r, []) d) =
      λ s keep homes me within.
      let k = keep.kept in
      let h = k.histories l in
      let mine = lane_mine plan s k id r me in
      let all = all_sound plan s k id l in
      let same : count h ≡ c = sym (counts ∙ (ap (λ (z : LaneRecord). length z.accepted) mine.0 ∙ all.lane.2)) in
      let holds_room : r.capacity ≡ plan.sizes.capacity = ap (λ (z : LaneRecord). z.capacity) mine.0 ∙ all.lane.1 in
      let seen_low : r.seen ≤ taken h = omega (arith, ap (λ (z : LaneRecord). z.seen) mine.0, all.lane.3) in
      let inside : o < lane_words plan.sizes.capacity = cell-inside plan.sizes.capacity c k.some_room in
      let cell_is : o ≡ cell_of plan.sizes.capacity (count h) + 1 = ap (λ (z : ℕ). cell_of plan.sizes.capacity z + 1) (sym same) in
      let words = set s.words (lane_start plan l + o) d in (
        lane_view (after_dim d r),
        keeps,
        tt,
        lane_next plan s k id r me (puts_dim d) o d refl (omega (arith, same, room), few) inside
            (dim_set plan.sizes.capacity k.some_room h (reads plan s.words l) (reads plan words l) (k.words l mine.1) (omega (arith, same, room, holds_room, seen_low)) d all.counts.2 (subst (λ (z : ℕ). Written (reads plan s.words l) (reads plan words l) z d) cell_is (written plan s k id l o d mine.1 inside))),
        refl,
      ) in
      subst (λ (j : ℕ). Allows (Keeps plan) n id m j (λ _. d) (λ _. puts_dim_at (step n j d 0 none) m d)) (sym (placed o i at))
      (subst (λ (z : Sat). Allows (Keeps plan) n id z (lane_start plan l + o) (λ _. d) (λ _. puts_dim_at (step n (lane_start plan l + o) d 0 none) z d)) (sym is.seat) here)

  pub accept_step : (i c p d : ℕ)
      → i ≡ lane_start plan number + TAIL
      → c ≡ length (lane_in m.0.lanes).accepted
      → (lane_in m.0.lanes).payload ≡ Some p
      → (lane_in m.0.lanes).dim ≡ Some d
      → c < MAX_JOBS
      → Allows (Keeps plan) n id m i (λ x. either (eqb x c) (c + 1) x)
      (accepts_at (step n i c (c + 1) none) m)
  accept_step i c p d at counts payload dim few =
      let r = lane_in m.0.lanes in
      let l = r.number in
      let i' = lane_start plan l + TAIL in
      let z : Sat = (lane_view r, []) in
      let here : Allows (Keeps plan) n id z i' (λ x. either (eqb x c) (c + 1) x) (accepts_at (step n i' c (c + 1) none) z) =
      λ s keep homes me within.
      let k = keep.kept in
      let h = k.histories l in
      let mine = lane_mine plan s k id r me in
      let all = all_sound plan s k id l in
      let found = get_or s.words i' 0 in
      let same : c ≡ count h = counts ∙ (ap (λ (z : LaneRecord). length z.accepted) mine.0 ∙ all.lane.2) in
      exchanged found c (c + 1) (λ x. (w : View) × (a : Act (Unit {0})) × Valid s.homes [] a × Keeps plan (stepped s i' x id [] w a) × accepts_at (step n i' c (c + 1) none) z found (w, carried_after [] a))
      (λ hit. ⊎_elim
      (λ (shut : is_shut h ≡ true). absurd (omega (arith, hit, same, tail_shut plan s k id l mine.1 shut)))
      (λ (still : is_shut h ≡ false).
      let new : c + 1 ≡ (count h + 1) + 0 = omega (arith, same) in
      let words = set s.words i' (c + 1) in (
        lane_view (after_accept p d r),
        keeps,
        tt,
        lane_next plan s k id r me (accepts p d) TAIL (c + 1) refl (payload, dim, still, omega (arith, same, few)) (omega arith)
            (tail_set plan.sizes.capacity k.some_room h (by_lane (accepts p d) ∷ h) (reads plan s.words l) (reads plan words l) (k.words l mine.1) (c + 1) (written plan s k id l TAIL (c + 1) mine.1 (omega arith)) (new ∙ ap (tail_word (count h + 1)) (sym still)) refl refl refl (λ j. refl) (λ j. refl)),
        (λ e. ap (λ (q : ℕ). (lane_view (after_accept q d r), [])) (sym (ap number_in payload)) ∙ ap (λ (q : ℕ). (lane_view (after_accept (number_in r.payload) q r), [])) (sym (ap number_in dim)), λ ne. absurd (ne hit)),
      ))
      (shut_or_open (is_shut h)))
      (λ miss. ⊎_elim
      (λ (shut : is_shut h ≡ true).
      let is_at : found ≡ count h + CLOSED = tail_shut plan s k id l mine.1 shut in
      let number_is : count h ≡ found - CLOSED = omega (arith, is_at) in (
        lane_view (after_refusal (count h) r),
        keeps,
        tt,
        lane_next plan s k id r me (finds_closed (count h)) TAIL found refl (refl, shut) (omega arith) (still_words plan s k id l (by_lane (finds_closed (count h))) TAIL mine.1 refl refl refl refl refl (λ j. refl) (λ j. refl)),
        (λ e. absurd (miss e), λ ne. (omega (arith, is_at), ap (λ (q : ℕ). (lane_view (after_refusal q r), [])) number_is)),
      ))
      (λ (still : is_shut h ≡ false). absurd (miss (tail_open plan s k id l mine.1 still ∙ sym same)))
      (shut_or_open (is_shut h))) in
      subst (λ (j : ℕ). Allows (Keeps plan) n id m j (λ x. either (eqb x c) (c + 1) x) (accepts_at (step n j c (c + 1) none) m)) (sym (placed TAIL i at))
      (subst (λ (y : Sat). Allows (Keeps plan) n id y i' (λ x. either (eqb x c) (c + 1) x) (accepts_at (step n i' c (c + 1) none) y)) (sym is.seat) here)
