-- What is left comes out at the end, one piece after the other.
use Rattle.std.proofs.Common.{◌≡◌, ℕ, zero, suc, ◌+◌, ◌-◌, ◌<◌, ◌≤◌, List, [], ◌∷◌, ◌++◌, length, length-append, sym, refl, ap, ◌∙◌, subst, arith}
use Rattle.std.proofs.lemmas.List.{append-nil}
use Rattle.std.specs.List.{AllByRecursion}
use mathlib.Core.Logic.{dite}
use native.Mathlib.Decide.{ℕ_discrete, dec_le}
use Rattle.crossbeam_queue.specs.Fifo.{Held}
use Rattle.ghost_history.specs.Sums.{total, is_at}
use Rattle.ghost_history.proofs.SumLemmas.{total-append}
use Rattle.ghost_history.proofs.DealLemmas.{fresh-count, fresh-once}
use Rattle.ghost_history.proofs.ViewLemmas.{all_append, all_weaker}
use Rattle.cube_shape.specs.declared.limits.TheConstants.{MAX_LANES, MAX_PASSES}
use Rattle.line_ring.specs.declared.record.LaneRecord.{LaneRecord}
use Rattle.line_ring.specs.declared.record.PassRecord.{PassRecord}
use Rattle.line_ring.specs.declared.record.RestRecord.{RestRecord}
use Rattle.line_ring.specs.declared.rule.View.{View}
use Rattle.line_ring.specs.Record.{fresh_lane, fresh_pass, AreSeqs, Rises}
use Rattle.line_ring.specs.History.{Deed, accepts, takes_piece, drains, lane_part, pass_part, IsLegal}
use Rattle.line_ring.specs.Run.{RingRun}
use Rattle.line_ring.specs.Ring.{RingId, EndOf}
use Rattle.line_ring.specs.Inner.Seat.{end_of}
use Rattle.line_ring.specs.Inner.View.{view, rest_record, lanes_in, passes_in, lanes_from, passes_from}
use Rattle.line_ring.specs.Inner.Step.{drained_in, after_drain, IsEndView, IsWhole, RunsTo, Drains}
use Rattle.line_ring.proofs.HistoryLemmas.{lane_other, pass_other}
use Rattle.line_ring.proofs.ListLemmas.{count_pieces, rises-front, rises-both}
use Rattle.line_ring.proofs.DealLemmas.{fresh_lanes_weigh, fresh_passes_weigh}

all_and : {A : Type 0} (P Q : A → Type 0) (xs : List A)
    → AllByRecursion P xs
    → AllByRecursion Q xs
    → AllByRecursion (λ x. P x × Q x) xs
all_and P Q [] left right = tt
all_and P Q (x ∷ xs) left right = ((left.0, right.0), all_and P Q xs left.1 right.1)

all_front : {A : Type 0} (P : A → Type 0) (xs ys : List A)
    → AllByRecursion P (xs ++ ys)
    → AllByRecursion P xs
all_front P [] ys all = tt
all_front P (x ∷ xs) ys all = (all.0, all_front P xs ys all.1)

all_back : {A : Type 0} (P : A → Type 0) (xs ys : List A)
    → AllByRecursion P (xs ++ ys)
    → AllByRecursion P ys
all_back P [] ys all = all
all_back P (x ∷ xs) ys all = all_back P xs ys all.1

nothing : {A : Type 0} (xs : List A) → length xs ≡ 0 → xs ≡ []
nothing [] none = refl
nothing (x ∷ xs) none = absurd (omega arith)

module _ {T : Type 0} where
  -- The view of the end after these pieces came out.
  abbrev pub with_rest : View T → List T → View T
  with_rest v out = view v.machine v.spare_lanes v.lanes v.spare_passes v.passes (rest_record out ∷ [])

  pub begins_with : (lanes passes : ℕ) (v : View T) → IsEndView lanes passes v → v ≡ with_rest v []
  begins_with lanes passes v is = ap (λ (rs : List (RestRecord T)). view v.machine v.spare_lanes v.lanes v.spare_passes v.passes rs) is.rests

  -- As many lanes and passes have come back as were given out, so the view has all.
  pub all_are_here : (lanes passes : ℕ) (v : View T) (out : List T)
      → IsEndView lanes passes v
      → length v.lanes ≡ lanes
      → length v.passes ≡ passes
      → IsWhole (with_rest v out)
  all_are_here lanes passes v out is lanes_back passes_back = record {
    lanes = omega (arith, length-append v.spare_lanes v.lanes, ap length is.spare_lanes, fresh-count (fresh_lane {T = T}) lanes (MAX_LANES - lanes), is.few_lanes, lanes_back);
    passes = omega (arith, length-append v.spare_passes v.passes, ap length is.spare_passes, fresh-count (fresh_pass {T = T}) passes (MAX_PASSES - passes), is.few_passes, passes_back);
    rests = refl;
  }

  -- The view of the end after all lanes and passes came back, with what contracts see of the end.
  pub record IsLast (end : EndOf T) (v : View T) : Type 0 where
    pub known : IsEndView end.dealt_lanes end.dealt_passes v
    pub machine : v.machine ≡ end.ring.machine
    pub lanes : v.lanes ≡ end.back_lanes
    pub passes : v.passes ≡ end.back_passes
    pub all_lanes : length v.lanes ≡ end.dealt_lanes
    pub all_passes : length v.passes ≡ end.dealt_passes

  pub is_last : (ring : RingId) (lanes passes : ℕ) (v u : View T) (end : EndOf T)
      → end_of ring lanes passes v ≡ end
      → v.machine ≡ ring.machine
      → u ≡ v
      → IsEndView lanes passes v
      → length end.back_lanes ≡ end.dealt_lanes
      → length end.back_passes ≡ end.dealt_passes
      → IsLast end u
  is_last ring lanes passes v u end is machine same known all_lanes all_passes =
      let back : v.lanes ≡ end.back_lanes = ap (λ (e : EndOf T). e.back_lanes) is in
      let back_passes : v.passes ≡ end.back_passes = ap (λ (e : EndOf T). e.back_passes) is in
      subst (IsLast end) (sym same) (record {
        known = subst (λ (e : EndOf T). IsEndView e.dealt_lanes e.dealt_passes v) is known;
        machine = machine ∙ ap (λ (e : EndOf T). e.ring.machine) is;
        lanes = back;
        passes = back_passes;
        all_lanes = ap length back ∙ all_lanes;
        all_passes = ap length back_passes ∙ all_passes;
      })

  pub all_in : (end : EndOf T) (v u : View T) (out : List T)
      → IsLast end v
      → u ≡ with_rest v out
      → IsWhole u
  all_in end v u out last is = subst IsWhole (sym is) (all_are_here end.dealt_lanes end.dealt_passes v out last.known last.all_lanes last.all_passes)

  -- The number of pieces that the lanes put in, and that the passes took.
  abbrev put_in : View T → ℕ
  put_in v = total (λ l. total (λ (x : T). 1) l.accepted) (lanes_in v)

  abbrev taken_out : View T → ℕ
  taken_out v = total (λ p. total (λ (x : T). 1) p.taken) (passes_in v)

module _ {T : Type 0} (lane_of seq_of : T → ℕ) (is_for : ℕ → T → Type 0) where
  -- The view was `v₀`, and is `v` after these pieces came out.
  pub record Drained (capacity : ℕ) (v₀ v : View T) (out : List T) : Type 0 where
    pub is : v ≡ with_rest v₀ out
    pub fits : length out ≤ capacity
    pub held : put_in v₀ ≤ taken_out v₀ + capacity
    pub rises : AllByRecursion (λ p. Rises lane_of seq_of (p.taken ++ out)) (passes_in v₀)
    pub made_for : AllByRecursion (is_for v₀.machine) out

  begins_here : (capacity count : ℕ) (v : View T)
      → v ≡ with_rest v []
      → count ≤ capacity
      → Held count (RunsTo lane_of seq_of v)
      → Drained capacity v v []
  begins_here capacity count v fresh few held =
      let items = held.0 in
      let run = held.2 in
      let none_out : drained_in v.rests ≡ [] = ap (λ (u : View T). drained_in u.rests) fresh in
      record {
        is = fresh;
        fits = omega arith;
        held = omega (arith, run.balance (λ _. 1), ap (total (λ (x : T). 1)) none_out, count_pieces items, held.1);
        rises = all_weaker (λ p. Rises lane_of seq_of (p.taken ++ items)) (λ p. Rises lane_of seq_of (p.taken ++ [])) (λ p rises. subst (Rises lane_of seq_of) (sym (append-nil p.taken)) (rises-front lane_of seq_of p.taken items rises)) (passes_in v) run.rises;
        made_for = tt;
      }

  pub begins : (capacity count : ℕ) (u v : View T) (out : List T)
      → v ≡ with_rest v []
      → v ≡ u
      → out ≡ []
      → count ≤ capacity
      → Held count (RunsTo lane_of seq_of u)
      → Drained capacity v v out
  begins capacity count u v out fresh same none few held =
      subst (λ (xs : List T). Drained capacity v v xs) (sym none) (begins_here capacity count v fresh few (subst (λ (z : View T). Held count (RunsTo lane_of seq_of z)) (sym same) held))

  -- What the ring held when this piece came out at its front.
  drained_run : (capacity : ℕ) (v₀ v w : View T) (out : List T) (x : T)
      → Drained capacity v₀ v out
      → Drains lane_of seq_of is_for v x w
      → (items : List T) × RunsTo lane_of seq_of (with_rest v₀ out) (x ∷ items)
  drained_run capacity v₀ v w out x drained step = (step.2.0, subst (λ (u : View T). RunsTo lane_of seq_of u (x ∷ step.2.0)) drained.is step.2.1)

  pub has_room : (capacity : ℕ) (v₀ v w : View T) (out : List T) (x : T)
      → Drained capacity v₀ v out
      → Drains lane_of seq_of is_for v x w
      → length out < capacity
  has_room capacity v₀ v w out x drained step =
      let run = drained_run capacity v₀ v w out x drained step in
      omega (arith, run.1.balance (λ _. 1), count_pieces out, drained.held)

  drains_here : (capacity : ℕ) (v₀ v w : View T) (out : List T) (x : T)
      → Drained capacity v₀ v out
      → Drains lane_of seq_of is_for v x w
      → Drained capacity v₀ w (out ++ x ∷ [])
  drains_here capacity v₀ v w out x drained step =
      let items = (drained_run capacity v₀ v w out x drained step).0 in
      let run = (drained_run capacity v₀ v w out x drained step).1 in
      record {
        is = step.0 ∙ ap (λ (u : View T). after_drain u x) drained.is;
        fits = omega (arith, length-append out (x ∷ []), has_room capacity v₀ v w out x drained step);
        held = drained.held;
        rises = all_weaker (λ p. Rises lane_of seq_of (p.taken ++ out) × Rises lane_of seq_of (p.taken ++ x ∷ items)) (λ p. Rises lane_of seq_of (p.taken ++ (out ++ x ∷ [])))
            (λ p both. rises-both lane_of seq_of p.taken out x items both.0 both.1 run.rest_rises) (passes_in v₀)
            (all_and (λ p. Rises lane_of seq_of (p.taken ++ out)) (λ p. Rises lane_of seq_of (p.taken ++ x ∷ items)) (passes_in v₀) drained.rises run.rises);
        made_for = all_append (is_for v₀.machine) out (x ∷ []) drained.made_for (subst (λ (u : View T). is_for u.machine x) drained.is step.1, tt);
      }

  pub drains_on : (capacity : ℕ) (v₀ v w : View T) (out new : List T) (x : T)
      → new ≡ out ++ x ∷ []
      → Drained capacity v₀ v out
      → Drains lane_of seq_of is_for v x w
      → Drained capacity v₀ w new
  drains_on capacity v₀ v w out new x more drained step = subst (λ (xs : List T). Drained capacity v₀ w xs) (sym more) (drains_here capacity v₀ v w out x drained step)

  -- ---- lanes and passes that were not given out

  spare_lane : (h : List (Deed T)) (first count k : ℕ)
      → AllByRecursion (λ l. l ≡ lane_part h l.number) (lanes_from first count)
      → first ≤ k
      → k < first + count
      → lane_part h k ≡ fresh_lane k
  spare_lane h first zero k all low high = absurd (omega arith)
  spare_lane h first (suc count) k all low high =
      dite (ℕ_discrete first k)
      (λ here. subst (λ (n : ℕ). lane_part h n ≡ fresh_lane n) here (sym all.0))
      (λ later. spare_lane h (first + 1) count k all.1 (omega arith) (omega arith))

  spare_pass : (h : List (Deed T)) (first count k : ℕ)
      → AllByRecursion (λ p. p ≡ pass_part h p.number) (passes_from first count)
      → first ≤ k
      → k < first + count
      → pass_part h k ≡ fresh_pass k
  spare_pass h first zero k all low high = absurd (omega arith)
  spare_pass h first (suc count) k all low high =
      dite (ℕ_discrete first k)
      (λ here. subst (λ (n : ℕ). pass_part h n ≡ fresh_pass n) here (sym all.0))
      (λ later. spare_pass h (first + 1) count k all.1 (omega arith) (omega arith))

  -- No history has a step of a lane or pass that no ring gives out.
  no_lane_past : (h : List (Deed T)) (k : ℕ)
      → IsLegal lane_of seq_of h
      → MAX_LANES ≤ k
      → lane_part h k ≡ fresh_lane k
  no_lane_past [] k legal high = refl
  no_lane_past (accepts lane piece ∷ h) k legal high = lane_other lane piece h k (λ same. omega (arith, same, legal.0.0)) ∙ no_lane_past h k legal.1 high
  no_lane_past (takes_piece pass piece ∷ h) k legal high = no_lane_past h k legal.1 high
  no_lane_past (drains piece ∷ h) k legal high = no_lane_past h k legal.1 high

  no_pass_past : (h : List (Deed T)) (k : ℕ)
      → IsLegal lane_of seq_of h
      → MAX_PASSES ≤ k
      → pass_part h k ≡ fresh_pass k
  no_pass_past [] k legal high = refl
  no_pass_past (accepts lane piece ∷ h) k legal high = no_pass_past h k legal.1 high
  no_pass_past (takes_piece pass piece ∷ h) k legal high = pass_other pass piece h k (λ same. omega (arith, same, legal.0.0)) ∙ no_pass_past h k legal.1 high
  no_pass_past (drains piece ∷ h) k legal high = no_pass_past h k legal.1 high

  no_other_lane : (h : List (Deed T)) (dealt : ℕ) (spare : List (LaneRecord T))
      → spare ≡ lanes_from dealt (MAX_LANES - dealt)
      → dealt ≤ MAX_LANES
      → IsLegal lane_of seq_of h
      → AllByRecursion (λ l. l ≡ lane_part h l.number) spare
      → (k : ℕ)
      → dealt ≤ k
      → lane_part h k ≡ fresh_lane k
  no_other_lane h dealt spare is few legal all k high =
      dite (dec_le MAX_LANES k) (no_lane_past h k legal)
      (λ low. spare_lane h dealt (MAX_LANES - dealt) k (subst (λ (ls : List (LaneRecord T)). AllByRecursion (λ l. l ≡ lane_part h l.number) ls) is all) high (omega (arith, few)))

  no_other_pass : (h : List (Deed T)) (dealt : ℕ) (spare : List (PassRecord T))
      → spare ≡ passes_from dealt (MAX_PASSES - dealt)
      → dealt ≤ MAX_PASSES
      → IsLegal lane_of seq_of h
      → AllByRecursion (λ p. p ≡ pass_part h p.number) spare
      → (k : ℕ)
      → dealt ≤ k
      → pass_part h k ≡ fresh_pass k
  no_other_pass h dealt spare is few legal all k high =
      dite (dec_le MAX_PASSES k) (no_pass_past h k legal)
      (λ low. spare_pass h dealt (MAX_PASSES - dealt) k (subst (λ (ps : List (PassRecord T)). AllByRecursion (λ p. p ≡ pass_part h p.number) ps) is all) high (omega (arith, few)))

  -- ---- nothing is left

  last_run : (capacity : ℕ) (v₀ v : View T) (out : List T)
      → Drained capacity v₀ v out
      → Held 0 (RunsTo lane_of seq_of v)
      → RunsTo lane_of seq_of (with_rest v₀ out) []
  last_run capacity v₀ v out drained held =
      subst (λ (xs : List T). RunsTo lane_of seq_of (with_rest v₀ out) xs) (nothing held.0 held.1) (subst (λ (u : View T). RunsTo lane_of seq_of u held.0) drained.is held.2)

  module _ (capacity lanes passes : ℕ) (v₀ v : View T) (out : List T)
      (end : IsEndView lanes passes v₀) (drained : Drained capacity v₀ v out)
      (held : Held 0 (RunsTo lane_of seq_of v)) where
    run : RunsTo lane_of seq_of (with_rest v₀ out) []
    run = last_run capacity v₀ v out drained held

    -- The lanes and passes that were not given out have done nothing.
    lanes_weigh : (f : LaneRecord T → ℕ)
        → ((number : ℕ) → f (record { number = number; accepted = [] }) ≡ 0)
        → total f (lanes_in v₀) ≡ total f v₀.lanes
    lanes_weigh f none = omega (arith, total-append f v₀.spare_lanes v₀.lanes, ap (total f) end.spare_lanes, fresh_lanes_weigh f none lanes (MAX_LANES - lanes))

    passes_weigh : (f : PassRecord T → ℕ)
        → ((number : ℕ) → f (record { number = number; taken = [] }) ≡ 0)
        → total f (passes_in v₀) ≡ total f v₀.passes
    passes_weigh f none = omega (arith, total-append f v₀.spare_passes v₀.passes, ap (total f) end.spare_passes, fresh_passes_weigh f none passes (MAX_PASSES - passes))

    ring_run : length v₀.lanes ≡ lanes
        → length v₀.passes ≡ passes
        → RingRun lane_of seq_of v₀.lanes v₀.passes out
    ring_run all_lanes all_passes = record {
      balance = λ weight. omega (arith, run.balance weight, lanes_weigh (λ l. total weight l.accepted) (λ _. refl), passes_weigh (λ p. total weight p.taken) (λ _. refl));
      seqs = all_back (λ l. AreSeqs lane_of seq_of l.number 0 l.accepted) v₀.spare_lanes v₀.lanes run.seqs;
      rises = all_back (λ p. Rises lane_of seq_of (p.taken ++ out)) v₀.spare_passes v₀.passes drained.rises;
      rest_rises = subst (Rises lane_of seq_of) (append-nil out) run.rest_rises;
      listed = record {
        history = run.listed.history;
        legal = run.listed.legal;
        each_lane = all_back (λ l. l ≡ lane_part run.listed.history l.number) v₀.spare_lanes v₀.lanes run.listed.each_lane;
        each_pass = all_back (λ p. p ≡ pass_part run.listed.history p.number) v₀.spare_passes v₀.passes run.listed.each_pass;
        end = run.listed.end;
        left = run.listed.left;
      };
      no_other_lane = λ k high. no_other_lane run.listed.history lanes v₀.spare_lanes end.spare_lanes end.few_lanes run.listed.legal (all_front (λ l. l ≡ lane_part run.listed.history l.number) v₀.spare_lanes v₀.lanes run.listed.each_lane) k (omega (arith, high, all_lanes));
      no_other_pass = λ k high. no_other_pass run.listed.history passes v₀.spare_passes end.spare_passes end.few_passes run.listed.legal (all_front (λ p. p ≡ pass_part run.listed.history p.number) v₀.spare_passes v₀.passes run.listed.each_pass) k (omega (arith, high, all_passes));
    }

    lanes_there : (k : ℕ) → k < lanes → total (λ l. is_at k l.number) v₀.lanes ≡ 1
    lanes_there k within =
        let number = λ (l : LaneRecord T). is_at k l.number in
        omega (arith, run.numbers k (omega (arith, within, end.few_lanes)), total-append number v₀.spare_lanes v₀.lanes, ap (total number) end.spare_lanes, (fresh-once (fresh_lane {T = T}) (λ r. r.number) (λ _. refl) k lanes (MAX_LANES - lanes)).1 within)

  -- The same, for what contracts see of the end.
  module _ (capacity : ℕ) (end : EndOf T) (v₀ v : View T) (out : List T) (last : IsLast end v₀)
      (drained : Drained capacity v₀ v out) (held : Held 0 (RunsTo lane_of seq_of v)) where
    pub ring_ends : RingRun lane_of seq_of end.back_lanes end.back_passes out
    ring_ends =
        let run = ring_run capacity end.dealt_lanes end.dealt_passes v₀ v out last.known drained held last.all_lanes last.all_passes in
        subst (λ (ps : List (PassRecord T)). RingRun lane_of seq_of end.back_lanes ps out) last.passes (subst (λ (ls : List (LaneRecord T)). RingRun lane_of seq_of ls v₀.passes out) last.lanes run)

    pub lanes_back : (k : ℕ)
        → k < end.dealt_lanes
        → total (λ l. is_at k l.number) end.back_lanes ≡ 1
    lanes_back k within =
        ap (total (λ (l : LaneRecord T). is_at k l.number)) (sym last.lanes) ∙ lanes_there capacity end.dealt_lanes end.dealt_passes v₀ v out last.known drained held k within
