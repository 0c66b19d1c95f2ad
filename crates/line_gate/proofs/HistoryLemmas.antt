-- What a legal history says of the gate's words, and of the records of its lanes and passes.
use Rattle.std.proofs.Common.{◌≡◌, ◌≢◌, ℕ, suc, ◌+◌, ◌*◌, ◌<◌, ◌≤◌, Bool, true, false, cond, eq-eqb, ne_eqb, Option, Some, None, List, [], ◌∷◌, length, sym, refl, ap, ◌∙◌, subst, arith}
use Rattle.std.proofs.lemmas.Bool.{true≢false}
use Rattle.std.specs.List.{AllByRecursion}
use mathlib.Core.Logic.{dite}
use native.Mathlib.Decide.{ℕ_discrete}
use Rattle.ghost_history.specs.Sums.{total, below}
use Rattle.ghost_history.proofs.SumLemmas.{total-push, below-grows, below-same, below-zero, below-ones, below-plus, below-bounded}
use Rattle.ghost_history.proofs.ViewLemmas.{all_weaker, all_append}
use Rattle.cube_shape.specs.declared.limits.TheConstants.{MAX_ENTRIES}
use Rattle.line_gate.specs.declared.gate.Counts.{Counts}
use Rattle.line_gate.specs.declared.record.SettledEntry.{SettledEntry}
use Rattle.line_gate.specs.declared.record.LaneEntries.{LaneEntries}
use Rattle.line_gate.specs.declared.record.Reading.{Reading}
use Rattle.line_gate.specs.declared.record.PassReadings.{PassReadings}
use Rattle.line_gate.specs.Record.{entry, reading, Seals}
use Rattle.line_gate.specs.Inner.Deed.{LaneAct, looks, enters, comes_late, undoes, settles, PassAct, reads_settled, reads_gate, Deed, by_lane, by_pass, closes, entered, counted, settled, is_shut, lane_after, pass_after, lane_part, pass_part, closed_at, LaneMay, PassMay, IsLegal}

-- ---- the record of a member after one more step

pub lane_own : (a : LaneAct) (h : List Deed) (l : ℕ)
    → lane_part (by_lane l a ∷ h) l ≡ lane_after a (lane_part h l)
lane_own a h l = ap (λ b. cond b (lane_after a (lane_part h l)) (lane_part h l)) (eq-eqb l l refl)

pub lane_other : (lane : ℕ) (a : LaneAct) (h : List Deed) (l : ℕ)
    → l ≢ lane
    → lane_part (by_lane lane a ∷ h) l ≡ lane_part h l
lane_other lane a h l other = ap (λ b. cond b (lane_after a (lane_part h l)) (lane_part h l)) (ne_eqb lane l (λ e. other (sym e)))

pub pass_own : (a : PassAct) (h : List Deed) (p : ℕ)
    → pass_part (by_pass p a ∷ h) p ≡ pass_after a (pass_part h p)
pass_own a h p = ap (λ b. cond b (pass_after a (pass_part h p)) (pass_part h p)) (eq-eqb p p refl)

pub pass_other : (pass : ℕ) (a : PassAct) (h : List Deed) (p : ℕ)
    → p ≢ pass
    → pass_part (by_pass pass a ∷ h) p ≡ pass_part h p
pass_other pass a h p other = ap (λ b. cond b (pass_after a (pass_part h p)) (pass_part h p)) (ne_eqb pass p (λ e. other (sym e)))

-- What holds of a member's record before its own step, and of other members' records, holds after
-- it.
lane_cases : (P : LaneEntries → Type 0) (lane : ℕ) (a : LaneAct) (h : List Deed) (l : ℕ)
    → LaneMay h (lane_part h lane) a
    → P (lane_part h l)
    → (LaneMay h (lane_part h l) a → P (lane_after a (lane_part h l)))
    → P (lane_part (by_lane lane a ∷ h) l)
lane_cases P lane a h l may before after =
    dite (ℕ_discrete l lane)
    (λ e. subst (λ k. P (lane_part (by_lane k a ∷ h) l)) e (subst P (sym (lane_own a h l)) (after (subst (λ k. LaneMay h (lane_part h k) a) (sym e) may))))
    (λ ne. subst P (sym (lane_other lane a h l ne)) before)

pass_cases : (P : PassReadings → Type 0) (pass : ℕ) (a : PassAct) (h : List Deed) (p : ℕ)
    → PassMay h (pass_part h pass) a
    → P (pass_part h p)
    → (PassMay h (pass_part h p) a → P (pass_after a (pass_part h p)))
    → P (pass_part (by_pass pass a ∷ h) p)
pass_cases P pass a h p may before after =
    dite (ℕ_discrete p pass)
    (λ e. subst (λ k. P (pass_part (by_pass k a ∷ h) p)) e (subst P (sym (pass_own a h p)) (after (subst (λ k. PassMay h (pass_part h k) a) (sym e) may))))
    (λ ne. subst P (sym (pass_other pass a h p ne)) before)

-- ---- what a lane's entries weigh

abbrev pub pending_weight : (ℕ → ℕ) → Option ℕ → ℕ
pending_weight weight (Some number) = weight number
pending_weight weight None = 0

abbrev pub settled_weight : (ℕ → ℕ) → LaneEntries → ℕ
settled_weight weight r = total (λ (e : SettledEntry). weight e.number) r.entries

-- The entries that the lane made.
abbrev pub made_weight : (ℕ → ℕ) → LaneEntries → ℕ
made_weight weight r = settled_weight weight r + pending_weight weight r.pending

abbrev pub late_weight : Bool → ℕ
late_weight true = 1
late_weight false = 0

abbrev pub one : ℕ → ℕ
one k = 1

pub total_ones : (xs : List SettledEntry)
    → total (λ (e : SettledEntry). one e.number) xs ≡ length xs
total_ones [] = refl
total_ones (x ∷ xs) = omega (arith, total_ones xs)

-- What the gate counts for the lane.
abbrev pub load : LaneEntries → ℕ
load r = made_weight one r + late_weight r.late

-- A lane makes at most MAX_ENTRIES entries.
few_after : (a : LaneAct) (h : List Deed) (r : LaneEntries)
    → LaneMay h r a
    → made_weight one r ≤ MAX_ENTRIES
    → made_weight one (lane_after a r) ≤ MAX_ENTRIES
few_after (looks count true) h r may few = few
few_after (looks count false) h r may few = few
few_after (enters number) h r may few = omega (arith, may.3, total_ones r.entries)
few_after (comes_late count) h r may few = few
few_after undoes h r may few = few
few_after (settles number accepted) h r may few = omega (arith, total-push (λ (e : SettledEntry). one e.number) r.entries (entry number accepted), ap (pending_weight one) may, few)

module _ (counts : Counts) where
  lane_few : (h : List Deed) (l : ℕ)
      → IsLegal counts h
      → made_weight one (lane_part h l) ≤ MAX_ENTRIES
  lane_few [] l legal = omega arith
  lane_few (by_lane lane a ∷ h) l legal = let before = lane_few h l legal.1 in lane_cases (λ r. made_weight one r ≤ MAX_ENTRIES) lane a h l legal.0.1 before (λ may. few_after a h (lane_part h l) may before)
  lane_few (by_pass p a ∷ h) l legal = lane_few h l legal.1
  lane_few (closes number ∷ h) l legal = lane_few h l legal.1

-- ---- sums over the lanes

-- The term of one lane grows or shrinks.
grows : (m : LaneEntries → ℕ) (lane : ℕ) (a : LaneAct) (h : List Deed) (n more : ℕ)
    → lane < n
    → m (lane_after a (lane_part h lane)) ≡ m (lane_part h lane) + more
    → below (λ l. m (lane_part (by_lane lane a ∷ h) l)) n ≡ below (λ l. m (lane_part h l)) n + more
grows m lane a h n more within here = below-grows (λ l. m (lane_part h l)) (λ l. m (lane_part (by_lane lane a ∷ h) l)) n lane more within (ap m (lane_own a h lane) ∙ here) (λ j ne. ap m (lane_other lane a h j ne))

shrinks : (m : LaneEntries → ℕ) (lane : ℕ) (a : LaneAct) (h : List Deed) (n less : ℕ)
    → lane < n
    → m (lane_part h lane) ≡ m (lane_after a (lane_part h lane)) + less
    → below (λ l. m (lane_part h l)) n ≡ below (λ l. m (lane_part (by_lane lane a ∷ h) l)) n + less
shrinks m lane a h n less within here =
    below-grows (λ l. m (lane_part (by_lane lane a ∷ h) l)) (λ l. m (lane_part h l)) n lane less within (here ∙ ap (λ (k : ℕ). k + less) (sym (ap m (lane_own a h lane)))) (λ j ne. sym (ap m (lane_other lane a h j ne)))

module _ (counts : Counts) where
  -- The entries of all lanes have the numbers below the count of entries.
  pub made_sum : (weight : ℕ → ℕ) (h : List Deed)
      → IsLegal counts h
      → below (λ l. made_weight weight (lane_part h l)) counts.lanes ≡ below weight (entered h)
  made_sum weight [] legal = below-zero counts.lanes
  made_sum weight (by_lane lane (looks count true) ∷ h) legal = omega (arith, grows (made_weight weight) lane (looks count true) h counts.lanes 0 legal.0.0 (omega arith), made_sum weight h legal.1)
  made_sum weight (by_lane lane (looks count false) ∷ h) legal = omega (arith, grows (made_weight weight) lane (looks count false) h counts.lanes 0 legal.0.0 (omega arith), made_sum weight h legal.1)
  made_sum weight (by_lane lane (enters number) ∷ h) legal =
      let none : pending_weight weight (lane_part h lane).pending ≡ 0 = ap (pending_weight weight) legal.0.1.2.0 in
      let next : entered h + 1 ≡ suc (entered h) = omega arith in
      let up : below weight (entered h + 1) ≡ below weight (entered h) + weight (entered h) = ap (below weight) next in
      omega (arith, grows (made_weight weight) lane (enters number) h counts.lanes (weight number) legal.0.0 (omega arith), made_sum weight h legal.1, up, ap weight legal.0.1.0)
  made_sum weight (by_lane lane (comes_late count) ∷ h) legal = omega (arith, grows (made_weight weight) lane (comes_late count) h counts.lanes 0 legal.0.0 (omega arith), made_sum weight h legal.1)
  made_sum weight (by_lane lane undoes ∷ h) legal = omega (arith, grows (made_weight weight) lane undoes h counts.lanes 0 legal.0.0 (omega arith), made_sum weight h legal.1)
  made_sum weight (by_lane lane (settles number accepted) ∷ h) legal =
      let was : pending_weight weight (lane_part h lane).pending ≡ weight number = ap (pending_weight weight) legal.0.1 in
      let more = total-push (λ (e : SettledEntry). weight e.number) (lane_part h lane).entries (entry number accepted) in
      omega (arith, grows (made_weight weight) lane (settles number accepted) h counts.lanes 0 legal.0.0 (omega arith), made_sum weight h legal.1)
  made_sum weight (by_pass p a ∷ h) legal = made_sum weight h legal.1
  made_sum weight (closes number ∷ h) legal = made_sum weight h legal.1

  pub counted_sum : (h : List Deed)
      → IsLegal counts h
      → counted h ≡ below (λ l. load (lane_part h l)) counts.lanes
  counted_sum [] legal = sym (below-zero counts.lanes)
  counted_sum (by_lane lane (looks count true) ∷ h) legal = omega (arith, grows load lane (looks count true) h counts.lanes 0 legal.0.0 (omega arith), counted_sum h legal.1)
  counted_sum (by_lane lane (looks count false) ∷ h) legal = omega (arith, grows load lane (looks count false) h counts.lanes 0 legal.0.0 (omega arith), counted_sum h legal.1)
  counted_sum (by_lane lane (enters number) ∷ h) legal =
      let none : pending_weight one (lane_part h lane).pending ≡ 0 = ap (pending_weight one) legal.0.1.2.0 in
      omega (arith, grows load lane (enters number) h counts.lanes 1 legal.0.0 (omega arith), counted_sum h legal.1)
  counted_sum (by_lane lane (comes_late count) ∷ h) legal =
      let none : late_weight (lane_part h lane).late ≡ 0 = ap late_weight legal.0.1.2.1 in
      omega (arith, grows load lane (comes_late count) h counts.lanes 1 legal.0.0 (omega arith), counted_sum h legal.1)
  counted_sum (by_lane lane undoes ∷ h) legal =
      let was : late_weight (lane_part h lane).late ≡ 1 = ap late_weight legal.0.1 in
      omega (arith, shrinks load lane undoes h counts.lanes 1 legal.0.0 (omega arith), counted_sum h legal.1)
  counted_sum (by_lane lane (settles number accepted) ∷ h) legal =
      let was : pending_weight one (lane_part h lane).pending ≡ 1 = ap (pending_weight one) legal.0.1 in
      let more = total-push (λ (e : SettledEntry). one e.number) (lane_part h lane).entries (entry number accepted) in
      omega (arith, grows load lane (settles number accepted) h counts.lanes 0 legal.0.0 (omega arith), counted_sum h legal.1)
  counted_sum (by_pass p a ∷ h) legal = counted_sum h legal.1
  counted_sum (closes number ∷ h) legal = counted_sum h legal.1

  pub settled_sum : (h : List Deed)
      → IsLegal counts h
      → settled h ≡ below (λ l. settled_weight one (lane_part h l)) counts.lanes
  settled_sum [] legal = sym (below-zero counts.lanes)
  settled_sum (by_lane lane (looks count true) ∷ h) legal = omega (arith, grows (settled_weight one) lane (looks count true) h counts.lanes 0 legal.0.0 (omega arith), settled_sum h legal.1)
  settled_sum (by_lane lane (looks count false) ∷ h) legal = omega (arith, grows (settled_weight one) lane (looks count false) h counts.lanes 0 legal.0.0 (omega arith), settled_sum h legal.1)
  settled_sum (by_lane lane (enters number) ∷ h) legal = omega (arith, grows (settled_weight one) lane (enters number) h counts.lanes 0 legal.0.0 (omega arith), settled_sum h legal.1)
  settled_sum (by_lane lane (comes_late count) ∷ h) legal = omega (arith, grows (settled_weight one) lane (comes_late count) h counts.lanes 0 legal.0.0 (omega arith), settled_sum h legal.1)
  settled_sum (by_lane lane undoes ∷ h) legal = omega (arith, grows (settled_weight one) lane undoes h counts.lanes 0 legal.0.0 (omega arith), settled_sum h legal.1)
  settled_sum (by_lane lane (settles number accepted) ∷ h) legal =
      let more = total-push (λ (e : SettledEntry). one e.number) (lane_part h lane).entries (entry number accepted) in
      omega (arith, grows (settled_weight one) lane (settles number accepted) h counts.lanes 1 legal.0.0 (omega arith), settled_sum h legal.1)
  settled_sum (by_pass p a ∷ h) legal = settled_sum h legal.1
  settled_sum (closes number ∷ h) legal = settled_sum h legal.1

  -- ---- how the counts compare

  entered_sum : (h : List Deed)
      → IsLegal counts h
      → below (λ l. made_weight one (lane_part h l)) counts.lanes ≡ entered h
  entered_sum h legal = made_sum one h legal ∙ below-ones (entered h)

  counted_parts : (h : List Deed)
      → IsLegal counts h
      → counted h ≡ entered h + below (λ l. late_weight (lane_part h l).late) counts.lanes
  counted_parts h legal = omega (arith, counted_sum h legal, below-plus (λ l. made_weight one (lane_part h l)) (λ l. late_weight (lane_part h l).late) counts.lanes, entered_sum h legal)

  pub entered_counted : (h : List Deed) → IsLegal counts h → entered h ≤ counted h
  entered_counted h legal = omega (arith, counted_parts h legal)

  pub settled_entered : (h : List Deed) → IsLegal counts h → settled h ≤ entered h
  settled_entered h legal = omega (arith, settled_sum h legal, below-plus (λ l. settled_weight one (lane_part h l)) (λ l. pending_weight one (lane_part h l).pending) counts.lanes, entered_sum h legal)

  late_few : (b : Bool) → late_weight b ≤ 1
  late_few true = omega arith
  late_few false = omega arith

  -- The count stays far below the closed mark.
  pub counted_bounded : (h : List Deed)
      → IsLegal counts h
      → counted h ≤ counts.lanes * (MAX_ENTRIES + 1)
  counted_bounded h legal = omega (arith, counted_sum h legal, below-bounded (λ l. load (lane_part h l)) (MAX_ENTRIES + 1) counts.lanes (λ l. omega (arith, lane_few counts h l legal, late_few (lane_part h l).late)))

  -- A lane whose late entry is not undone is counted.
  pub late_counted : (h : List Deed) (lane : ℕ)
      → IsLegal counts h
      → lane < counts.lanes
      → (lane_part h lane).late ≡ true
      → 1 ≤ counted h
  late_counted h lane legal within late =
      let was : late_weight (lane_part h lane).late ≡ 1 = ap late_weight late in
      omega (arith, shrinks load lane undoes h counts.lanes 1 within (omega arith), counted_sum h legal)

  -- No lane is late before the close.
  none_late : (h : List Deed) (l : ℕ)
      → IsLegal counts h
      → is_shut h ≡ false
      → (lane_part h l).late ≡ false
  none_late [] l legal still = refl
  none_late (by_lane lane (looks count true) ∷ h) l legal still = let before = none_late h l legal.1 still in lane_cases (λ r. r.late ≡ false) lane (looks count true) h l legal.0.1 before (λ may. before)
  none_late (by_lane lane (looks count false) ∷ h) l legal still = let before = none_late h l legal.1 still in lane_cases (λ r. r.late ≡ false) lane (looks count false) h l legal.0.1 before (λ may. before)
  none_late (by_lane lane (enters number) ∷ h) l legal still = let before = none_late h l legal.1 still in lane_cases (λ r. r.late ≡ false) lane (enters number) h l legal.0.1 before (λ may. before)
  none_late (by_lane lane (comes_late count) ∷ h) l legal still = absurd (true≢false (sym legal.0.1.1 ∙ still))
  none_late (by_lane lane undoes ∷ h) l legal still = lane_cases (λ r. r.late ≡ false) lane undoes h l legal.0.1 (none_late h l legal.1 still) (λ may. refl)
  none_late (by_lane lane (settles number accepted) ∷ h) l legal still = let before = none_late h l legal.1 still in lane_cases (λ r. r.late ≡ false) lane (settles number accepted) h l legal.0.1 before (λ may. before)
  none_late (by_pass p a ∷ h) l legal still = none_late h l legal.1 still
  none_late (closes number ∷ h) l legal still = absurd (true≢false still)

  -- Before the close the gate counts the entries.
  pub counted_open : (h : List Deed) → IsLegal counts h → is_shut h ≡ false → counted h ≡ entered h
  counted_open h legal still =
      let none : below (λ l. late_weight (lane_part h l).late) counts.lanes ≡ below (λ l. 0) counts.lanes = below-same (λ l. late_weight (lane_part h l).late) (λ l. 0) counts.lanes (λ l within. ap late_weight (none_late h l legal still)) in
      omega (arith, counted_parts h legal, below-zero counts.lanes)

  -- ---- the close

  pub open_before : (h : List Deed) → closed_at h ≡ None → is_shut h ≡ false
  open_before [] none = refl
  open_before (by_lane lane a ∷ h) none = open_before h none
  open_before (by_pass p a ∷ h) none = open_before h none
  open_before (closes number ∷ h) none = absurd (some_none none)
    where
      some_none : {n : ℕ} → Some n ≡ None → ⊥
      some_none e = cc

  pub closed_count : (h : List Deed) (number : ℕ)
      → IsLegal counts h
      → closed_at h ≡ Some number
      → (is_shut h ≡ true) × (entered h ≡ number)
  closed_count [] number legal closed = absurd (none_some closed)
    where
      none_some : {n : ℕ} → None ≡ Some n → ⊥
      none_some e = cc
  closed_count (by_lane lane (looks count mark) ∷ h) number legal closed = closed_count h number legal.1 closed
  closed_count (by_lane lane (enters n) ∷ h) number legal closed = absurd (true≢false (sym (closed_count h number legal.1 closed).0 ∙ legal.0.1.1))
  closed_count (by_lane lane (comes_late count) ∷ h) number legal closed = closed_count h number legal.1 closed
  closed_count (by_lane lane undoes ∷ h) number legal closed = closed_count h number legal.1 closed
  closed_count (by_lane lane (settles n accepted) ∷ h) number legal closed = closed_count h number legal.1 closed
  closed_count (by_pass p a ∷ h) number legal closed = closed_count h number legal.1 closed
  closed_count (closes n ∷ h) number legal closed = (refl, sym legal.0.1 ∙ ap (pending_weight (λ k. k)) closed)

  -- ---- counts that were read with the closed mark

  abbrev pub Stands : List Deed → ℕ → Type 0
  Stands h n = (is_shut h ≡ true) × (entered h ≤ n)

  -- While the gate is open, no count was seen.
  none_stands : (h h' : List Deed)
      → is_shut h ≡ false
      → (ns : List ℕ)
      → AllByRecursion (Stands h) ns
      → AllByRecursion (Stands h') ns
  none_stands h h' still ns all = all_weaker (Stands h) (Stands h') (λ n stands. absurd (true≢false (sym stands.0 ∙ still))) ns all

  abbrev SeenStand : List Deed → LaneEntries → Type 0
  SeenStand h r = AllByRecursion (Stands h) r.seen

  pub seen_stand : (h : List Deed) (l : ℕ)
      → IsLegal counts h
      → AllByRecursion (Stands h) (lane_part h l).seen
  seen_stand [] l legal = tt
  seen_stand (by_lane lane (looks count true) ∷ h) l legal =
      let before = seen_stand h l legal.1 in
      lane_cases (SeenStand h) lane (looks count true) h l legal.0.1 before (λ may. all_append (Stands h) (lane_part h l).seen (count ∷ []) before ((sym may.1, omega (arith, may.0, entered_counted h legal.1)), tt))
  seen_stand (by_lane lane (looks count false) ∷ h) l legal = let before = seen_stand h l legal.1 in lane_cases (SeenStand h) lane (looks count false) h l legal.0.1 before (λ may. before)
  seen_stand (by_lane lane (enters number) ∷ h) l legal =
      let after = by_lane lane (enters number) ∷ h in
      let before = none_stands h after legal.0.1.1 (lane_part h l).seen (seen_stand h l legal.1) in lane_cases (SeenStand after) lane (enters number) h l legal.0.1 before (λ may. before)
  seen_stand (by_lane lane (comes_late count) ∷ h) l legal =
      let before = seen_stand h l legal.1 in
      lane_cases (SeenStand h) lane (comes_late count) h l legal.0.1 before (λ may. all_append (Stands h) (lane_part h l).seen (count ∷ []) before ((may.1, omega (arith, may.0, entered_counted h legal.1)), tt))
  seen_stand (by_lane lane undoes ∷ h) l legal = let before = seen_stand h l legal.1 in lane_cases (SeenStand h) lane undoes h l legal.0.1 before (λ may. before)
  seen_stand (by_lane lane (settles number accepted) ∷ h) l legal = let before = seen_stand h l legal.1 in lane_cases (SeenStand h) lane (settles number accepted) h l legal.0.1 before (λ may. before)
  seen_stand (by_pass p a ∷ h) l legal = seen_stand h l legal.1
  seen_stand (closes number ∷ h) l legal = none_stands h (closes number ∷ h) legal.0.0 (lane_part h l).seen (seen_stand h l legal.1)

  -- ---- readings

  -- A reading with the closed mark shows at most the settled entries, and at least the counted
  -- ones.
  abbrev pub Fixed : List Deed → Reading → Type 0
  Fixed h r = r.closed ≡ true → (is_shut h ≡ true) × (r.settled ≤ entered h) × (entered h ≤ r.counted)

  abbrev IsHalfRead : List Deed → Option ℕ → Type 0
  IsHalfRead h (Some n) = n ≤ entered h
  IsHalfRead h None = Unit {0}

  abbrev IsRead : List Deed → PassReadings → Type 0
  IsRead h r = IsHalfRead h r.settled × AllByRecursion (Fixed h) r.readings

  none_fixed : (h h' : List Deed)
      → is_shut h ≡ false
      → (rs : List Reading)
      → AllByRecursion (Fixed h) rs
      → AllByRecursion (Fixed h') rs
  none_fixed h h' still rs all = all_weaker (Fixed h) (Fixed h') (λ r fixed shut. absurd (true≢false (sym (fixed shut).0 ∙ still))) rs all

  more_read : (h : List Deed) (l number : ℕ) (o : Option ℕ)
      → IsHalfRead h o
      → IsHalfRead (by_lane l (enters number) ∷ h) o
  more_read h l number (Some n) half = omega arith
  more_read h l number None half = tt

  closed_read : (h : List Deed) (number : ℕ) (o : Option ℕ)
      → IsHalfRead h o
      → IsHalfRead (closes number ∷ h) o
  closed_read h number (Some n) half = half
  closed_read h number None half = tt

  pub are_read : (h : List Deed) (p : ℕ) → IsLegal counts h → IsRead h (pass_part h p)
  are_read [] p legal = (tt, tt)
  are_read (by_lane l (looks count mark) ∷ h) p legal = are_read h p legal.1
  are_read (by_lane l (enters number) ∷ h) p legal =
      let before = are_read h p legal.1 in
      let r = pass_part h p in (more_read h l number r.settled before.0, none_fixed h (by_lane l (enters number) ∷ h) legal.0.1.1 r.readings before.1)
  are_read (by_lane l (comes_late count) ∷ h) p legal = are_read h p legal.1
  are_read (by_lane l undoes ∷ h) p legal = are_read h p legal.1
  are_read (by_lane l (settles number accepted) ∷ h) p legal = are_read h p legal.1
  are_read (by_pass pass (reads_settled count) ∷ h) p legal =
      let before = are_read h p legal.1 in
      pass_cases (IsRead h) pass (reads_settled count) h p legal.0.1 before (λ may. (omega (arith, may, settled_entered h legal.1), before.1))
  are_read (by_pass pass (reads_gate count n mark) ∷ h) p legal =
      let before = are_read h p legal.1 in
      pass_cases (IsRead h) pass (reads_gate count n mark) h p legal.0.1 before
      (λ may. (tt, all_append (Fixed h) (pass_part h p).readings (reading count n mark ∷ []) before.1 ((λ shut. (sym may.2 ∙ shut, subst (IsHalfRead h) may.0 before.0, omega (arith, may.1, entered_counted h legal.1))), tt)))
  are_read (closes number ∷ h) p legal =
      let before = are_read h p legal.1 in
      let r = pass_part h p in (closed_read h number r.settled before.0, none_fixed h (closes number ∷ h) legal.0.0 r.readings before.1)

  -- A reading that seals has all entries settled.
  pub sealed : (h : List Deed) (r : Reading) → Fixed h r → Seals r → r.settled ≡ entered h
  sealed h r fixed seals = let t = fixed seals.0 in omega (arith, t.1, t.2, seals.1)
