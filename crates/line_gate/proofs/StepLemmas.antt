-- Each step of a seat on a gate's table keeps the rule.
use Rattle.std.proofs.Common.{◌≡◌, ◌≢◌, ℕ, zero, suc, ◌+◌, ◌-◌, ◌*◌, ◌%◌, ◌^◌, ◌<◌, ◌≤◌, ◌⊎◌, ⊎_elim, inl, inr, Bool, true, false, Some, None, List, [], ◌∷◌, length, get_or, set, sym, refl, ap, ◌∙◌, subst, arith}
use Rattle.std.specs.Int.RustNames.{bit_or}
use Rattle.std.proofs.lemmas.Nat.{or_comm, or_shifted}
use mathlib.Core.Option.{some, none}
use lib.ListN.{get_elem?}
use Rattle.atomic_table.specs.Table.{State, keeps, step, stepped, Allows}
use Rattle.ghost_history.proofs.ViewLemmas.{stays, steps}
use Rattle.line_gate.specs.declared.gate.TheConstants.{CLOSED}
use Rattle.cube_shape.specs.declared.limits.TheConstants.{MAX_ENTRIES}
use Rattle.line_gate.specs.declared.gate.Counts.{Counts}
use Rattle.line_gate.specs.declared.record.LaneEntries.{LaneEntries}
use Rattle.line_gate.specs.declared.record.PassReadings.{PassReadings}
use Rattle.line_gate.specs.declared.view.CloserRecord.{CloserRecord}
use Rattle.line_gate.specs.declared.view.View.{View}
use Rattle.line_gate.specs.Record.{IsSettled, after_look, after_enter, after_late_enter, after_settle, after_read_gate}
use Rattle.line_gate.specs.Inner.View.{closer, lane_view, pass_view, closer_view}
use Rattle.line_gate.specs.Inner.Deed.{LaneAct, looks, enters, comes_late, undoes, settles, PassAct, reads_settled, reads_gate, Deed, by_lane, by_pass, closes, entered, counted, settled, is_shut, gate_word, words_of, lane_after, pass_after, lane_part, pass_part, closed_at, closer_part, LaneMay, PassMay, May}
use Rattle.line_gate.specs.Inner.Rule.{Keeps}
use Rattle.line_gate.specs.Inner.Step.{Sat, lane_in, pass_in, number_in, IsLaneSeat, IsPassSeat, IsCloserSeat, looks_at, enters_at, undoes_at, settles_at, closes_at, reads_settled_at, reads_gate_at}
use Rattle.line_gate.proofs.HistoryLemmas.{lane_own, lane_other, pass_own, pass_other, entered_counted, settled_entered, counted_bounded, late_counted, counted_open, open_before}

abbrev pub St : Type 0
St = State (Unit {0}) View

abbrev pub lanes_in : View → List LaneEntries
lanes_in v = v.lanes

abbrev pub passes_in : View → List PassReadings
passes_in v = v.passes

abbrev pub closers_in : View → List CloserRecord
closers_in v = v.closers

abbrev pub lane_number : LaneEntries → ℕ
lane_number r = r.number

abbrev pub pass_number : PassReadings → ℕ
pass_number r = r.number

abbrev pub closer_number : CloserRecord → ℕ
closer_number r = 0

-- The mark is set, or it is not.
shut_or_open : (b : Bool) → (b ≡ true) ⊎ (b ≡ false)
shut_or_open true = inl refl
shut_or_open false = inr refl

-- ---- the words

module _ (h : List Deed) (ws : List ℕ) (is : ws ≡ words_of h) where
  gate_now : get_or ws 0 0 ≡ gate_word (counted h) (is_shut h)
  gate_now = ap (λ (xs : List ℕ). get_or xs 0 0) is

  settled_now : get_or ws 1 0 ≡ settled h
  settled_now = ap (λ (xs : List ℕ). get_or xs 1 0) is

  -- The first word, and the second, after one more step.
  gate_next : (d : Deed) (new : ℕ)
      → new ≡ gate_word (counted (d ∷ h)) (is_shut (d ∷ h))
      → settled (d ∷ h) ≡ settled h
      → set ws 0 new ≡ words_of (d ∷ h)
  gate_next d new gate same = ap (λ (xs : List ℕ). set xs 0 new) is ∙ (ap (λ (x : ℕ). x ∷ settled h ∷ []) gate ∙ ap (λ (x : ℕ). gate_word (counted (d ∷ h)) (is_shut (d ∷ h)) ∷ x ∷ []) (sym same))

  settled_next : (d : Deed) (new : ℕ)
      → new ≡ settled (d ∷ h)
      → counted (d ∷ h) ≡ counted h
      → is_shut (d ∷ h) ≡ is_shut h
      → set ws 1 new ≡ words_of (d ∷ h)
  settled_next d new count same_count same_mark = ap (λ (xs : List ℕ). set xs 1 new) is ∙ (ap (λ (x : ℕ). gate_word (counted h) (is_shut h) ∷ x ∷ []) count ∙ ap (λ (x : ℕ). x ∷ settled (d ∷ h) ∷ []) (sym (ap (λ (n : ℕ). gate_word n (is_shut (d ∷ h))) same_count ∙ ap (gate_word (counted h)) same_mark)))

-- ---- the history with one more step

module _ (counts : Counts) (s : St) (k : Keeps counts s) (id : ℕ) where
  closer_same : (d : Deed)
      → closed_at (d ∷ k.history) ≡ closed_at k.history
      → (j : ℕ)
      → closer_part (d ∷ k.history) j ≡ closer_part k.history j
  closer_same d same zero = ap closer same
  closer_same d same (suc j) = refl

  lane_next : (r : LaneEntries)
      → get_elem? s.views id ≡ some (lane_view r)
      → (a : LaneAct) (i new : ℕ)
      → (lane_after a r).number ≡ r.number
      → LaneMay k.history r a
      → set s.words i new ≡ words_of (by_lane r.number a ∷ k.history)
      → Keeps counts (stepped s i new id [] (lane_view (lane_after a r)) keeps)
  lane_next r me a i new same_number may words =
      let v = lane_view r in
      let w = lane_view (lane_after a r) in
      let d = by_lane r.number a in
      let mine = (k.lanes.each id v me).0 in
      record {
        history = d ∷ k.history;
        legal = ((mine.1, subst (λ (z : LaneEntries). LaneMay k.history z a) mine.0 may), k.legal);
        few = k.few;
        words = words;
        lanes = steps lanes_in lane_number s.views k.lanes id v me (lane_part (d ∷ k.history)) w r (lane_after a r) refl refl same_number (lane_own a k.history r.number ∙ ap (lane_after a) (sym mine.0)) (λ j ne. lane_other r.number a k.history j ne);
        passes = stays passes_in pass_number s.views k.passes id v me (pass_part (d ∷ k.history)) w refl (λ p. refl);
        closers = stays closers_in closer_number s.views k.closers id v me (closer_part (d ∷ k.history)) w refl (closer_same d refl);
      }

  pass_next : (r : PassReadings)
      → get_elem? s.views id ≡ some (pass_view r)
      → (a : PassAct) (i new : ℕ)
      → (pass_after a r).number ≡ r.number
      → PassMay k.history r a
      → set s.words i new ≡ words_of (by_pass r.number a ∷ k.history)
      → Keeps counts (stepped s i new id [] (pass_view (pass_after a r)) keeps)
  pass_next r me a i new same_number may words =
      let v = pass_view r in
      let w = pass_view (pass_after a r) in
      let d = by_pass r.number a in
      let mine = (k.passes.each id v me).0 in
      record {
        history = d ∷ k.history;
        legal = ((mine.1, subst (λ (z : PassReadings). PassMay k.history z a) mine.0 may), k.legal);
        few = k.few;
        words = words;
        lanes = stays lanes_in lane_number s.views k.lanes id v me (lane_part (d ∷ k.history)) w refl (λ l. refl);
        passes = steps passes_in pass_number s.views k.passes id v me (pass_part (d ∷ k.history)) w r (pass_after a r) refl refl same_number (pass_own a k.history r.number ∙ ap (pass_after a) (sym mine.0)) (λ j ne. pass_other r.number a k.history j ne);
        closers = stays closers_in closer_number s.views k.closers id v me (closer_part (d ∷ k.history)) w refl (closer_same d refl);
      }

  only_closer : (d : Deed) (j : ℕ) → j ≢ 0 → closer_part (d ∷ k.history) j ≡ closer_part k.history j
  only_closer d zero other = absurd (other refl)
  only_closer d (suc j) other = refl

  closer_next : (number i new : ℕ)
      → get_elem? s.views id ≡ some (closer_view None)
      → May counts k.history (closes number)
      → set s.words i new ≡ words_of (closes number ∷ k.history)
      → Keeps counts (stepped s i new id [] (closer_view (Some number)) keeps)
  closer_next number i new me may words =
      let v = closer_view None in
      let w = closer_view (Some number) in
      let d = closes number in
      record {
        history = d ∷ k.history;
        legal = (may, k.legal);
        few = k.few;
        words = words;
        lanes = stays lanes_in lane_number s.views k.lanes id v me (lane_part (d ∷ k.history)) w refl (λ l. refl);
        passes = stays passes_in pass_number s.views k.passes id v me (pass_part (d ∷ k.history)) w refl (λ p. refl);
        closers = steps closers_in closer_number s.views k.closers id v me (closer_part (d ∷ k.history)) w (closer None) (closer (Some number)) refl refl refl refl (only_closer d);
      }

  -- ---- the first word, with and without the mark

  bounded : counted k.history + 1 < CLOSED
  bounded = omega (arith, counted_bounded counts k.history k.legal, k.few)

  gate_shut : is_shut k.history ≡ true → get_or s.words 0 0 ≡ counted k.history + CLOSED
  gate_shut shut = gate_now k.history s.words k.words ∙ ap (gate_word (counted k.history)) shut

  gate_open : is_shut k.history ≡ false → get_or s.words 0 0 ≡ counted k.history
  gate_open still = let zero_more : counted k.history + 0 ≡ counted k.history = omega arith in gate_now k.history s.words k.words ∙ (ap (gate_word (counted k.history)) still ∙ zero_more)

-- ---- the steps of a lane

pub look_step : (counts : Counts) (n id : ℕ) (m : Sat)
    → IsLaneSeat m
    → Allows (Keeps counts) n id m 0 (λ x. x) (looks_at (step n 0 0 0 none) m)
look_step counts n id m is = subst (λ (z : Sat). Allows (Keeps counts) n id z 0 (λ x. x) (looks_at (step n 0 0 0 none) z)) (sym is)
    (λ s k homes me small.
    let r = lane_in m.0.lanes in
    let h = k.history in
    let found = get_or s.words 0 0 in
    ⊎_elim
    (λ (shut : is_shut h ≡ true).
    let at : found ≡ counted h + CLOSED = gate_shut counts s k id shut in
    let count : counted h ≡ found - CLOSED = omega (arith, at) in
    let words = gate_next h s.words k.words (by_lane r.number (looks (counted h) true)) found (gate_now h s.words k.words) refl in (
      lane_view (after_look (counted h) r),
      keeps,
      tt,
      lane_next counts s k id r me (looks (counted h) true) 0 found refl (refl, sym shut) words,
      (λ below_it. absurd (omega (arith, at)), λ above. ap (λ (c : ℕ). (lane_view (after_look c r), [])) count),
    ))
    (λ (still : is_shut h ≡ false).
    let at : found ≡ counted h = gate_open counts s k id still in
    let words = gate_next h s.words k.words (by_lane r.number (looks (counted h) false)) found (gate_now h s.words k.words) refl in (
      lane_view r,
      keeps,
      tt,
      lane_next counts s k id r me (looks (counted h) false) 0 found refl (refl, sym still) words,
      (λ below_it. refl, λ above. absurd (omega (arith, at, bounded counts s k id))),
    ))
    (shut_or_open (is_shut h)))

pub enter_step : (counts : Counts) (n id : ℕ) (m : Sat)
    → IsLaneSeat m
    → IsSettled (lane_in m.0.lanes)
    → length (lane_in m.0.lanes).entries < MAX_ENTRIES
    → Allows (Keeps counts) n id m 0 (λ x. (x + 1) % 2 ^ 64) (enters_at (step n 0 1 0 none) m)
enter_step counts n id m is idle unspent = subst (λ (z : Sat). Allows (Keeps counts) n id z 0 (λ x. (x + 1) % 2 ^ 64) (enters_at (step n 0 1 0 none) z)) (sym is)
    (λ s k homes me small.
    let r = lane_in m.0.lanes in
    let h = k.history in
    let found = get_or s.words 0 0 in
    let few = bounded counts s k id in
    ⊎_elim
    (λ (shut : is_shut h ≡ true).
    let at : found ≡ counted h + CLOSED = gate_shut counts s k id shut in
    let count : counted h ≡ found - CLOSED = omega (arith, at) in
    let up : (found + 1) % 2 ^ 64 ≡ (counted h + 1) + CLOSED = omega (arith, at, few) in
    let words = gate_next h s.words k.words (by_lane r.number (comes_late (counted h))) ((found + 1) % 2 ^ 64) (up ∙ ap (gate_word (counted h + 1)) (sym shut)) refl in (
      lane_view (after_late_enter (counted h) r),
      keeps,
      tt,
      lane_next counts s k id r me (comes_late (counted h)) 0 ((found + 1) % 2 ^ 64) refl (refl, shut, idle) words,
      (λ below_it. absurd (omega (arith, at)), λ above. ap (λ (c : ℕ). (lane_view (after_late_enter c r), [])) count),
    ))
    (λ (still : is_shut h ≡ false).
    let at : found ≡ counted h = gate_open counts s k id still in
    let number : entered h ≡ found = sym (at ∙ counted_open counts h k.legal still) in
    let up : (found + 1) % 2 ^ 64 ≡ (counted h + 1) + 0 = omega (arith, at, few) in
    let words = gate_next h s.words k.words (by_lane r.number (enters (entered h))) ((found + 1) % 2 ^ 64) (up ∙ ap (gate_word (counted h + 1)) (sym still)) refl in (
      lane_view (after_enter (entered h) r),
      keeps,
      tt,
      lane_next counts s k id r me (enters (entered h)) 0 ((found + 1) % 2 ^ 64) refl (refl, still, idle, unspent) words,
      (λ below_it. ap (λ (c : ℕ). (lane_view (after_enter c r), [])) number, λ above. absurd (omega (arith, at, few))),
    ))
    (shut_or_open (is_shut h)))

pub undo_step : (counts : Counts) (n id : ℕ) (m : Sat)
    → IsLaneSeat m
    → (lane_in m.0.lanes).late ≡ true
    → Allows (Keeps counts) n id m 0 (λ x. (x + (2 ^ 64 - 1)) % 2 ^ 64)
    (undoes_at (step n 0 1 0 none) m)
undo_step counts n id m is late = subst (λ (z : Sat). Allows (Keeps counts) n id z 0 (λ x. (x + (2 ^ 64 - 1)) % 2 ^ 64) (undoes_at (step n 0 1 0 none) z)) (sym is)
    (λ s k homes me small.
    let r = lane_in m.0.lanes in
    let h = k.history in
    let found = get_or s.words 0 0 in
    let mine = (k.lanes.each id (lane_view r) me).0 in
    let some_count : 1 ≤ counted h = late_counted counts h r.number k.legal mine.1 (subst (λ (z : LaneEntries). z.late ≡ true) mine.0 late) in
    let down : (found + (2 ^ 64 - 1)) % 2 ^ 64 ≡ gate_word (counted h - 1) (is_shut h) = ⊎_elim
    (λ (shut : is_shut h ≡ true). let at : found ≡ counted h + CLOSED = gate_shut counts s k id shut in let less : (found + (2 ^ 64 - 1)) % 2 ^ 64 ≡ (counted h - 1) + CLOSED = omega (arith, at, bounded counts s k id) in less ∙ ap (gate_word (counted h - 1)) (sym shut))
    (λ (still : is_shut h ≡ false). let at : found ≡ counted h = gate_open counts s k id still in let less : (found + (2 ^ 64 - 1)) % 2 ^ 64 ≡ (counted h - 1) + 0 = omega (arith, at, bounded counts s k id) in less ∙ ap (gate_word (counted h - 1)) (sym still))
    (shut_or_open (is_shut h)) in (
      lane_view (lane_after undoes r),
      keeps,
      tt,
      lane_next counts s k id r me undoes 0 ((found + (2 ^ 64 - 1)) % 2 ^ 64) refl late (gate_next h s.words k.words (by_lane r.number undoes) ((found + (2 ^ 64 - 1)) % 2 ^ 64) down refl),
      refl,
    ))

pub settle_step : (accepted : Bool) (counts : Counts) (n id : ℕ) (m : Sat) (number : ℕ)
    → IsLaneSeat m
    → (lane_in m.0.lanes).pending ≡ Some number
    → Allows (Keeps counts) n id m 1 (λ x. (x + 1) % 2 ^ 64)
    (settles_at accepted (step n 1 1 0 none) m)
settle_step accepted counts n id m number is pending = subst (λ (z : Sat). Allows (Keeps counts) n id z 1 (λ x. (x + 1) % 2 ^ 64) (settles_at accepted (step n 1 1 0 none) z)) (sym is)
    (λ s k homes me small.
    let r = lane_in m.0.lanes in
    let h = k.history in
    let found = get_or s.words 1 0 in
    let at : found ≡ settled h = settled_now h s.words k.words in
    let up : (found + 1) % 2 ^ 64 ≡ settled h + 1 = omega (arith, at, settled_entered counts h k.legal, entered_counted counts h k.legal, bounded counts s k id) in
    let same_number : number ≡ number_in r.pending = sym (ap number_in pending) in (
      lane_view (lane_after (settles number accepted) r),
      keeps,
      tt,
      lane_next counts s k id r me (settles number accepted) 1 ((found + 1) % 2 ^ 64) refl pending (settled_next h s.words k.words (by_lane r.number (settles number accepted)) ((found + 1) % 2 ^ 64) up refl refl),
      ap (λ (c : ℕ). (lane_view (after_settle c accepted r), [])) same_number,
    ))

-- ---- the step of the closer

or_mark : (count : ℕ) → count < CLOSED → bit_or count CLOSED ≡ count + CLOSED
or_mark count small = let e : 1 * 2 ^ 63 + count ≡ count + CLOSED = omega arith in or_comm count CLOSED ∙ (or_shifted 1 63 count small ∙ e)

pub close_step : (counts : Counts) (n id : ℕ) (m : Sat)
    → IsCloserSeat m
    → Allows (Keeps counts) n id m 0 (λ x. bit_or x CLOSED) (closes_at (step n 0 CLOSED 0 none) m)
close_step counts n id m is = subst (λ (z : Sat). Allows (Keeps counts) n id z 0 (λ x. bit_or x CLOSED) (closes_at (step n 0 CLOSED 0 none) z)) (sym is)
    (λ s k homes me small.
    let h = k.history in
    let found = get_or s.words 0 0 in
    let mine = (k.closers.each id (closer_view None) me).0 in
    let none_yet : closed_at h ≡ None = ap (λ (c : CloserRecord). c.closed_at) (sym mine.0) in
    let still = open_before counts h none_yet in
    let at : found ≡ counted h = gate_open counts s k id still in
    let few : found < CLOSED = omega (arith, at, bounded counts s k id) in
    let up : bit_or found CLOSED ≡ gate_word (counted h) true = or_mark found few ∙ ap (λ (c : ℕ). c + CLOSED) at in (
      closer_view (Some found),
      keeps,
      tt,
      closer_next counts s k id found 0 (bit_or found CLOSED) me (still, at ∙ counted_open counts h k.legal still) (gate_next h s.words k.words (closes found) (bit_or found CLOSED) up refl),
      (few, refl),
    ))

-- ---- the steps of a pass

pub read_settled_step : (counts : Counts) (n id : ℕ) (m : Sat)
    → IsPassSeat m
    → Allows (Keeps counts) n id m 1 (λ x. x) (reads_settled_at (step n 1 0 0 none) m)
read_settled_step counts n id m is = subst (λ (z : Sat). Allows (Keeps counts) n id z 1 (λ x. x) (reads_settled_at (step n 1 0 0 none) z)) (sym is)
    (λ s k homes me small.
    let r = pass_in m.0.passes in
    let h = k.history in
    let found = get_or s.words 1 0 in
    let at : found ≡ settled h = settled_now h s.words k.words in (
      pass_view (pass_after (reads_settled found) r),
      keeps,
      tt,
      pass_next counts s k id r me (reads_settled found) 1 found refl at (settled_next h s.words k.words (by_pass r.number (reads_settled found)) found at refl refl),
      refl,
    ))

pub read_gate_step : (counts : Counts) (n id : ℕ) (m : Sat) (count : ℕ)
    → IsPassSeat m
    → (pass_in m.0.passes).settled ≡ Some count
    → Allows (Keeps counts) n id m 0 (λ x. x) (reads_gate_at (step n 0 0 0 none) m)
read_gate_step counts n id m count is half = subst (λ (z : Sat). Allows (Keeps counts) n id z 0 (λ x. x) (reads_gate_at (step n 0 0 0 none) z)) (sym is)
    (λ s k homes me small.
    let r = pass_in m.0.passes in
    let h = k.history in
    let found = get_or s.words 0 0 in
    let same_count : count ≡ number_in r.settled = sym (ap number_in half) in
    ⊎_elim
    (λ (shut : is_shut h ≡ true).
    let at : found ≡ counted h + CLOSED = gate_shut counts s k id shut in
    let number : counted h ≡ found - CLOSED = omega (arith, at) in (
      pass_view (after_read_gate count (counted h) true r),
      keeps,
      tt,
      pass_next counts s k id r me (reads_gate count (counted h) true) 0 found refl (half, refl, sym shut) (gate_next h s.words k.words (by_pass r.number (reads_gate count (counted h) true)) found (gate_now h s.words k.words) refl),
      (λ below_it. absurd (omega (arith, at)), λ above. ap (λ (c : ℕ). (pass_view (after_read_gate c (counted h) true r), [])) same_count ∙ ap (λ (c : ℕ). (pass_view (after_read_gate (number_in r.settled) c true r), [])) number),
    ))
    (λ (still : is_shut h ≡ false).
    let at : found ≡ counted h = gate_open counts s k id still in (
      pass_view (after_read_gate count (counted h) false r),
      keeps,
      tt,
      pass_next counts s k id r me (reads_gate count (counted h) false) 0 found refl (half, refl, sym still) (gate_next h s.words k.words (by_pass r.number (reads_gate count (counted h) false)) found (gate_now h s.words k.words) refl),
      (λ below_it. ap (λ (c : ℕ). (pass_view (after_read_gate c (counted h) false r), [])) same_count ∙ ap (λ (c : ℕ). (pass_view (after_read_gate (number_in r.settled) c false r), [])) (sym at), λ above. absurd (omega (arith, at, bounded counts s k id))),
    ))
    (shut_or_open (is_shut h)))
