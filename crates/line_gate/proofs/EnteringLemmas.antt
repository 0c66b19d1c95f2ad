-- The entries and the close of a gate's history, as a list of their own.
use Rattle.std.proofs.Common.{◌≡◌, ◌≢◌, ℕ, ◌+◌, ◌<◌, Bool, true, false, cond, eqb, eq-eqb, ne_eqb, Option, Some, None, List, [], ◌∷◌, ◌++◌, map, sym, refl, ap, ◌∙◌, subst, arith}
use Rattle.std.proofs.lemmas.Bool.{true≢false}
use Rattle.std.proofs.lemmas.List.{append-nil, map-append}
use mathlib.Core.Logic.{dite}
use native.Mathlib.Decide.{ℕ_discrete}
use Rattle.line_gate.specs.declared.gate.Counts.{Counts}
use Rattle.line_gate.specs.declared.record.SettledEntry.{SettledEntry}
use Rattle.line_gate.specs.declared.record.LaneEntries.{LaneEntries}
use Rattle.line_gate.specs.Record.{entry}
use Rattle.line_gate.specs.History.{Entering, makes, shuts, made, shut_at, numbers_by, AreEntries}
use Rattle.line_gate.specs.Inner.Deed.{LaneAct, looks, enters, comes_late, undoes, settles, PassAct, Deed, by_lane, by_pass, closes, entered, is_shut, lane_after, lane_part, closed_at, LaneMay, IsLegal}
use Rattle.line_gate.proofs.HistoryLemmas.{lane_own, lane_other}

-- The entries and the close in a history.
abbrev pub entering : List Deed → List Entering
entering [] = []
entering (by_lane lane (looks count mark) ∷ h) = entering h
entering (by_lane lane (enters number) ∷ h) = makes lane number ∷ entering h
entering (by_lane lane (comes_late count) ∷ h) = entering h
entering (by_lane lane undoes ∷ h) = entering h
entering (by_lane lane (settles number accepted) ∷ h) = entering h
entering (by_pass pass act ∷ h) = entering h
entering (closes number ∷ h) = shuts number ∷ entering h

pub made_entered : (h : List Deed) → made (entering h) ≡ entered h
made_entered [] = refl
made_entered (by_lane lane (looks count mark) ∷ h) = made_entered h
made_entered (by_lane lane (enters number) ∷ h) = ap (λ (n : ℕ). n + 1) (made_entered h)
made_entered (by_lane lane (comes_late count) ∷ h) = made_entered h
made_entered (by_lane lane undoes ∷ h) = made_entered h
made_entered (by_lane lane (settles number accepted) ∷ h) = made_entered h
made_entered (by_pass pass act ∷ h) = made_entered h
made_entered (closes number ∷ h) = made_entered h

pub shut_closed : (h : List Deed) → shut_at (entering h) ≡ closed_at h
shut_closed [] = refl
shut_closed (by_lane lane (looks count mark) ∷ h) = shut_closed h
shut_closed (by_lane lane (enters number) ∷ h) = shut_closed h
shut_closed (by_lane lane (comes_late count) ∷ h) = shut_closed h
shut_closed (by_lane lane undoes ∷ h) = shut_closed h
shut_closed (by_lane lane (settles number accepted) ∷ h) = shut_closed h
shut_closed (by_pass pass act ∷ h) = shut_closed h
shut_closed (closes number ∷ h) = refl

still_open : (h : List Deed) → is_shut h ≡ false → shut_at (entering h) ≡ None
still_open [] still = refl
still_open (by_lane lane (looks count mark) ∷ h) still = still_open h still
still_open (by_lane lane (enters number) ∷ h) still = still_open h still
still_open (by_lane lane (comes_late count) ∷ h) still = still_open h still
still_open (by_lane lane undoes ∷ h) still = still_open h still
still_open (by_lane lane (settles number accepted) ∷ h) still = still_open h still
still_open (by_pass pass act ∷ h) still = still_open h still
still_open (closes number ∷ h) still = absurd (true≢false still)

-- The numbers of the entries that a lane made, the pending one last.
abbrev pending_number : Option ℕ → List ℕ
pending_number (Some number) = number ∷ []
pending_number None = []

abbrev made_numbers : LaneEntries → List ℕ
made_numbers r = map (λ (e : SettledEntry). e.number) r.entries ++ pending_number r.pending

settled_numbers : (r : LaneEntries) (number : ℕ) (accepted : Bool)
    → r.pending ≡ Some number
    → made_numbers (lane_after (settles number accepted) r) ≡ made_numbers r
settled_numbers r number accepted pending =
    append-nil (map (λ (e : SettledEntry). e.number) (r.entries ++ entry number accepted ∷ []))
    ∙ (map-append (λ (e : SettledEntry). e.number) r.entries (entry number accepted ∷ [])
    ∙ ap (λ (o : Option ℕ). map (λ (e : SettledEntry). e.number) r.entries ++ pending_number o) (sym pending))

entered_numbers : (r : LaneEntries) (number : ℕ)
    → r.pending ≡ None
    → made_numbers (lane_after (enters number) r) ≡ made_numbers r ++ number ∷ []
entered_numbers r number none =
    let before : made_numbers r ≡ map (λ (e : SettledEntry). e.number) r.entries = ap (λ (o : Option ℕ). map (λ (e : SettledEntry). e.number) r.entries ++ pending_number o) none ∙ append-nil (map (λ (e : SettledEntry). e.number) r.entries) in
    ap (λ (ns : List ℕ). ns ++ number ∷ []) (sym before)

-- A step that makes no entry leaves the numbers of each lane.
same_numbers : (lane : ℕ) (a : LaneAct) (h : List Deed) (k : ℕ)
    → (LaneMay h (lane_part h lane) a → made_numbers (lane_after a (lane_part h lane))
    ≡ made_numbers (lane_part h lane))
    → LaneMay h (lane_part h lane) a
    → made_numbers (lane_part (by_lane lane a ∷ h) k) ≡ made_numbers (lane_part h k)
same_numbers lane a h k same may =
    dite (ℕ_discrete k lane)
    (λ here. subst (λ (n : ℕ). made_numbers (lane_part (by_lane lane a ∷ h) n) ≡ made_numbers (lane_part h n)) (sym here) (ap made_numbers (lane_own a h lane) ∙ same may))
    (λ other. ap made_numbers (lane_other lane a h k other))

module _ (counts : Counts) where
  pub are_entries : (h : List Deed) → IsLegal counts h → AreEntries counts.lanes (entering h)
  are_entries [] legal = tt
  are_entries (by_lane lane (looks count mark) ∷ h) legal = are_entries h legal.1
  are_entries (by_lane lane (enters number) ∷ h) legal = ((legal.0.0, legal.0.1.0 ∙ sym (made_entered h), still_open h legal.0.1.1), are_entries h legal.1)
  are_entries (by_lane lane (comes_late count) ∷ h) legal = are_entries h legal.1
  are_entries (by_lane lane undoes ∷ h) legal = are_entries h legal.1
  are_entries (by_lane lane (settles number accepted) ∷ h) legal = are_entries h legal.1
  are_entries (by_pass pass act ∷ h) legal = are_entries h legal.1
  are_entries (closes number ∷ h) legal = ((legal.0.1 ∙ sym (made_entered h), still_open h legal.0.0), are_entries h legal.1)

  numbers_made : (h : List Deed) (k : ℕ)
      → IsLegal counts h
      → numbers_by (entering h) k ≡ made_numbers (lane_part h k)
  numbers_made [] k legal = refl
  numbers_made (by_lane lane (looks count true) ∷ h) k legal = numbers_made h k legal.1 ∙ sym (same_numbers lane (looks count true) h k (λ may. refl) legal.0.1)
  numbers_made (by_lane lane (looks count false) ∷ h) k legal = numbers_made h k legal.1 ∙ sym (same_numbers lane (looks count false) h k (λ may. refl) legal.0.1)
  numbers_made (by_lane lane (enters number) ∷ h) k legal =
      let before = numbers_made h k legal.1 in
      dite (ℕ_discrete k lane)
      (λ here.
      let mine : numbers_by (makes lane number ∷ entering h) k ≡ numbers_by (entering h) k ++ number ∷ [] =
      ap (λ (b : Bool). cond b (numbers_by (entering h) k ++ number ∷ []) (numbers_by (entering h) k)) (eq-eqb lane k (sym here)) in
      let after : made_numbers (lane_part (by_lane lane (enters number) ∷ h) k) ≡ made_numbers (lane_part h k) ++ number ∷ [] =
      subst (λ (n : ℕ). made_numbers (lane_part (by_lane lane (enters number) ∷ h) n) ≡ made_numbers (lane_part h n) ++ number ∷ []) (sym here)
      (ap made_numbers (lane_own (enters number) h lane) ∙ entered_numbers (lane_part h lane) number legal.0.1.2.0) in
      mine ∙ (ap (λ (ns : List ℕ). ns ++ number ∷ []) before ∙ sym after))
      (λ other.
      let mine : numbers_by (makes lane number ∷ entering h) k ≡ numbers_by (entering h) k =
      ap (λ (b : Bool). cond b (numbers_by (entering h) k ++ number ∷ []) (numbers_by (entering h) k)) (ne_eqb lane k (λ e. other (sym e))) in
      mine ∙ (before ∙ sym (ap made_numbers (lane_other lane (enters number) h k other))))
  numbers_made (by_lane lane (comes_late count) ∷ h) k legal = numbers_made h k legal.1 ∙ sym (same_numbers lane (comes_late count) h k (λ may. refl) legal.0.1)
  numbers_made (by_lane lane undoes ∷ h) k legal = numbers_made h k legal.1 ∙ sym (same_numbers lane undoes h k (λ may. refl) legal.0.1)
  numbers_made (by_lane lane (settles number accepted) ∷ h) k legal = numbers_made h k legal.1 ∙ sym (same_numbers lane (settles number accepted) h k (λ may. settled_numbers (lane_part h lane) number accepted may) legal.0.1)
  numbers_made (by_pass pass act ∷ h) k legal = numbers_made h k legal.1
  numbers_made (closes number ∷ h) k legal = numbers_made h k legal.1

  -- The numbers of a settled lane's entries.
  pub lane_numbers : (h : List Deed)
      → IsLegal counts h
      → (r : LaneEntries)
      → r ≡ lane_part h r.number
      → r.pending ≡ None
      → numbers_by (entering h) r.number ≡ map (λ (e : SettledEntry). e.number) r.entries
  lane_numbers h legal r own none =
      let numbers = λ (es : List SettledEntry). map (λ (e : SettledEntry). e.number) es in
      numbers_made h r.number legal ∙ (ap made_numbers (sym own) ∙ (ap (λ (o : Option ℕ). numbers r.entries ++ pending_number o) none ∙ append-nil (numbers r.entries)))
