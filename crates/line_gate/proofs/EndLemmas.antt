-- When all members have come back, their records say what was done at the gate.
use Rattle.std.proofs.Common.{◌≡◌, ℕ, ◌<◌, ◌≤◌, true, Some, List, [], ◌∷◌, length, map, sym, refl, ap, ◌∙◌, subst, arith}
use Rattle.std.specs.List.{AllByRecursion}
use mathlib.Core.Logic.{dite}
use native.Mathlib.Decide.{dec_le}
use mathlib.Core.Option.{some}
use lib.ListN.{get_elem?}
use Rattle.atomic_table.specs.Table.{Seen, Final}
use Rattle.ghost_history.specs.Sums.{total, below, is_at}
use Rattle.ghost_history.proofs.SumLemmas.{total-below, is_at-same, is_at-other, below-same, below-zero}
use Rattle.ghost_history.proofs.ViewLemmas.{True, all_weaker, has_everyone}
use Rattle.line_gate.specs.declared.gate.Counts.{Counts}
use Rattle.line_gate.specs.declared.record.SettledEntry.{SettledEntry}
use Rattle.line_gate.specs.declared.record.LaneEntries.{LaneEntries}
use Rattle.line_gate.specs.declared.record.PassReadings.{PassReadings}
use Rattle.line_gate.specs.declared.view.CloserRecord.{CloserRecord}
use Rattle.line_gate.specs.declared.view.View.{View}
use Rattle.line_gate.specs.Record.{IsSettled, Seals}
use Rattle.line_gate.specs.Run.{WholeGate}
use Rattle.line_gate.specs.Inner.View.{closer}
use Rattle.line_gate.specs.History.{numbers_by, AreEntries}
use Rattle.line_gate.specs.Inner.Deed.{entered, is_shut, closed_at, lane_part, pass_part, closer_part}
use Rattle.line_gate.specs.Inner.Rule.{Keeps}
use Rattle.line_gate.proofs.HistoryLemmas.{made_weight, settled_weight, pending_weight, made_sum, closed_count, Stands, seen_stand, Fixed, are_read, sealed}
use Rattle.line_gate.proofs.EnteringLemmas.{entering, are_entries, shut_closed, lane_numbers}
use Rattle.line_gate.proofs.StepLemmas.{St, lanes_in, passes_in, closers_in, lane_number, pass_number, closer_number}

-- Settled lanes weigh as much as their settled entries.
settled_total : (weight : ℕ → ℕ) (rs : List LaneEntries)
    → AllByRecursion IsSettled rs
    → total (made_weight weight) rs ≡ total (settled_weight weight) rs
settled_total weight [] all = refl
settled_total weight (r ∷ rs) all = let none : pending_weight weight r.pending ≡ 0 = ap (pending_weight weight) all.0.0 in omega (arith, settled_total weight rs all.1)

-- A list without a number from the bound upwards has only numbers below it.
entries_low : (bound : ℕ) (es : List SettledEntry)
    → ((k : ℕ) → bound ≤ k → total (λ (e : SettledEntry). is_at k e.number) es ≡ 0)
    → AllByRecursion (λ (e : SettledEntry). e.number < bound) es
entries_low bound [] none = tt
entries_low bound (e ∷ es) none = (
  dite (dec_le bound e.number) (λ high. absurd (omega (arith, none e.number high, is_at-same e.number))) (λ low. omega arith),
  entries_low bound es (λ k high. omega (arith, none k high)),
)

lanes_low : (bound : ℕ) (rs : List LaneEntries)
    → ((k : ℕ) → bound ≤ k → total (settled_weight (is_at k)) rs ≡ 0)
    → AllByRecursion (λ (r : LaneEntries). AllByRecursion (λ (e : SettledEntry). e.number < bound)
    r.entries) rs
lanes_low bound [] none = tt
lanes_low bound (r ∷ rs) none = (entries_low bound r.entries (λ k high. omega (arith, none k high)), lanes_low bound rs (λ k high. omega (arith, none k high)))

none_below : (k n : ℕ) → n ≤ k → below (is_at k) n ≡ 0
none_below k n high = below-same (is_at k) (λ _. 0) n (λ j within. is_at-other k j (λ e. omega arith)) ∙ below-zero n

module _ (counts : Counts) (s : St) (k : Keeps counts s) (id : ℕ) (v : View) (me : get_elem? s.views id ≡ some v) (number : ℕ) (closed : v.closers ≡ closer (Some number) ∷ [])
    (all_lanes : length v.lanes ≡ counts.lanes) (all_passes : length v.passes ≡ counts.passes) (idle : AllByRecursion IsSettled v.lanes) where
  closed_here : closed_at k.history ≡ Some number
  closed_here =
      let all : AllByRecursion (True closers_in closer_number 1 (closer_part k.history)) (closer (Some number) ∷ []) = subst (AllByRecursion (True closers_in closer_number 1 (closer_part k.history))) closed (k.closers.each id v me) in
      ap (λ (c : CloserRecord). c.closed_at) (sym all.0.0)

  count_here : (is_shut k.history ≡ true) × (entered k.history ≡ number)
  count_here = closed_count counts k.history number k.legal closed_here

  numbers_of : (rs : List LaneEntries)
      → AllByRecursion (True lanes_in lane_number counts.lanes (lane_part k.history)) rs
      → AllByRecursion IsSettled rs
      → AllByRecursion (λ (r : LaneEntries). numbers_by (entering k.history) r.number
      ≡ map (λ (e : SettledEntry). e.number) r.entries) rs
  numbers_of [] own settled = tt
  numbers_of (r ∷ rs) own settled = (lane_numbers counts k.history k.legal r own.0.0 settled.0.0, numbers_of rs own.1 settled.1)

  each_lane : (P : LaneEntries → Type 0)
      → ((l : ℕ) → P (lane_part k.history l))
      → AllByRecursion P v.lanes
  each_lane P holds = all_weaker (True lanes_in lane_number counts.lanes (lane_part k.history)) P (λ r true. subst P (sym true.0) (holds r.number)) v.lanes (k.lanes.each id v me)

  each_pass : (P : PassReadings → Type 0)
      → ((p : ℕ) → P (pass_part k.history p))
      → AllByRecursion P v.passes
  each_pass P holds = all_weaker (True passes_in pass_number counts.passes (pass_part k.history)) P (λ r true. subst P (sym true.0) (holds r.number)) v.passes (k.passes.each id v me)

  everyone : (j : ℕ) → j < counts.lanes → total (λ r. is_at j (lane_number r)) v.lanes ≡ 1
  everyone = has_everyone lanes_in lane_number s.views k.lanes id v me all_lanes

  sum_lanes : (f : LaneEntries → ℕ)
      → total f v.lanes ≡ below (λ l. f (lane_part k.history l)) counts.lanes
  sum_lanes f = total-below lane_number counts.lanes (λ l. f (lane_part k.history l)) f v.lanes
      (all_weaker (True lanes_in lane_number counts.lanes (lane_part k.history)) (λ r. (f r ≡ f (lane_part k.history r.number)) × (r.number < counts.lanes)) (λ r true. (ap f true.0, true.1)) v.lanes (k.lanes.each id v me))
      everyone

  entries_here : (weight : ℕ → ℕ) → total (settled_weight weight) v.lanes ≡ below weight number
  entries_here weight = sym (settled_total weight v.lanes idle) ∙ (sum_lanes (made_weight weight) ∙ (made_sum counts weight k.history k.legal ∙ ap (below weight) count_here.1))

  pub whole_gate : WholeGate v.lanes v.passes number
  whole_gate =
      let h = k.history in
      record {
        numbers = λ j within. everyone j (omega (arith, all_lanes));
        entries = entries_here;
        entered_before = lanes_low number v.lanes (λ j high. entries_here (is_at j) ∙ none_below j number high);
        seen = each_lane (λ r. AllByRecursion (λ n. number ≤ n) r.seen) (λ l. all_weaker (Stands counts h) (λ n. number ≤ n) (λ n stands. omega (arith, stands.1, count_here.1)) (lane_part h l).seen (seen_stand counts h l k.legal));
        sealed = each_pass (λ r. AllByRecursion (λ x. Seals x → x.settled ≡ number) r.readings)
            (λ p. all_weaker (Fixed counts h) (λ x. Seals x → x.settled ≡ number) (λ x fixed seals. sealed counts h x fixed seals ∙ count_here.1) (pass_part h p).readings (are_read counts h p k.legal).1);
        entering = entering h;
        are_entries = subst (λ (n : ℕ). AreEntries n (entering h)) (sym all_lanes) (are_entries counts h k.legal);
        shut = shut_closed h ∙ closed_here;
        each_lane = numbers_of v.lanes (k.lanes.each id v me) idle;
      }

-- The words of a closed table.
pub ends : (counts : Counts) (id : ℕ) (v : View) (number : ℕ) (ws : List ℕ) (xs : List (Unit {0}))
    → Final (Seen (Keeps counts) id v) ws xs
    → v.closers ≡ closer (Some number) ∷ []
    → length v.lanes ≡ counts.lanes
    → length v.passes ≡ counts.passes
    → AllByRecursion IsSettled v.lanes
    → WholeGate v.lanes v.passes number
ends counts id v number ws xs final closed all_lanes all_passes idle = whole_gate counts final.0 final.1.0 id v final.1.1 number closed all_lanes all_passes idle
