-- Views are given out when a gate opens, and joined when it ends.
use Rattle.std.proofs.Common.{◌≡◌, ℕ, ◌≤◌, None, [], ◌∷◌, refl, arith}
use Rattle.atomic_table.specs.Table.{opening, Splits, Joins}
use Rattle.ghost_history.specs.Sums.{is_at}
use Rattle.ghost_history.proofs.DealLemmas.{cut-all, cut-total, first-tied, one-tied}
use Rattle.ghost_history.proofs.ViewLemmas.{True, splits, joins}
use Rattle.cube_shape.specs.declared.limits.TheConstants.{MAX_LANES}
use Rattle.line_gate.specs.declared.gate.Counts.{Counts}
use Rattle.line_gate.specs.declared.view.View.{View}
use Rattle.line_gate.specs.Record.{fresh_lane, fresh_pass}
use Rattle.line_gate.specs.Inner.View.{closer, first_view, without_lane, lane_alone, without_pass, pass_alone, joined, spent_view}
use Rattle.line_gate.specs.Inner.Deed.{lane_part, pass_part, closer_part}
use Rattle.line_gate.specs.Inner.Rule.{Keeps}
use Rattle.line_gate.proofs.StepLemmas.{lanes_in, passes_in, closers_in, lane_number, pass_number, closer_number}

-- The table of a new gate meets the rule.
pub opens : (counts : Counts)
    → counts.lanes ≤ MAX_LANES
    → Keeps counts (opening (0 ∷ 0 ∷ []) [] (first_view counts))
opens counts few =
    let v = first_view counts in
    record {
      history = [];
      legal = tt;
      few = few;
      words = refl;
      lanes = first-tied lanes_in lane_number fresh_lane (λ _. refl) counts.lanes v refl;
      passes = first-tied passes_in pass_number fresh_pass (λ _. refl) counts.passes v refl;
      closers = one-tied closers_in closer_number (closer_part []) v (closer None) refl refl refl;
    }

-- ---- a view is cut

pub deals_lane : (counts : Counts) (id : ℕ) (v : View)
    → Splits (Keeps counts) id v (without_lane v) (lane_alone v)
deals_lane counts id v s k me = record {
  history = k.history;
  legal = k.legal;
  few = k.few;
  words = k.words;
  lanes = splits lanes_in lane_number s.views k.lanes id v me (without_lane v) (lane_alone v) (cut-all (True lanes_in lane_number counts.lanes (lane_part k.history)) v.lanes) (λ n. cut-total (λ r. is_at n (lane_number r)) v.lanes);
  passes = splits passes_in pass_number s.views k.passes id v me (without_lane v) (lane_alone v) (λ all. (all, tt)) (λ n. omega arith);
  closers = splits closers_in closer_number s.views k.closers id v me (without_lane v) (lane_alone v) (λ all. (all, tt)) (λ n. omega arith);
}

pub deals_pass : (counts : Counts) (id : ℕ) (v : View)
    → Splits (Keeps counts) id v (without_pass v) (pass_alone v)
deals_pass counts id v s k me = record {
  history = k.history;
  legal = k.legal;
  few = k.few;
  words = k.words;
  lanes = splits lanes_in lane_number s.views k.lanes id v me (without_pass v) (pass_alone v) (λ all. (all, tt)) (λ n. omega arith);
  passes = splits passes_in pass_number s.views k.passes id v me (without_pass v) (pass_alone v) (cut-all (True passes_in pass_number counts.passes (pass_part k.history)) v.passes) (λ n. cut-total (λ r. is_at n (pass_number r)) v.passes);
  closers = splits closers_in closer_number s.views k.closers id v me (without_pass v) (pass_alone v) (λ all. (all, tt)) (λ n. omega arith);
}

-- ---- two views are joined

pub joins_views : (counts : Counts) (id : ℕ) (v : View) (other : ℕ) (w : View)
    → Joins (Keeps counts) id v other w (joined v w) spent_view
joins_views counts id v other w s k me apart there = record {
  history = k.history;
  legal = k.legal;
  few = k.few;
  words = k.words;
  lanes = joins lanes_in lane_number s.views k.lanes id v me other w (joined v w) spent_view apart there refl refl;
  passes = joins passes_in pass_number s.views k.passes id v me other w (joined v w) spent_view apart there refl refl;
  closers = joins closers_in closer_number s.views k.closers id v me other w (joined v w) spent_view apart there refl refl;
}
