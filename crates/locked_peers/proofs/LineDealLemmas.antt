-- Views are given out when a queue opens, and joined when it ends.
use Rattle.std.proofs.Common.{◌≡◌, ℕ, zero, suc, ◌+◌, ◌<◌, ◌≤◌, None, List, [], ◌∷◌, ◌++◌, length, get_or, set, replicate, refl, ap, ◌∙◌, arith}
use mathlib.Core.Option.{some}
use lib.ListN.{get_elem?}
use Rattle.atomic_table.specs.Table.{opening, Splits, Joins}
use Rattle.ghost_history.specs.Sums.{is_at}
use Rattle.ghost_history.specs.Views.{Tied}
use Rattle.ghost_history.proofs.DealLemmas.{cut-all, cut-total, cut-length, first-tied, one-tied, only_view, in_cut, in_joined}
use Rattle.ghost_history.proofs.ViewLemmas.{True, splits, joins}
use Rattle.locked_peers.proofs.CellLemmas.{opens as opens_cell, cuts as cuts_cell, joins as joins_cell}
use Rattle.cube_shape.specs.declared.limits.TheConstants.{MAX_LANES}
use Rattle.job_queue.specs.declared.job_line.Sizes.{Sizes}
use Rattle.job_queue.specs.Record.{fresh_lane, fresh_pass}
use Rattle.locked_peers.specs.declared.store.Store.{Store}
use Rattle.locked_peers.specs.declared.line_view.View.{View}
use Rattle.locked_peers.specs.InnerLine.View.{IsEmptyStore, members, found_in, first_view, without_lane, lane_alone, without_pass, pass_alone, joined, spent_view}
use Rattle.locked_peers.specs.InnerLine.Deed.{lane_part, pass_part, closer_part}
use Rattle.locked_peers.specs.InnerLine.Rule.{Fits, Keeps}
use Rattle.locked_peers.proofs.LineKeepLemmas.{St, lanes_in, passes_in, closers_in, lane_number, pass_number, closer_number}

-- ---- the first view

get_or-zeros : (n l : ℕ) → get_or (replicate {A = ℕ} n 0) l 0 ≡ 0
get_or-zeros zero l = refl
get_or-zeros (suc n) zero = refl
get_or-zeros (suc n) (suc l) = get_or-zeros n l

length-zeros : (n : ℕ) → length (replicate {A = ℕ} n 0) ≡ n
length-zeros zero = refl
length-zeros (suc n) = omega (arith, length-zeros n)

-- The table of a new queue meets the rule.
pub opens : (sizes : Sizes) (x : Store)
    → sizes.lanes ≤ MAX_LANES
    → IsEmptyStore sizes x
    → Keeps sizes (opening (0 ∷ []) (x ∷ []) (first_view sizes))
opens sizes x few empty =
    let v = first_view sizes in
    let fits : Fits sizes [] x = record {
      jobs = empty.0;
      lane_count = ap length empty.1 ∙ length-zeros sizes.lanes;
      accepted_by = λ l within. ap (λ (ns : List ℕ). get_or ns l 0) empty.1 ∙ get_or-zeros sizes.lanes l;
      entries = empty.2;
      closed = empty.3;
      capacity = empty.4;
    } in
    record {
      history = [];
      legal = tt;
      few = few;
      lanes = first-tied lanes_in lane_number fresh_lane (λ _. refl) sizes.lanes v refl;
      passes = first-tied passes_in pass_number fresh_pass (λ _. refl) sizes.passes v refl;
      closers = one-tied closers_in closer_number (closer_part []) v (record { closed_at = None }) refl refl refl;
      about = only_view (λ u. 0 < members u → u.about ≡ sizes) v (λ _. refl);
      cell = opens_cell found_in members (Fits sizes []) v x refl fits;
    }

-- ---- a view is cut

-- The parts of a view that is cut. Each has some of its records.
module _ (sizes : Sizes) (s : St) (k : Keeps sizes s) (id : ℕ) (v left right : View)
    (me : get_elem? s.views id ≡ some v) where
  cuts : left.about ≡ v.about
      → right.about ≡ v.about
      → members left + members right ≡ members v
      → v.found ≡ None
      → left.found ≡ None
      → right.found ≡ None
      → Tied lanes_in lane_number sizes.lanes (lane_part k.history)
      (set s.views id left ++ right ∷ [])
      → Tied passes_in pass_number sizes.passes (pass_part k.history)
      (set s.views id left ++ right ∷ [])
      → Tied closers_in closer_number 1 (closer_part k.history) (set s.views id left ++ right ∷ [])
      → Keeps sizes (record {
        words = s.words;
        homes = s.homes;
        views = set s.views id left
            ++ right ∷ [];
      })
  cuts left_about right_about sums none left_none right_none lanes passes closers = record {
    history = k.history;
    legal = k.legal;
    few = k.few;
    lanes = lanes;
    passes = passes;
    closers = closers;
    about = in_cut (λ u. 0 < members u → u.about ≡ sizes) s.views id left right (λ has. left_about ∙ k.about id v me (omega (arith, has, sums))) (λ has. right_about ∙ k.about id v me (omega (arith, has, sums))) k.about;
    cell = cuts_cell found_in members s k.cell id v me left right none left_none right_none;
  }

pub deals_lane : (sizes : Sizes) (id : ℕ) (v : View)
    → v.found ≡ None
    → Splits (Keeps sizes) id v (without_lane v) (lane_alone v)
deals_lane sizes id v none s k me =
    cuts sizes s k id v (without_lane v) (lane_alone v) me refl refl (omega (arith, cut-length v.lanes)) none refl refl
    (splits lanes_in lane_number s.views k.lanes id v me (without_lane v) (lane_alone v) (cut-all (True lanes_in lane_number sizes.lanes (lane_part k.history)) v.lanes) (λ n. cut-total (λ r. is_at n (lane_number r)) v.lanes))
    (splits passes_in pass_number s.views k.passes id v me (without_lane v) (lane_alone v) (λ all. (all, tt)) (λ n. omega arith))
    (splits closers_in closer_number s.views k.closers id v me (without_lane v) (lane_alone v) (λ all. (all, tt)) (λ n. omega arith))

pub deals_pass : (sizes : Sizes) (id : ℕ) (v : View)
    → v.found ≡ None
    → Splits (Keeps sizes) id v (without_pass v) (pass_alone v)
deals_pass sizes id v none s k me =
    cuts sizes s k id v (without_pass v) (pass_alone v) me refl refl (omega (arith, cut-length v.passes)) none refl refl
    (splits lanes_in lane_number s.views k.lanes id v me (without_pass v) (pass_alone v) (λ all. (all, tt)) (λ n. omega arith))
    (splits passes_in pass_number s.views k.passes id v me (without_pass v) (pass_alone v) (cut-all (True passes_in pass_number sizes.passes (pass_part k.history)) v.passes) (λ n. cut-total (λ r. is_at n (pass_number r)) v.passes))
    (splits closers_in closer_number s.views k.closers id v me (without_pass v) (pass_alone v) (λ all. (all, tt)) (λ n. omega arith))

-- ---- two views are joined

pub joins_views : (sizes : Sizes) (id : ℕ) (v : View) (other : ℕ) (w : View)
    → v.found ≡ None
    → w.found ≡ None
    → 0 < members v
    → Joins (Keeps sizes) id v other w (joined v w) spent_view
joins_views sizes id v other w none none_too member s k me apart there =
    let both : View = joined v w in
    record {
      history = k.history;
      legal = k.legal;
      few = k.few;
      lanes = joins lanes_in lane_number s.views k.lanes id v me other w both spent_view apart there refl refl;
      passes = joins passes_in pass_number s.views k.passes id v me other w both spent_view apart there refl refl;
      closers = joins closers_in closer_number s.views k.closers id v me other w both spent_view apart there refl refl;
      about = in_joined (λ u. 0 < members u → u.about ≡ sizes) s.views id other both spent_view (λ has. k.about id v me member) (λ has. absurd (omega arith)) k.about;
      cell = joins_cell found_in members s k.cell id v me other w both spent_view none none_too none refl there;
    }
