-- When all members have come back, the state is in its slot, and their records say what the queue
-- did.
use Rattle.std.proofs.Common.{◌≡◌, ℕ, ◌<◌, ◌≤◌, true, Some, List, [], ◌∷◌, ◌++◌, length, get_or, sym, ap, ◌∙◌, subst, arith}
use Rattle.std.specs.List.{AllByRecursion}
use mathlib.Core.Option.{some}
use lib.ListN.{get_elem?}
use Rattle.ghost_history.specs.History.{Legal}
use Rattle.ghost_history.specs.Sums.{total, below}
use Rattle.ghost_history.proofs.SumLemmas.{total-below}
use Rattle.ghost_history.proofs.ViewLemmas.{True, all_weaker, has_everyone, nobody_else}
use Rattle.locked_peers.specs.Cell.{Leaves}
use Rattle.locked_peers.proofs.CellLemmas.{at_home}
use Rattle.job_queue.specs.declared.job_line.Sizes.{Sizes}
use Rattle.job_queue.specs.declared.record.QueuedJob.{QueuedJob}
use Rattle.job_queue.specs.declared.record.Entry.{Entry}
use Rattle.job_queue.specs.declared.record.LaneRecord.{LaneRecord}
use Rattle.job_queue.specs.declared.record.PassRecord.{PassRecord}
use Rattle.locked_peers.specs.declared.store.Store.{Store}
use Rattle.locked_peers.specs.declared.line_view.View.{View}
use Rattle.locked_peers.specs.declared.line_view.CloserRecord.{CloserRecord}
use Rattle.job_queue.specs.Record.{accepted, AreSeqs, Rises, Seals}
use Rattle.job_queue.specs.Line.{IsMadeFor}
use Rattle.job_queue.specs.History.{waiting as line_waiting, entries_by, taken_in, Lists, May as LineMay}
use Rattle.job_queue.specs.Run.{WholeRun}
use Rattle.locked_peers.specs.InnerLine.View.{members, found_in}
use Rattle.locked_peers.specs.InnerLine.Deed.{entered, waiting, is_closed, lane_part, pass_part, closer_part, closed_at}
use Rattle.locked_peers.specs.InnerLine.Rule.{Fits, Keeps}
use Rattle.locked_peers.specs.InnerLine.End.{IsWhole, IsEnd}
use Rattle.locked_peers.proofs.LineDeedLemmas.{entries_below, waiting_fits, waiting_made_for, closed_count}
use Rattle.locked_peers.proofs.LineHistoryLemmas.{balanced, seqs, rises, rises-end, entered_before, Stands, seen_stands, Sealed, readings_sealed}
use Rattle.job_queue.proofs.ListLemmas.{drain_all, drained_legal, drained_waiting, drained_left, drained_closed, drained_entries, drained_taken}
use Rattle.locked_peers.proofs.LineListedLemmas.{listed, listed_closed, listed_waiting, listed_left, listed_entries, listed_taken, listed_legal}
use Rattle.job_queue.proofs.RisingLemmas.{all_ascend}
use Rattle.locked_peers.proofs.LineKeepLemmas.{St, lanes_in, passes_in, closers_in, lane_number, pass_number, closer_number}

module _ (sizes : Sizes) (s : St) (k : Keeps sizes s) (id : ℕ) (v : View)
    (me : get_elem? s.views id ≡ some v) (number : ℕ) (whole : IsWhole sizes v number) where
  the_state : (x : Store) × (get_elem? s.homes 0 ≡ some (some x)) × Fits sizes k.history x
  the_state = at_home found_in members s k.cell id v me whole.found (λ j u apart there. omega (
    arith,
    ap length (nobody_else lanes_in lane_number s.views k.lanes id v me whole.lanes j u apart there),
    ap length (nobody_else passes_in pass_number s.views k.passes id v me whole.passes j u apart there),
    ap length (nobody_else closers_in closer_number s.views k.closers id v me (ap length whole.closers) j u apart there),
  ))

  closed_here : closed_at k.history ≡ Some number
  closed_here =
      let all : AllByRecursion (True closers_in closer_number 1 (closer_part k.history)) (record { closed_at = Some number } ∷ []) = subst (AllByRecursion (True closers_in closer_number 1 (closer_part k.history))) whole.closers (k.closers.each id v me) in
      ap (λ (c : CloserRecord). c.closed_at) (sym all.0.0)

  count_here : (is_closed k.history ≡ true) × (entered k.history ≡ number)
  count_here = closed_count sizes k.history number k.legal closed_here

  each_lane : (P : LaneRecord → Type 0)
      → ((l : ℕ) → P (lane_part k.history l))
      → AllByRecursion P v.lanes
  each_lane P holds = all_weaker (True lanes_in lane_number sizes.lanes (lane_part k.history)) P (λ r true. subst P (sym true.0) (holds r.number)) v.lanes (k.lanes.each id v me)

  each_pass : (P : PassRecord → Type 0)
      → ((p : ℕ) → P (pass_part k.history p))
      → AllByRecursion P v.passes
  each_pass P holds = all_weaker (True passes_in pass_number sizes.passes (pass_part k.history)) P (λ r true. subst P (sym true.0) (holds r.number)) v.passes (k.passes.each id v me)

  sum_lanes : (f : LaneRecord → ℕ)
      → total f v.lanes ≡ below (λ l. f (lane_part k.history l)) sizes.lanes
  sum_lanes f = total-below lane_number sizes.lanes (λ l. f (lane_part k.history l)) f v.lanes
      (all_weaker (True lanes_in lane_number sizes.lanes (lane_part k.history)) (λ r. (f r ≡ f (lane_part k.history r.number)) × (r.number < sizes.lanes)) (λ r true. (ap f true.0, true.1)) v.lanes (k.lanes.each id v me))
      (has_everyone lanes_in lane_number s.views k.lanes id v me whole.lanes)

  sum_passes : (f : PassRecord → ℕ)
      → total f v.passes ≡ below (λ p. f (pass_part k.history p)) sizes.passes
  sum_passes f = total-below pass_number sizes.passes (λ p. f (pass_part k.history p)) f v.passes
      (all_weaker (True passes_in pass_number sizes.passes (pass_part k.history)) (λ r. (f r ≡ f (pass_part k.history r.number)) × (r.number < sizes.passes)) (λ r true. (ap f true.0, true.1)) v.passes (k.passes.each id v me))
      (has_everyone passes_in pass_number s.views k.passes id v me whole.passes)

  -- The history as the queue's users see it. At its end all that waits comes out.
  lists : Lists v.lanes v.passes (waiting k.history) number
  lists =
      let h = k.history in
      let jobs = waiting h in
      let line = listed h in
      let waits : line_waiting line ≡ jobs = listed_waiting h in
      let here : Legal (LineMay (length v.lanes) (length v.passes)) line =
      subst (λ (n : ℕ). Legal (LineMay n (length v.passes)) line) (sym whole.lanes) (subst (λ (n : ℕ). Legal (LineMay sizes.lanes n) line) (sym whole.passes) (listed_legal sizes h k.legal)) in
      record {
        history = drain_all jobs line;
        legal = drained_legal (length v.lanes) (length v.passes) jobs line waits here;
        each_lane = all_weaker (True lanes_in lane_number sizes.lanes (lane_part h)) (λ r. r.entries ≡ entries_by (drain_all jobs line) r.number)
            (λ r true. ap (λ (z : LaneRecord). z.entries) true.0 ∙ sym (drained_entries jobs line r.number ∙ listed_entries sizes h r.number k.legal)) v.lanes (k.lanes.each id v me);
        each_pass = all_weaker (True passes_in pass_number sizes.passes (pass_part h)) (λ r. r.taken ≡ taken_in (drain_all jobs line) r.number)
            (λ r true. ap (λ (z : PassRecord). z.taken) true.0 ∙ sym (drained_taken jobs line r.number ∙ listed_taken sizes h r.number)) v.passes (k.passes.each id v me);
        closed = drained_closed jobs line ∙ (listed_closed h ∙ closed_here);
        end = drained_left jobs line ∙ ap (λ (js : List QueuedJob). js ++ jobs) (listed_left h);
        none_waits = drained_waiting jobs line waits;
      }

  whole_run : WholeRun v.lanes v.passes (waiting k.history) number
  whole_run =
      let h = k.history in
      record {
        balance = λ weight. omega (arith, sum_lanes (λ r. total weight (accepted r.entries)), sum_passes (λ r. total weight r.taken), balanced sizes weight h k.legal);
        seqs = all_weaker (True lanes_in lane_number sizes.lanes (lane_part h)) (λ r. AreSeqs r.number 0 (accepted r.entries)) (λ r true. subst (λ (z : LaneRecord). AreSeqs r.number 0 (accepted z.entries)) (sym true.0) (seqs sizes h r.number k.legal)) v.lanes (k.lanes.each id v me);
        rises = each_pass (λ r. Rises (r.taken ++ waiting h)) (λ p. rises sizes h p k.legal);
        rest_rises = rises-end (pass_part h 0).taken (waiting h) (rises sizes h 0 k.legal);
        entries = λ weight. sum_lanes (λ r. total (λ (e : Entry). weight e.number) r.entries) ∙ (entries_below sizes weight h k.legal ∙ ap (below weight) count_here.1);
        entered_before = each_lane (λ r. AllByRecursion (λ e. e.number < number) r.entries) (λ l. subst (λ (n : ℕ). AllByRecursion (λ (e : Entry). e.number < n) (lane_part h l).entries) count_here.1 (entered_before sizes h l k.legal));
        seen = each_lane (λ r. AllByRecursion (λ n. number ≤ n) r.seen) (λ l. all_weaker (Stands sizes h) (λ n. number ≤ n) (λ n stands. omega (arith, stands.1, count_here.1)) (lane_part h l).seen (seen_stands sizes h l k.legal));
        sealed = each_pass (λ r. AllByRecursion (λ x. Seals x → x.settled ≡ number) r.readings)
            (λ p. all_weaker (Sealed sizes h) (λ x. Seals x → x.settled ≡ number) (λ x sealed seals. (sealed seals.0).1 ∙ count_here.1) (pass_part h p).readings (readings_sealed sizes h p k.legal));
        numbers_rise = all_ascend v.lanes v.passes (waiting h) number lists;
        listed = lists;
      }

  ended : (x : Store) → Fits sizes k.history x → IsEnd sizes v number x
  ended x fits = record {
    run = subst (λ (js : List QueuedJob). WholeRun v.lanes v.passes js number) (sym fits.jobs) whole_run;
    numbers = has_everyone lanes_in lane_number s.views k.lanes id v me whole.lanes;
    lane_count = fits.lane_count;
    accepted_by = all_weaker (True lanes_in lane_number sizes.lanes (lane_part k.history)) (λ r. get_or x.accepted.items r.number 0 ≡ length (accepted r.entries))
        (λ r true. fits.accepted_by r.number true.1 ∙ ap (λ (z : LaneRecord). length (accepted z.entries)) (sym true.0)) v.lanes (k.lanes.each id v me);
    fits = omega (arith, ap length fits.jobs, waiting_fits sizes k.history k.legal);
    made_for = subst (AllByRecursion (IsMadeFor sizes.machine)) (sym fits.jobs) (waiting_made_for sizes k.history k.legal);
  }

-- The state at the end.
pub ends : (sizes : Sizes) (id : ℕ) (v : View) (number : ℕ) (x : Store)
    → Leaves (Keeps sizes) id v x
    → IsWhole sizes v number
    → IsEnd sizes v number x
ends sizes id v number x left whole =
    let s = left.0 in let k = left.1.0 in let me = left.1.1 in
    let t = the_state sizes s k id v me number whole in
    subst (IsEnd sizes v number) (left.2 t.0 t.1) (ended sizes s k id v me number whole t.0 t.2)
