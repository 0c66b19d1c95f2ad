-- Each step of a seat on a locked queue's table keeps the rule.
use Rattle.std.proofs.Common.{◌≡◌, ◌≢◌, ℕ, zero, suc, ◌+◌, ◌<◌, true, false, eq-eqb, ne_eqb, Option, Some, None, List, [], ◌∷◌, ◌++◌, length, length-set, get_or, get_or-set_same, get_or-set_other, sym, refl, ap, ◌∙◌, subst, arith}
use Rattle.std.specs.List.{AllByRecursion}
use mathlib.Core.Logic.{dite}
use mathlib.Core.Option.{some}
use native.Mathlib.Decide.{ℕ_discrete}
use lib.ListN.{get_elem?}
use Rattle.atomic_table.specs.Table.{gives, stepped, Allows}
use Rattle.ghost_history.proofs.ViewLemmas.{True, stays, steps, all_weaker}
use Rattle.locked_peers.specs.Cell.{MayTry}
use Rattle.locked_peers.proofs.CellLemmas.{may_try}
use Rattle.cube_shape.specs.declared.limits.TheConstants.{MAX_ENTRIES}
use Rattle.job_queue.specs.declared.job_line.Sizes.{Sizes}
use Rattle.job_queue.specs.declared.record.QueuedJob.{QueuedJob}
use Rattle.job_queue.specs.declared.record.LaneRecord.{LaneRecord}
use Rattle.job_queue.specs.declared.record.PassRecord.{PassRecord}
use Rattle.locked_peers.specs.declared.store.Store.{Store}
use Rattle.locked_peers.specs.declared.line_view.View.{View}
use Rattle.locked_peers.specs.declared.line_view.CloserRecord.{CloserRecord}
use Rattle.job_queue.specs.Record.{entry, accepted}
use Rattle.job_queue.specs.Line.{IsMadeFor}
use Rattle.ghost_history.specs.Lists.{rest_of}
use Rattle.locked_peers.specs.InnerLine.View.{view, lane_view, pass_view, closer_view, holding, members}
use Rattle.locked_peers.specs.InnerLine.Deed.{Deed, accepts, fills, finds_closed, takes_job, finds_empty, closes, waiting, is_by_lane, lane_after, lane_part, is_by_pass, pass_after, pass_part, closed_at, closer_part, May}
use Rattle.locked_peers.specs.InnerLine.Rule.{Fits, Keeps}
use Rattle.locked_peers.specs.InnerLine.Step.{Sat, IsIdle, Knows, last_of, front_of, after_entry, after_full_entry, after_seen, after_taken, after_reading, after_close, IsLaneOut, IsPassOut, IsCloserOut, Accepts, Fills, Hands, Same, Closes}
use Rattle.job_queue.proofs.AcceptedLemmas.{accepted-push, accepted-full}
use Rattle.locked_peers.proofs.LineDeedLemmas.{lane_own, lane_other, pass_own, pass_other, entered_bounded, waiting_made_for, open_before}
use Rattle.locked_peers.proofs.LineKeepLemmas.{St, lanes_in, passes_in, closers_in, lane_number, pass_number, closer_number, takes_slot, gives_slot}

-- ---- the closer's part

closer_same : (d : Deed) (h : List Deed)
    → closed_at (d ∷ h) ≡ closed_at h
    → (j : ℕ)
    → closer_part (d ∷ h) j ≡ closer_part h j
closer_same d h same zero = ap (λ (o : Option ℕ). record { closed_at = o }) same
closer_same d h same (suc j) = refl

only_closer : (d : Deed) (h : List Deed) (j : ℕ) → j ≢ 0 → closer_part (d ∷ h) j ≡ closer_part h j
only_closer d h zero other = absurd (other refl)
only_closer d h (suc j) other = refl

-- ---- the slot is taken

learns : (sizes : Sizes) (s : St) (k : Keeps sizes s) (id : ℕ) (v : View)
    (me : get_elem? s.views id ≡ some v) (x : Store)
    → 0 < members v
    → Fits sizes k.history x
    → Knows v x
learns sizes s k id v me x member fits =
    let about : v.about ≡ sizes = k.about id v me member in
    record {
      entries = omega (arith, fits.entries, entered_bounded sizes k.history k.legal, k.few);
      lane_count = fits.lane_count ∙ ap (λ (z : Sizes). z.lanes) (sym about);
      lanes = all_weaker (True lanes_in lane_number sizes.lanes (lane_part k.history)) (λ r. get_or x.accepted.items r.number 0 ≡ length (accepted r.entries))
          (λ r true. fits.accepted_by r.number true.1 ∙ ap (λ (z : LaneRecord). length (accepted z.entries)) (sym true.0)) v.lanes (k.lanes.each id v me);
      made_for = subst (λ (z : Sizes). AllByRecursion (IsMadeFor z.machine) x.jobs.items) (sym about)
          (subst (AllByRecursion (IsMadeFor sizes.machine)) (sym fits.jobs) (waiting_made_for sizes k.history k.legal));
    }

pub enters : (sizes : Sizes) (n id : ℕ) (m : Sat)
    → IsIdle m
    → MayTry holding Knows (Keeps sizes) n id m
enters sizes n id m idle = may_try holding Knows (Keeps sizes) n id m idle.0
    (λ s k me free.
    let t = k.cell.home free in let x : Store = t.0 in (
      x,
      t.1,
      takes_slot sizes s k id m.0 me x free idle.2 idle.1 t.2,
      learns sizes s k id m.0 me x idle.2 t.2,
    ))

-- ---- the slot is given back by a lane

pub last-push : (jobs : List QueuedJob) (job : QueuedJob) → last_of (jobs ++ job ∷ []) ≡ Some job
last-push [] job = refl
last-push (x ∷ []) job = refl
last-push (x ∷ y ∷ jobs) job = last-push (y ∷ jobs) job

module _ (sizes : Sizes) (s : St) (k : Keeps sizes s) (id : ℕ) (about : Sizes) (r : LaneRecord)
    (x y : Store) (me : get_elem? s.views id ≡ some (view about (r ∷ []) [] [] (Some x)))
    (one_home : length s.homes ≡ 1) where
  lane_fits : Fits sizes k.history x
  lane_fits = k.cell.taken id (view about (r ∷ []) [] [] (Some x)) x me refl

  lane_mine : (r ≡ lane_part k.history r.number) × (r.number < sizes.lanes)
  lane_mine = (k.lanes.each id (view about (r ∷ []) [] [] (Some x)) me).0

  lane_about : about ≡ sizes
  lane_about = k.about id (view about (r ∷ []) [] [] (Some x)) me (omega arith)

  gives_lane : (d : Deed)
      → is_by_lane d r.number ≡ true
      → ((j : ℕ) → j ≢ r.number → is_by_lane d j ≡ false)
      → ((p : ℕ) → is_by_pass d p ≡ false)
      → closed_at (d ∷ k.history) ≡ closed_at k.history
      → (lane_after d r).number ≡ r.number
      → May sizes k.history d
      → Fits sizes (d ∷ k.history) y
      → Keeps sizes (stepped s 0 0 id ((0, y) ∷ []) (lane_view about (lane_after d r)) gives)
  gives_lane d own others no_pass same_close same_number may fits =
      let v : View = view about (r ∷ []) [] [] (Some x) in
      let w : View = lane_view about (lane_after d r) in
      gives_slot sizes s k id v me x y w d refl refl refl (omega arith) one_home may fits
      (steps lanes_in lane_number s.views k.lanes id v me (lane_part (d ∷ k.history)) w r (lane_after d r) refl refl same_number (lane_own d k.history r.number own ∙ ap (lane_after d) (sym lane_mine.0)) (λ j ne. lane_other d k.history j (others j ne)))
      (stays passes_in pass_number s.views k.passes id v me (pass_part (d ∷ k.history)) w refl (λ p. pass_other d k.history p (no_pass p)))
      (stays closers_in closer_number s.views k.closers id v me (closer_part (d ∷ k.history)) w refl (closer_same d k.history same_close))

  -- The count of accepted jobs of each lane.
  counts_on : (d : Deed) (others : (j : ℕ) → j ≢ r.number → is_by_lane d j ≡ false)
      → get_or y.accepted.items r.number 0
      ≡ length (accepted (lane_part (d ∷ k.history) r.number).entries)
      → ((j : ℕ) → j ≢ r.number → get_or y.accepted.items j 0 ≡ get_or x.accepted.items j 0)
      → (l : ℕ)
      → l < sizes.lanes
      → get_or y.accepted.items l 0 ≡ length (accepted (lane_part (d ∷ k.history) l).entries)
  counts_on d others mine rest l within =
      dite (ℕ_discrete l r.number)
      (λ e. subst (λ (j : ℕ). get_or y.accepted.items j 0 ≡ length (accepted (lane_part (d ∷ k.history) j).entries)) (sym e) mine)
      (λ ne. rest l ne ∙ (lane_fits.accepted_by l within ∙ ap (λ (z : LaneRecord). length (accepted z.entries)) (sym (lane_other d k.history l (others l ne)))))

  pub gives_entry : (job : QueuedJob)
      → Accepts about r x job y
      → Keeps sizes (stepped s 0 0 id ((0, y) ∷ [])
      (lane_view about (lane_after (accepts r.number x.entries job) r)) gives)
  gives_entry job a =
      let d : Deed = accepts r.number x.entries job in
      let f = lane_fits in
      let own : is_by_lane d r.number ≡ true = eq-eqb r.number r.number refl in
      let others : (j : ℕ) → j ≢ r.number → is_by_lane d j ≡ false = λ j ne. ne_eqb r.number j (λ e. ne (sym e)) in
      let seq = f.accepted_by r.number lane_mine.1 in
      let one_more : length (accepted (lane_part (d ∷ k.history) r.number).entries) ≡ get_or x.accepted.items r.number 0 + 1 = omega (
        arith,
        ap (λ (z : LaneRecord). length (accepted z.entries)) (lane_own d k.history r.number own),
        ap length (accepted-push (lane_part k.history r.number).entries x.entries job),
        length_push (accepted (lane_part k.history r.number).entries) job,
        seq,
      ) in
      gives_lane d own others (λ p. refl) refl refl
      ((lane_mine.1, f.entries, sym f.closed ∙ a.open_line, subst (λ (z : LaneRecord). length z.entries < MAX_ENTRIES) lane_mine.0 a.unspent), omega (arith, a.room, ap length f.jobs, f.capacity), a.id ∙ ap (Rattle.job_queue.specs.Record.job_id r.number) seq, subst (λ (z : Sizes). IsMadeFor z.machine job) lane_about a.made_for)
      record {
        jobs = a.jobs ∙ ap (λ (js : List QueuedJob). js ++ job ∷ []) f.jobs;
        lane_count = ap length a.accepted_by ∙ (length-set x.accepted.items r.number (get_or x.accepted.items r.number 0 + 1) ∙ f.lane_count);
        accepted_by = counts_on d others
            (ap (λ (ns : List ℕ). get_or ns r.number 0) a.accepted_by ∙ (get_or-set_same x.accepted.items r.number (get_or x.accepted.items r.number 0 + 1) 0 (omega (arith, lane_mine.1, f.lane_count)) ∙ sym one_more))
            (λ j ne. ap (λ (ns : List ℕ). get_or ns j 0) a.accepted_by ∙ get_or-set_other x.accepted.items r.number j (get_or x.accepted.items r.number 0 + 1) 0 ne);
        entries = omega (arith, a.entries, f.entries);
        closed = a.mark.0 ∙ f.closed;
        capacity = a.mark.1 ∙ f.capacity;
      }
    where
      length_push : (js : List QueuedJob) (q : QueuedJob) → length (js ++ q ∷ []) ≡ length js + 1
      length_push [] q = refl
      length_push (j ∷ js) q = omega (arith, length_push js q)

  pub gives_full_entry : Fills r x y
      → Keeps sizes (stepped s 0 0 id ((0, y) ∷ [])
      (lane_view about (lane_after (fills r.number x.entries) r)) gives)
  gives_full_entry a =
      let d : Deed = fills r.number x.entries in
      let f = lane_fits in
      let own : is_by_lane d r.number ≡ true = eq-eqb r.number r.number refl in
      let others : (j : ℕ) → j ≢ r.number → is_by_lane d j ≡ false = λ j ne. ne_eqb r.number j (λ e. ne (sym e)) in
      let seq = f.accepted_by r.number lane_mine.1 in
      let as_many : length (accepted (lane_part (d ∷ k.history) r.number).entries) ≡ get_or x.accepted.items r.number 0 =
      ap (λ (z : LaneRecord). length (accepted z.entries)) (lane_own d k.history r.number own) ∙ (ap length (accepted-full (lane_part k.history r.number).entries x.entries) ∙ sym seq) in
      gives_lane d own others (λ p. refl) refl refl
      ((lane_mine.1, f.entries, sym f.closed ∙ a.open_line, subst (λ (z : LaneRecord). length z.entries < MAX_ENTRIES) lane_mine.0 a.unspent), omega (arith, a.full, ap length f.jobs, f.capacity))
      record {
        jobs = a.jobs ∙ f.jobs;
        lane_count = ap length a.accepted_by ∙ f.lane_count;
        accepted_by = counts_on d others (ap (λ (ns : List ℕ). get_or ns r.number 0) a.accepted_by ∙ sym as_many) (λ j ne. ap (λ (ns : List ℕ). get_or ns j 0) a.accepted_by);
        entries = omega (arith, a.entries, f.entries);
        closed = a.mark.0 ∙ f.closed;
        capacity = a.mark.1 ∙ f.capacity;
      }

  pub gives_seen : x.closed ≡ true
      → Same x y
      → Keeps sizes (stepped s 0 0 id ((0, y) ∷ [])
      (lane_view about (lane_after (finds_closed r.number x.entries) r)) gives)
  gives_seen shut a =
      let d : Deed = finds_closed r.number x.entries in
      let f = lane_fits in
      let own : is_by_lane d r.number ≡ true = eq-eqb r.number r.number refl in
      let others : (j : ℕ) → j ≢ r.number → is_by_lane d j ≡ false = λ j ne. ne_eqb r.number j (λ e. ne (sym e)) in
      let seq = f.accepted_by r.number lane_mine.1 in
      gives_lane d own others (λ p. refl) refl refl (lane_mine.1, sym f.closed ∙ shut, f.entries)
      record {
        jobs = a.jobs ∙ f.jobs;
        lane_count = ap length a.accepted_by ∙ f.lane_count;
        accepted_by = counts_on d others (ap (λ (ns : List ℕ). get_or ns r.number 0) a.accepted_by ∙ (seq ∙ ap (λ (z : LaneRecord). length (accepted z.entries)) (sym (lane_own d k.history r.number own)))) (λ j ne. ap (λ (ns : List ℕ). get_or ns j 0) a.accepted_by);
        entries = a.entries ∙ f.entries;
        closed = a.mark.0 ∙ f.closed;
        capacity = a.mark.1 ∙ f.capacity;
      }

pub accepts_step : (sizes : Sizes) (n : ℕ)
    → n ≡ 1
    → (id : ℕ) (m : Sat) (r : LaneRecord) (x y : Store) (job : QueuedJob)
    → IsLaneOut m r x y
    → Accepts m.0.about r x job y
    → Allows (Keeps sizes) n id m 0 (λ _. 0) (λ _ w. w ≡ after_entry m)
accepts_step sizes n one id m r x y job is a = subst (λ (z : Sat). Allows (Keeps sizes) n id z 0 (λ _. 0) (λ _ w. w ≡ after_entry z)) (sym is)
    (λ s k homes me small. (
      lane_view m.0.about (lane_after (accepts r.number x.entries job) r),
      gives,
      tt,
      gives_entry sizes s k id m.0.about r x y me (homes ∙ one) job a,
      ap (λ (o : Option QueuedJob). (lane_view m.0.about (record r { entries = r.entries ++ entry x.entries o ∷ [] }), [])) (sym (ap last_of a.jobs ∙ last-push x.jobs.items job)),
    ))

pub fills_step : (sizes : Sizes) (n : ℕ)
    → n ≡ 1
    → (id : ℕ) (m : Sat) (r : LaneRecord) (x y : Store)
    → IsLaneOut m r x y
    → Fills r x y
    → Allows (Keeps sizes) n id m 0 (λ _. 0) (λ _ w. w ≡ after_full_entry m)
fills_step sizes n one id m r x y is a = subst (λ (z : Sat). Allows (Keeps sizes) n id z 0 (λ _. 0) (λ _ w. w ≡ after_full_entry z)) (sym is)
    (λ s k homes me small. (lane_view m.0.about (lane_after (fills r.number x.entries) r), gives, tt, gives_full_entry sizes s k id m.0.about r x y me (homes ∙ one) a, refl))

pub refuses_step : (sizes : Sizes) (n : ℕ)
    → n ≡ 1
    → (id : ℕ) (m : Sat) (r : LaneRecord) (x y : Store)
    → IsLaneOut m r x y
    → x.closed ≡ true
    → Same x y
    → Allows (Keeps sizes) n id m 0 (λ _. 0) (λ _ w. w ≡ after_seen m)
refuses_step sizes n one id m r x y is shut a = subst (λ (z : Sat). Allows (Keeps sizes) n id z 0 (λ _. 0) (λ _ w. w ≡ after_seen z)) (sym is)
    (λ s k homes me small. (lane_view m.0.about (lane_after (finds_closed r.number x.entries) r), gives, tt, gives_seen sizes s k id m.0.about r x y me (homes ∙ one) shut a, refl))

-- ---- the slot is given back by a pass

module _ (sizes : Sizes) (s : St) (k : Keeps sizes s) (id : ℕ) (about : Sizes) (r : PassRecord)
    (x y : Store) (me : get_elem? s.views id ≡ some (view about [] (r ∷ []) [] (Some x)))
    (one_home : length s.homes ≡ 1) where
  pass_fits : Fits sizes k.history x
  pass_fits = k.cell.taken id (view about [] (r ∷ []) [] (Some x)) x me refl

  pass_mine : (r ≡ pass_part k.history r.number) × (r.number < sizes.passes)
  pass_mine = (k.passes.each id (view about [] (r ∷ []) [] (Some x)) me).0

  gives_pass : (d : Deed)
      → is_by_pass d r.number ≡ true
      → ((j : ℕ) → j ≢ r.number → is_by_pass d j ≡ false)
      → ((l : ℕ) → is_by_lane d l ≡ false)
      → closed_at (d ∷ k.history) ≡ closed_at k.history
      → (pass_after d r).number ≡ r.number
      → May sizes k.history d
      → Fits sizes (d ∷ k.history) y
      → Keeps sizes (stepped s 0 0 id ((0, y) ∷ []) (pass_view about (pass_after d r)) gives)
  gives_pass d own others no_lane same_close same_number may fits =
      let v : View = view about [] (r ∷ []) [] (Some x) in
      let w : View = pass_view about (pass_after d r) in
      gives_slot sizes s k id v me x y w d refl refl refl (omega arith) one_home may fits
      (stays lanes_in lane_number s.views k.lanes id v me (lane_part (d ∷ k.history)) w refl (λ l. lane_other d k.history l (no_lane l)))
      (steps passes_in pass_number s.views k.passes id v me (pass_part (d ∷ k.history)) w r (pass_after d r) refl refl same_number (pass_own d k.history r.number own ∙ ap (pass_after d) (sym pass_mine.0)) (λ j ne. pass_other d k.history j (others j ne)))
      (stays closers_in closer_number s.views k.closers id v me (closer_part (d ∷ k.history)) w refl (closer_same d k.history same_close))

  pub gives_taken : (job : QueuedJob)
      → Hands x job y
      → Keeps sizes (stepped s 0 0 id ((0, y) ∷ [])
      (pass_view about (pass_after (takes_job r.number job) r)) gives)
  gives_taken job a =
      let d : Deed = takes_job r.number job in
      let f = pass_fits in
      let front : waiting k.history ≡ job ∷ y.jobs.items = sym f.jobs ∙ a.jobs in
      let behind : rest_of (waiting k.history) ≡ y.jobs.items = ap rest_of front in
      gives_pass d (eq-eqb r.number r.number refl) (λ j ne. ne_eqb r.number j (λ e. ne (sym e))) (λ l. refl) refl refl (pass_mine.1, front ∙ ap (λ (js : List QueuedJob). job ∷ js) (sym behind))
      record {
        jobs = sym behind;
        lane_count = ap length a.accepted_by ∙ f.lane_count;
        accepted_by = λ l within. ap (λ (ns : List ℕ). get_or ns l 0) a.accepted_by ∙ f.accepted_by l within;
        entries = a.entries ∙ f.entries;
        closed = a.mark.0 ∙ f.closed;
        capacity = a.mark.1 ∙ f.capacity;
      }

  pub gives_reading : x.jobs.items ≡ []
      → Same x y
      → Keeps sizes (stepped s 0 0 id ((0, y) ∷ [])
      (pass_view about (pass_after (finds_empty r.number x.entries x.closed) r)) gives)
  gives_reading empty a =
      let d : Deed = finds_empty r.number x.entries x.closed in
      let f = pass_fits in
      gives_pass d (eq-eqb r.number r.number refl) (λ j ne. ne_eqb r.number j (λ e. ne (sym e))) (λ l. refl) refl refl (pass_mine.1, sym f.jobs ∙ empty, f.entries, f.closed)
      record {
        jobs = a.jobs ∙ f.jobs;
        lane_count = ap length a.accepted_by ∙ f.lane_count;
        accepted_by = λ l within. ap (λ (ns : List ℕ). get_or ns l 0) a.accepted_by ∙ f.accepted_by l within;
        entries = a.entries ∙ f.entries;
        closed = a.mark.0 ∙ f.closed;
        capacity = a.mark.1 ∙ f.capacity;
      }

pub hands_step : (sizes : Sizes) (n : ℕ)
    → n ≡ 1
    → (id : ℕ) (m : Sat) (r : PassRecord) (x y : Store) (job : QueuedJob)
    → IsPassOut m r x y
    → Hands x job y
    → Allows (Keeps sizes) n id m 0 (λ _. 0) (λ _ w. w ≡ after_taken m)
hands_step sizes n one id m r x y job is a = subst (λ (z : Sat). Allows (Keeps sizes) n id z 0 (λ _. 0) (λ _ w. w ≡ after_taken z)) (sym is)
    (λ s k homes me small. (
      pass_view m.0.about (pass_after (takes_job r.number job) r),
      gives,
      tt,
      gives_taken sizes s k id m.0.about r x y me (homes ∙ one) job a,
      ap (λ (js : List QueuedJob). (pass_view m.0.about (record r { taken = r.taken ++ js }), [])) (sym (ap front_of a.jobs)),
    ))

pub reads_step : (sizes : Sizes) (n : ℕ)
    → n ≡ 1
    → (id : ℕ) (m : Sat) (r : PassRecord) (x y : Store)
    → IsPassOut m r x y
    → x.jobs.items ≡ []
    → Same x y
    → Allows (Keeps sizes) n id m 0 (λ _. 0) (λ _ w. w ≡ after_reading m)
reads_step sizes n one id m r x y is empty a = subst (λ (z : Sat). Allows (Keeps sizes) n id z 0 (λ _. 0) (λ _ w. w ≡ after_reading z)) (sym is)
    (λ s k homes me small. (pass_view m.0.about (pass_after (finds_empty r.number x.entries x.closed) r), gives, tt, gives_reading sizes s k id m.0.about r x y me (homes ∙ one) empty a, refl))

-- ---- the slot is given back by the closer

pub closes_step : (sizes : Sizes) (n : ℕ)
    → n ≡ 1
    → (id : ℕ) (m : Sat) (x y : Store)
    → IsCloserOut m x y
    → Closes x y
    → Allows (Keeps sizes) n id m 0 (λ _. 0) (λ _ w. w ≡ after_close m)
closes_step sizes n one id m x y is a = subst (λ (z : Sat). Allows (Keeps sizes) n id z 0 (λ _. 0) (λ _ w. w ≡ after_close z)) (sym is)
    (λ s k homes me small.
    let about = m.0.about in
    let before : CloserRecord = record { closed_at = None } in
    let after : CloserRecord = record { closed_at = Some x.entries } in
    let v : View = view about [] [] (before ∷ []) (Some x) in
    let w : View = closer_view about (Some x.entries) in
    let d : Deed = closes x.entries in
    let f = k.cell.taken id v x me refl in
    let open_line : closed_at k.history ≡ None = ap (λ (c : CloserRecord). c.closed_at) (sym (k.closers.each id v me).0.0) in (
      w,
      gives,
      tt,
      gives_slot sizes s k id v me x y w d refl refl refl (omega arith) (homes ∙ one) (open_before sizes k.history open_line, f.entries)
          record {
            jobs = a.jobs ∙ f.jobs;
            lane_count = ap length a.accepted_by ∙ f.lane_count;
            accepted_by = λ l within. ap (λ (ns : List ℕ). get_or ns l 0) a.accepted_by ∙ f.accepted_by l within;
            entries = a.entries ∙ f.entries;
            closed = a.closed;
            capacity = a.capacity ∙ f.capacity;
          }
          (stays lanes_in lane_number s.views k.lanes id v me (lane_part (d ∷ k.history)) w refl (λ l. refl))
          (stays passes_in pass_number s.views k.passes id v me (pass_part (d ∷ k.history)) w refl (λ p. refl))
          (steps closers_in closer_number s.views k.closers id v me (closer_part (d ∷ k.history)) w before after refl refl refl refl (only_closer d k.history)),
      refl,
    ))
