-- Views are dealt out when lanes are opened, and joined when they end.
use Rattle.std.proofs.Common.{◌≡◌, ℕ, suc, ◌+◌, ◌-◌, ◌<◌, List, [], ◌∷◌, length, sym, refl, ap, ◌∙◌, subst, arith}
use Rattle.std.specs.Prelude.{replicate}
use Rattle.std.proofs.lemmas.List.{get_or-replicate, length-replicate}
use Rattle.atomic_table.specs.Table.{opening, Splits, Joins}
use Rattle.ghost_history.specs.Sums.{is_at}
use Rattle.ghost_history.specs.Lists.{first_of, rest_of, numbered_from}
use Rattle.ghost_history.proofs.DealLemmas.{cut-all, cut-total, fresh-count, first-tied, one-tied}
use Rattle.ghost_history.proofs.ViewLemmas.{True, splits, joins}
use Rattle.lanes.specs.declared.sizes.TheConstants.{TAIL, HEAD}
use Rattle.lanes.specs.declared.sizes.Plan.{Plan}
use Rattle.lanes.specs.declared.record.TakeRecord.{TakeRecord}
use Rattle.lanes.specs.declared.view.View.{View}
use Rattle.lanes.specs.Layout.{lane_start, all_words}
use Rattle.lanes.specs.Record.{fresh_lane, fresh_take, fresh_worker}
use Rattle.lanes.specs.Inner.View.{view, fresh_closer, first_view, without_lane, lane_alone, lane_view, without_worker, worker_alone, worker_view, joined, spent_view, closer_view}
use Rattle.lanes.specs.Inner.Rule.{lane_at, worker_at, closer_at, LaneWords, reads, Keeps}
use Rattle.lanes.specs.Inner.Step.{Sat, members_view, IsMembersSeat, IsLane, IsWorker}
use Rattle.lanes.proofs.ListLemmas.{numbered-map}
use Rattle.lanes.proofs.LayoutLemmas.{lane-inside}
use Rattle.lanes.proofs.NextLemmas.{lanes_in, workers_in, closers_in, lane_number, worker_number, closer_number}

-- the words of a new lane
first_words : (plan : Plan) (l : ℕ)
    → l < plan.sizes.lanes
    → LaneWords plan.sizes.capacity [] (reads plan (replicate (all_words plan) 0) l)
first_words plan l low = record {
  tail = get_or-replicate (all_words plan) (lane_start plan l + TAIL) 0 0 (lane-inside plan l TAIL low (omega arith));
  head = get_or-replicate (all_words plan) (lane_start plan l + HEAD) 0 0 (lane-inside plan l HEAD low (omega arith));
  payloads = λ i from to. absurd (omega arith);
  dims = λ i from to. absurd (omega arith);
}

-- the table of new lanes meets the rule
pub opens : (plan : Plan) (ws : List ℕ)
    → 0 < plan.sizes.capacity
    → ws ≡ replicate (all_words plan) 0
    → Keeps plan (opening ws [] (first_view plan))
opens plan ws some_room is =
    let v = first_view plan in
    record {
      kept = record {
        histories = λ _. [];
        legal = λ _. tt;
        some_room = some_room;
        long = subst (λ (us : List ℕ). length us ≡ all_words plan) (sym is) (length-replicate (all_words plan) 0);
        words = λ l low. subst (λ (us : List ℕ). LaneWords plan.sizes.capacity [] (reads plan us l)) (sym is) (first_words plan l low);
        lanes = first-tied lanes_in lane_number (fresh_lane plan.sizes.capacity) (λ _. refl) plan.sizes.lanes v refl;
        workers = first-tied workers_in worker_number (fresh_worker plan) (λ _. refl) plan.sizes.workers v refl;
        closers = one-tied closers_in closer_number (closer_at plan (λ _. [])) v (fresh_closer plan) refl refl refl;
      };
    }

-- ---- a view is cut

pub deals_lane : (plan : Plan) (id : ℕ) (v : View)
    → Splits (Keeps plan) id v (without_lane v) (lane_alone v)
deals_lane plan id v s keep me = let k = keep.kept in record {
  kept = record {
    histories = k.histories;
    legal = k.legal;
    some_room = k.some_room;
    long = k.long;
    words = k.words;
    lanes = splits lanes_in lane_number s.views k.lanes id v me (without_lane v) (lane_alone v) (cut-all (True lanes_in lane_number plan.sizes.lanes (lane_at plan k.histories)) v.lanes) (λ n. cut-total (λ r. is_at n (lane_number r)) v.lanes);
    workers = splits workers_in worker_number s.views k.workers id v me (without_lane v) (lane_alone v) (λ all. (all, tt)) (λ n. omega arith);
    closers = splits closers_in closer_number s.views k.closers id v me (without_lane v) (lane_alone v) (λ all. (all, tt)) (λ n. omega arith);
  };
}

pub deals_worker : (plan : Plan) (id : ℕ) (v : View)
    → Splits (Keeps plan) id v (without_worker v) (worker_alone v)
deals_worker plan id v s keep me = let k = keep.kept in record {
  kept = record {
    histories = k.histories;
    legal = k.legal;
    some_room = k.some_room;
    long = k.long;
    words = k.words;
    lanes = splits lanes_in lane_number s.views k.lanes id v me (without_worker v) (worker_alone v) (λ all. (all, tt)) (λ n. omega arith);
    workers = splits workers_in worker_number s.views k.workers id v me (without_worker v) (worker_alone v) (cut-all (True workers_in worker_number plan.sizes.workers (worker_at plan k.histories)) v.workers) (λ n. cut-total (λ r. is_at n (worker_number r)) v.workers);
    closers = splits closers_in closer_number s.views k.closers id v me (without_worker v) (worker_alone v) (λ all. (all, tt)) (λ n. omega arith);
  };
}

-- ---- two views are joined

pub joins_views : (plan : Plan) (id : ℕ) (v : View) (other : ℕ) (w : View)
    → Joins (Keeps plan) id v other w (joined v w) spent_view
joins_views plan id v other w s keep me apart there = let k = keep.kept in record {
  kept = record {
    histories = k.histories;
    legal = k.legal;
    some_room = k.some_room;
    long = k.long;
    words = k.words;
    lanes = joins lanes_in lane_number s.views k.lanes id v me other w (joined v w) spent_view apart there refl refl;
    workers = joins workers_in worker_number s.views k.workers id v me other w (joined v w) spent_view apart there refl refl;
    closers = joins closers_in closer_number s.views k.closers id v me other w (joined v w) spent_view apart there refl refl;
  };
}

-- ---- the members after a deal

next_first : {R : Type 0} (f : ℕ → R) (a n : ℕ)
    → a < n
    → (rest_of (numbered_from f a (n - a)) ≡ numbered_from f (a + 1) (n - (a + 1)))
    × (first_of (numbered_from f a (n - a)) ≡ f a ∷ [])
next_first f a n low = let e : n - a ≡ suc (n - (a + 1)) = omega arith in (ap (λ (k : ℕ). rest_of (numbered_from f a k)) e, ap (λ (k : ℕ). first_of (numbered_from f a k)) e)

abbrev lane_left : Sat → Sat
lane_left z = (without_lane z.0, z.1)

abbrev lane_dealt : Sat → Sat
lane_dealt z = (lane_alone z.0, [])

abbrev worker_left : Sat → Sat
worker_left z = (without_worker z.0, z.1)

abbrev worker_dealt : Sat → Sat
worker_dealt z = (worker_alone z.0, [])

-- The seat of the members, and that of the lane that is dealt out.
pub dealt_lane : (plan : Plan) (a b : ℕ) (m n d : Sat)
    → IsMembersSeat plan a b m
    → a < plan.sizes.lanes
    → n ≡ (without_lane m.0, m.1)
    → d ≡ (lane_alone m.0, [])
    → IsMembersSeat plan (a + 1) b n × (d ≡ (lane_view (fresh_lane plan.sizes.capacity a), []))
    × IsLane plan a 0 d
dealt_lane plan a b m n d is low now lane =
    let cut = next_first (fresh_lane plan.sizes.capacity) a plan.sizes.lanes low in
    let workers = numbered_from (fresh_worker plan) b (plan.sizes.workers - b) in
    let left : lane_left m ≡ (members_view plan (a + 1) b, []) = ap lane_left is ∙ (λ i. (view (cut.0 i) workers (fresh_closer plan ∷ []), [])) in
    let alone : lane_dealt m ≡ (lane_view (fresh_lane plan.sizes.capacity a), []) = ap lane_dealt is ∙ (λ i. (view (cut.1 i) [] [], [])) in
    let at : d ≡ (lane_view (fresh_lane plan.sizes.capacity a), []) = lane ∙ alone in (
      now ∙ left,
      at,
      subst (IsLane plan a 0) (sym at) record { seat = refl; number_is = refl; within = low; capacity_is = refl; seen_is = refl },
    )

-- The same of a worker.
pub dealt_worker : (plan : Plan) (a b : ℕ) (tails : List ℕ) (m n d : Sat)
    → IsMembersSeat plan a b m
    → b < plan.sizes.workers
    → tails ≡ replicate plan.sizes.lanes 0
    → n ≡ (without_worker m.0, m.1)
    → d ≡ (worker_alone m.0, [])
    → IsMembersSeat plan a (b + 1) n × (d ≡ (worker_view (fresh_worker plan b), []))
    × IsWorker plan b tails d
dealt_worker plan a b tails m n d is low zeros now worker =
    let cut = next_first (fresh_worker plan) b plan.sizes.workers low in
    let lanes = numbered_from (fresh_lane plan.sizes.capacity) a (plan.sizes.lanes - a) in
    let left : worker_left m ≡ (members_view plan a (b + 1), []) = ap worker_left is ∙ (λ i. (view lanes (cut.0 i) (fresh_closer plan ∷ []), [])) in
    let alone : worker_dealt m ≡ (worker_view (fresh_worker plan b), []) = ap worker_dealt is ∙ (λ i. (view [] (cut.1 i) [], [])) in
    let at : d ≡ (worker_view (fresh_worker plan b), []) = worker ∙ alone in (
      now ∙ left,
      at,
      subst (IsWorker plan b tails) (sym at) record {
        seat = refl;
        number_is = refl;
        plan_is = refl;
        long = fresh-count (λ _. fresh_take) 0 plan.sizes.lanes;
        tails_are = zeros ∙ sym (numbered-map (λ _. fresh_take) (λ (t : TakeRecord). t.tail) 0 0 plan.sizes.lanes (λ _. refl));
      },
    )

-- When all are dealt out, the closer is left.
pub only_closer : (plan : Plan) (a b : ℕ) (m : Sat)
    → IsMembersSeat plan a b m
    → a ≡ plan.sizes.lanes
    → b ≡ plan.sizes.workers
    → m ≡ (closer_view (fresh_closer plan), [])
only_closer plan a b m is all_lanes all_workers =
    let no_lane : plan.sizes.lanes - a ≡ 0 = omega arith in
    let no_worker : plan.sizes.workers - b ≡ 0 = omega arith in
    is ∙ (λ i. (view (numbered_from (fresh_lane plan.sizes.capacity) a (no_lane i)) (numbered_from (fresh_worker plan) b (no_worker i)) (fresh_closer plan ∷ []), []))
