-- Each step of a worker keeps the rule, and what it makes of the worker's record.
use Rattle.std.proofs.Common.{◌≡◌, ◌≢◌, ℕ, ◌+◌, ◌-◌, ◌%◌, ◌^◌, ◌<◌, ◌≤◌, ⊎_elim, Bool, true, false, eqb, eq-eqb, ne_eqb, Some, List, [], ◌∷◌, get_or, set, map, sym, refl, ap, ◌∙◌, subst, arith}
use Rattle.std.proofs.lemmas.List.{length-set, get_or-set_same, map-set}
use Rattle.std.proofs.Math.Seq.{map-set_same}
use Rattle.std.specs.Prelude.{MatchBool}
use mathlib.Core.Logic.{dite}
use native.Mathlib.Decide.{ℕ_discrete}
use mathlib.Core.Option.{some, none}
use lib.ListN.{get_elem?}
use prog.Atomic.{either}
use Rattle.atomic_table.specs.Table.{Act, Valid, keeps, step, stepped, Allows, carried_after}
use Rattle.atomic_table.proofs.Lists.{exchanged}
use Rattle.lanes.specs.declared.sizes.TheConstants.{CLOSED, TAIL, HEAD}
use Rattle.lanes.specs.declared.sizes.Plan.{Plan}
use Rattle.lanes.specs.declared.record.TakeRecord.{TakeRecord}
use Rattle.lanes.specs.declared.record.WorkerRecord.{WorkerRecord}
use Rattle.lanes.specs.declared.view.View.{View}
use Rattle.lanes.specs.Layout.{lane_words, lane_start, lane_of, cell_of}
use Rattle.lanes.specs.Lanes.{ChangesOnly}
use Rattle.lanes.specs.Record.{fresh_take, take_of, with_take, after_head, after_empty, after_tail, after_cell, after_dim_cell, after_take, after_loss}
use Rattle.lanes.specs.History.{reads_head, finds_none, finds_some, reads_payload, reads_dim, takes, loses, by_worker, count, taken, payload_of, dim_of, is_shut}
use Rattle.lanes.specs.Inner.View.{worker_view}
use Rattle.lanes.specs.Inner.Rule.{reads, LanesKept, Keeps}
use Rattle.lanes.specs.Inner.Step.{Sat, worker_in, number_in, IsWorker, IsTakeNow, HasMark, FindsCount, FindsTail, TakesAt, reads_head_at, reads_tail_at, reads_payload_at, reads_dim_at, takes_at}
use Rattle.lanes.proofs.LayoutLemmas.{lane_of-start, cell-inside}
use Rattle.lanes.proofs.WordLemmas.{head_set}
use Rattle.lanes.proofs.NextLemmas.{St, shut_or_open, all_sound, written, worker_knows, worker_next, still_words, small, tail_shut, tail_open}

-- ---- what a step makes of the worker's record

-- The worker is as before, except in one lane.
pub record Moves (plan : Plan) (number : ℕ) (tails : List ℕ) (l : ℕ) (w : WorkerRecord) (n : Sat)
    (after : TakeRecord → TakeRecord) : Type 0 where
  pub worker : IsWorker plan number tails n
  pub only : ChangesOnly l w (worker_in n.0.workers)
  pub take : take_of l (worker_in n.0.workers) ≡ after (take_of l w)

lane_is : (plan x : Plan) (l i o : ℕ)
    → plan ≡ x
    → i ≡ lane_start x l + o
    → o < lane_words x.sizes.capacity
    → lane_of plan i ≡ l
lane_is plan x l i o same at inside = ap (λ (p : Plan). lane_of p i) same ∙ (ap (lane_of x) at ∙ lane_of-start x l o inside)

-- the two ways in which the counts that the worker has seen follow its record
moved : (plan : Plan) (number : ℕ) (tails new : List ℕ) (m n : Sat) (l : ℕ) (t : TakeRecord)
    → IsWorker plan number tails m → l < plan.sizes.lanes
    → new ≡ map (λ (x : TakeRecord). x.tail) (set (worker_in m.0.workers).lanes l t)
    → n ≡ (worker_view (with_take l t (worker_in m.0.workers)), [])
    → IsWorker plan number new n × ChangesOnly l (worker_in m.0.workers) (worker_in n.0.workers)
    × (take_of l (worker_in n.0.workers) ≡ t)
moved plan number tails new m n l t is low tails_are now =
    let r = worker_in m.0.workers in
    let r' = with_take l t r in
    let own : take_of l r' ≡ t = get_or-set_same r.lanes l t fresh_take (omega (arith, is.long, low)) in
    let worker : IsWorker plan number new (worker_view r', []) = record { seat = refl; number_is = is.number_is; plan_is = is.plan_is; long = length-set r.lanes l t ∙ is.long; tails_are = tails_are } in
    subst (λ (z : Sat). IsWorker plan number new z × ChangesOnly l r (worker_in z.0.workers) × (take_of l (worker_in z.0.workers) ≡ t)) (sym now)
    (worker, ap (λ (z : TakeRecord). with_take l z r) (sym own), own)

module _ (plan x : Plan) (number : ℕ) (tails : List ℕ) (m n : Sat) (w : WorkerRecord) (l i o : ℕ)
    (is : IsWorker plan number tails m) (known : worker_in m.0.workers ≡ w) (same : plan ≡ x)
    (low : l < x.sizes.lanes) (at : i ≡ lane_start x l + o)
    (inside : o < lane_words x.sizes.capacity) where
  low_here : l < plan.sizes.lanes
  low_here = subst (λ (p : Plan). l < p.sizes.lanes) (sym same) low

  -- the lane of the word is the worker's
  pub in_lane : lane_of (worker_in m.0.workers).plan i ≡ l
  in_lane = lane_is (worker_in m.0.workers).plan x l i o (is.plan_is ∙ same) at inside

  -- a step after which the worker has seen no other count
  moves_here : (after : TakeRecord → TakeRecord)
      → (after (take_of l w)).tail ≡ (take_of l w).tail
      → IsTakeNow l m n after
      → Moves plan number tails l w n after
  moves_here after same_tail here =
      let r = worker_in m.0.workers in
      let t = take_of l r in
      let tail_kept : (after t).tail ≡ t.tail = subst (λ (z : WorkerRecord). (after (take_of l z)).tail ≡ (take_of l z).tail) (sym known) same_tail in
      let all = moved plan number tails tails m n l (after t) is low_here (is.tails_are ∙ sym (map-set_same (λ (z : TakeRecord). z.tail) r.lanes l (after t) fresh_take tail_kept)) here in
      record { worker = all.0; only = subst (λ (z : WorkerRecord). ChangesOnly l z (worker_in n.0.workers)) known all.1; take = all.2 ∙ ap (λ (z : WorkerRecord). after (take_of l z)) known }

  pub moves : (after : TakeRecord → TakeRecord)
      → (after (take_of l w)).tail ≡ (take_of l w).tail
      → IsTakeNow (lane_of (worker_in m.0.workers).plan i) m n after
      → Moves plan number tails l w n after
  moves after same_tail now = moves_here after same_tail (subst (λ (j : ℕ). IsTakeNow j m n after) in_lane now)

  -- a step after which it has seen this count
  counts_moved : (count : ℕ)
      → IsTakeNow l m n (after_tail count)
      → Moves plan number (set tails l count) l w n (after_tail count)
  counts_moved count here =
      let r = worker_in m.0.workers in
      let t = take_of l r in
      let all = moved plan number tails (set tails l count) m n l (after_tail count t) is low_here (ap (λ (ts : List ℕ). set ts l count) is.tails_are ∙ sym (map-set (λ (z : TakeRecord). z.tail) r.lanes l (after_tail count t))) here in
      record { worker = all.0; only = subst (λ (z : WorkerRecord). ChangesOnly l z (worker_in n.0.workers)) known all.1; take = all.2 ∙ ap (λ (z : WorkerRecord). after_tail count (take_of l z)) known }

  count_of_word : (found count : ℕ) (closed : Bool)
      → HasMark found count closed
      → FindsTail l m found n
      → FindsCount l m n count closed
  count_of_word found count true has finds = subst (λ (c : ℕ). FindsCount l m n c true) (sym has.1) (finds.1 has.0)
  count_of_word found count false has finds = subst (λ (c : ℕ). FindsCount l m n c false) (sym has.1) (finds.0 has.0)

  finds_here : (found count : ℕ) (closed : Bool)
      → HasMark found count closed
      → FindsTail (lane_of (worker_in m.0.workers).plan i) m found n
      → FindsCount l m n count closed
  finds_here found count closed has finds = count_of_word found count closed has (subst (λ (j : ℕ). FindsTail j m found n) in_lane finds)

  head_is : (head : ℕ) → head ≡ (take_of l w).head → head ≡ (take_of l (worker_in m.0.workers)).head
  head_is head is_that = is_that ∙ sym (ap (λ (z : WorkerRecord). (take_of l z).head) known)

  -- the count is that of taken jobs
  pub none_found : (found count head : ℕ) (closed : Bool)
      → HasMark found count closed
      → head ≡ (take_of l w).head
      → count ≡ head
      → FindsTail (lane_of (worker_in m.0.workers).plan i) m found n
      → Moves plan number tails l w n (after_empty head closed)
  none_found found count head closed has at_head same_count finds =
      subst (λ (c : ℕ). Moves plan number tails l w n (after_empty c closed)) same_count
      (moves_here (after_empty count closed) refl ((finds_here found count closed has finds).1 (same_count ∙ head_is head at_head)))

  -- the count is greater
  pub some_found : (found count head : ℕ) (closed : Bool)
      → HasMark found count closed
      → head ≡ (take_of l w).head
      → count ≢ head
      → FindsTail (lane_of (worker_in m.0.workers).plan i) m found n
      → (head < count) × Moves plan number (set tails l count) l w n (after_tail count)
  some_found found count head closed has at_head other finds =
      let got = finds_here found count closed has finds in
      let here = head_is head at_head in
      let more : head < count = omega (arith, here, got.0, other) in
      (more, counts_moved count (got.2 (omega (arith, here, more))))

  -- the job is taken, or another had taken it
  pub took : (found expected p d : ℕ)
      → (take_of l w).payload ≡ Some p
      → (take_of l w).dim ≡ Some d
      → TakesAt (lane_of (worker_in m.0.workers).plan i) expected m found n
      → IsWorker plan number tails n × ChangesOnly l w (worker_in n.0.workers)
      × MatchBool (eqb found expected) (take_of l (worker_in n.0.workers) ≡ after_take p d (take_of l w)) (take_of l (worker_in n.0.workers) ≡ after_loss (take_of l w))
  took found expected p d payload dim takes_at_word =
      let r = worker_in m.0.workers in
      let here : TakesAt l expected m found n = subst (λ (j : ℕ). TakesAt j expected m found n) in_lane takes_at_word in
      let payload_is : number_in (take_of l r).payload ≡ p = ap (λ (z : WorkerRecord). number_in (take_of l z).payload) known ∙ ap number_in payload in
      let dim_is : number_in (take_of l r).dim ≡ d = ap (λ (z : WorkerRecord). number_in (take_of l z).dim) known ∙ ap number_in dim in
      let A = take_of l (worker_in n.0.workers) ≡ after_take p d (take_of l w) in
      let B = take_of l (worker_in n.0.workers) ≡ after_loss (take_of l w) in
      dite (ℕ_discrete found expected)
      (λ e.
      let now : IsTakeNow l m n (after_take p d) = subst (λ (q : ℕ). IsTakeNow l m n (after_take p q)) dim_is (subst (λ (q : ℕ). IsTakeNow l m n (after_take q (number_in (take_of l r).dim))) payload_is (here.0 e)) in
      let all = moves_here (after_take p d) refl now in
      (all.worker, all.only, subst (λ (b : Bool). MatchBool b A B) (sym (eq-eqb found expected e)) all.take))
      (λ ne.
      let all = moves_here after_loss refl (here.1 ne) in
      (all.worker, all.only, subst (λ (b : Bool). MatchBool b A B) (sym (ne_eqb found expected ne)) all.take))

-- ---- the steps

module _ (plan : Plan) (n id number : ℕ) (tails : List ℕ) (m : Sat)
    (is : IsWorker plan number tails m) (l : ℕ) (low : l < plan.sizes.lanes) where
  abbrev r : WorkerRecord
  r = worker_in m.0.workers

  abbrev t : TakeRecord
  t = take_of l r

  -- a step on a word of the lane, for the worker's own seat
  finish : (o i : ℕ) (f : ℕ → ℕ) (Then : ℕ → ℕ → Sat → Type 0)
      → i ≡ lane_start plan l + o
      → o < lane_words plan.sizes.capacity
      → Allows (Keeps plan) n id (worker_view r, []) (lane_start plan l + o) f (Then l)
      → Allows (Keeps plan) n id m i f (Then (lane_of r.plan i))
  finish o i f Then at inside here =
      subst (λ (j : ℕ). Allows (Keeps plan) n id m i f (Then j)) (sym (lane_is r.plan plan l i o is.plan_is at inside))
      (subst (λ (j : ℕ). Allows (Keeps plan) n id m j f (Then l)) (sym at)
      (subst (λ (z : Sat). Allows (Keeps plan) n id z (lane_start plan l + o) f (Then l)) (sym is.seat) here))

  pub read_head_step : (i : ℕ)
      → i ≡ lane_start plan l + HEAD
      → Allows (Keeps plan) n id m i (λ x. x) (reads_head_at (step n i 0 0 none) m)
  read_head_step i at = finish HEAD i (λ x. x) (λ j found z. IsTakeNow j m z (after_head found)) at (omega arith)
      (λ s keep homes me within.
      let k = keep.kept in
      let found = get_or s.words (lane_start plan l + HEAD) 0 in (
        worker_view (with_take l (after_head found t) r),
        keeps,
        tt,
        worker_next plan s k id r me l low (reads_head found) HEAD found (k.words l low).head (omega arith) (still_words plan s k id l (by_worker r.number (reads_head found)) HEAD low refl refl refl refl refl (λ j. refl) (λ j. refl)),
        refl,
      ))

  module _ (s : St) (k : LanesKept plan s) (me : get_elem? s.views id ≡ some (worker_view r)) where
    -- what a worker makes of the count, beside the mark or not
    counts : (b : Bool) → is_shut (k.histories l) ≡ b
        → (w : View) × (a : Act (Unit {0})) × Valid s.homes [] a
        × Keeps plan (stepped s (lane_start plan l + TAIL) (get_or s.words (lane_start plan l + TAIL) 0) id [] w a)
        × FindsCount l m (w, carried_after [] a) (count (k.histories l)) b
    counts b mark =
        let h = k.histories l in
        let found = get_or s.words (lane_start plan l + TAIL) 0 in
        let knows = worker_knows plan s k id r me l low in
        let all = all_sound plan s k id l in
        let head_low : t.head ≤ count h = omega (arith, knows.0, all.counts.0) in
        dite (ℕ_discrete (count h) t.head)
        (λ e. (
          worker_view (with_take l (after_empty (count h) b t) r),
          keeps,
          tt,
          worker_next plan s k id r me l low (finds_none (count h) b) TAIL found (refl, omega (arith, e, knows.0, all.counts.0), sym mark) (omega arith) (still_words plan s k id l (by_worker r.number (finds_none (count h) b)) TAIL low refl refl refl refl refl (λ j. refl) (λ j. refl)),
          (head_low, λ same. refl, λ more. absurd (omega (arith, e, more))),
        ))
        (λ ne. (
          worker_view (with_take l (after_tail (count h) t) r),
          keeps,
          tt,
          worker_next plan s k id r me l low (finds_some (count h)) TAIL found (refl, omega (arith, ne, head_low)) (omega arith) (still_words plan s k id l (by_worker r.number (finds_some (count h))) TAIL low refl refl refl refl refl (λ j. refl) (λ j. refl)),
          (head_low, λ same. absurd (ne same), λ more. refl),
        ))

  pub read_tail_step : (i : ℕ)
      → i ≡ lane_start plan l + TAIL
      → Allows (Keeps plan) n id m i (λ x. x) (reads_tail_at (step n i 0 0 none) m)
  read_tail_step i at = finish TAIL i (λ x. x) (λ j found z. FindsTail j m found z) at (omega arith)
      (λ s keep homes me within.
      let k = keep.kept in
      let h = k.histories l in
      let found = get_or s.words (lane_start plan l + TAIL) 0 in
      ⊎_elim
      (λ (shut : is_shut h ≡ true).
      let is_at : found ≡ count h + CLOSED = tail_shut plan s k id l low shut in
      let number_is : count h ≡ found - CLOSED = omega (arith, is_at) in
      let got = counts s k me true shut in (
        got.0,
        got.1,
        got.2,
        got.3,
        (λ below_it. absurd (omega (arith, is_at)), λ above. subst (λ (c : ℕ). FindsCount l m (got.0, carried_after [] got.1) c true) number_is got.4),
      ))
      (λ (still : is_shut h ≡ false).
      let is_at : found ≡ count h = tail_open plan s k id l low still in
      let got = counts s k me false still in (
        got.0,
        got.1,
        got.2,
        got.3,
        (λ below_it. subst (λ (c : ℕ). FindsCount l m (got.0, carried_after [] got.1) c false) (sym is_at) got.4, λ above. absurd (omega (arith, is_at, small plan s k id l))),
      ))
      (shut_or_open (is_shut h)))

  pub read_payload_step : (i c : ℕ)
      → 0 < plan.sizes.capacity
      → i ≡ lane_start plan l + cell_of plan.sizes.capacity c
      → c ≡ t.head
      → t.head < t.tail
      → Allows (Keeps plan) n id m i (λ x. x) (reads_payload_at (step n i 0 0 none) m)
  read_payload_step i c some_room at at_head some_job = finish (cell_of plan.sizes.capacity c) i (λ x. x) (λ j found z. IsTakeNow j m z (after_cell found)) at (omega (arith, cell-inside plan.sizes.capacity c some_room))
      (λ s keep homes me within.
      let k = keep.kept in
      let h = k.histories l in
      let o = cell_of plan.sizes.capacity c in
      let found = get_or s.words (lane_start plan l + o) 0 in
      let knows = worker_knows plan s k id r me l low in
      let all = all_sound plan s k id l in
      let is_that : taken h ≡ t.head → payload_of h t.head ≡ found = λ e. sym (ap (λ (z : ℕ). get_or s.words (lane_start plan l + cell_of plan.sizes.capacity z) 0) at_head ∙ (k.words l low).payloads t.head (omega (arith, e)) (omega (arith, some_job, knows.1, all.counts.1))) in (
        worker_view (with_take l (after_cell found t) r),
        keeps,
        tt,
        worker_next plan s k id r me l low (reads_payload found) o found (some_job, is_that) (omega (arith, cell-inside plan.sizes.capacity c some_room)) (still_words plan s k id l (by_worker r.number (reads_payload found)) o low refl refl refl refl refl (λ j. refl) (λ j. refl)),
        refl,
      ))

  pub read_dim_step : (i c : ℕ)
      → 0 < plan.sizes.capacity
      → i ≡ lane_start plan l + (cell_of plan.sizes.capacity c + 1)
      → c ≡ t.head
      → t.head < t.tail
      → Allows (Keeps plan) n id m i (λ x. x) (reads_dim_at (step n i 0 0 none) m)
  read_dim_step i c some_room at at_head some_job = finish (cell_of plan.sizes.capacity c + 1) i (λ x. x) (λ j found z. IsTakeNow j m z (after_dim_cell (found % 2 ^ 32))) at (cell-inside plan.sizes.capacity c some_room)
      (λ s keep homes me within.
      let k = keep.kept in
      let h = k.histories l in
      let o : ℕ = cell_of plan.sizes.capacity c + 1 in
      let found = get_or s.words (lane_start plan l + o) 0 in
      let knows = worker_knows plan s k id r me l low in
      let all = all_sound plan s k id l in
      let is_that : taken h ≡ t.head → dim_of h t.head ≡ found % 2 ^ 32 = λ e.
      let there : found ≡ dim_of h t.head = ap (λ (z : ℕ). get_or s.words (lane_start plan l + (cell_of plan.sizes.capacity z + 1)) 0) at_head ∙ (k.words l low).dims t.head (omega (arith, e)) (omega (arith, some_job, knows.1, all.counts.2)) in
      omega (arith, there, all.dims t.head) in (
        worker_view (with_take l (after_dim_cell (found % 2 ^ 32) t) r),
        keeps,
        tt,
        worker_next plan s k id r me l low (reads_dim (found % 2 ^ 32)) o found (some_job, is_that) (cell-inside plan.sizes.capacity c some_room) (still_words plan s k id l (by_worker r.number (reads_dim (found % 2 ^ 32))) o low refl refl refl refl refl (λ j. refl) (λ j. refl)),
        refl,
      ))

  pub take_step : (i c p d : ℕ)
      → i ≡ lane_start plan l + HEAD
      → c ≡ t.head
      → t.payload ≡ Some p
      → t.dim ≡ Some d
      → Allows (Keeps plan) n id m i (λ x. either (eqb x c) (c + 1) x)
      (takes_at (step n i c (c + 1) none) m)
  take_step i c p d at at_head payload dim = finish HEAD i (λ x. either (eqb x c) (c + 1) x) (λ j found z. TakesAt j c m found z) at (omega arith)
      (λ s keep homes me within.
      let k = keep.kept in
      let h = k.histories l in
      let i' = lane_start plan l + HEAD in
      let found = get_or s.words i' 0 in
      let is_at : found ≡ taken h = (k.words l low).head in
      let knows = worker_knows plan s k id r me l low in
      let reads_p = knows.2 p payload in
      let reads_d = knows.3 d dim in
      exchanged found c (c + 1) (λ x. (w : View) × (a : Act (Unit {0})) × Valid s.homes [] a × Keeps plan (stepped s i' x id [] w a) × TakesAt l c m found (w, carried_after [] a))
      (λ hit.
      let here : taken h ≡ t.head = omega (arith, is_at, hit, at_head) in
      let new : c + 1 ≡ taken h + 1 = omega (arith, is_at, hit) in
      let words = set s.words i' (c + 1) in (
        worker_view (with_take l (after_take p d t) r),
        keeps,
        tt,
        worker_next plan s k id r me l low (takes p d) HEAD (c + 1) (here, payload, dim, omega (arith, reads_p.0, knows.1), reads_p.1 here, reads_d.1 here) (omega arith)
            (head_set plan.sizes.capacity k.some_room h (by_worker r.number (takes p d) ∷ h) (reads plan s.words l) (reads plan words l) (k.words l low) (c + 1) (written plan s k id l HEAD (c + 1) low (omega arith)) new (omega arith) refl refl refl refl (λ j. refl) (λ j. refl)),
        (λ e. ap (λ (q : ℕ). (worker_view (with_take l (after_take q d t) r), [])) (sym (ap number_in payload)) ∙ ap (λ (q : ℕ). (worker_view (with_take l (after_take (number_in t.payload) q t) r), [])) (sym (ap number_in dim)), λ ne. absurd (ne hit)),
      ))
      (λ miss. (
        worker_view (with_take l (after_loss t) r),
        keeps,
        tt,
        worker_next plan s k id r me l low loses HEAD found (omega (arith, knows.0, is_at, at_head, miss)) (omega arith) (still_words plan s k id l (by_worker r.number loses) HEAD low refl refl refl refl refl (λ j. refl) (λ j. refl)),
        (λ e. absurd (miss e), λ ne. refl),
      )))
