-- Once all producers and workers have come back, their records say what was done.
use Rattle.std.proofs.Common.{◌≡◌, ℕ, zero, suc, ◌+◌, ◌-◌, ◌<◌, ◌≤◌, true, cond, ne_eqb, Option, Some, None, List, [], ◌∷◌, ◌++◌, length, get_or, sym, refl, ap, ◌∙◌, subst, arith}
use Rattle.std.specs.List.{AllByRecursion}
use Rattle.std.proofs.lemmas.Bool.{true≢false}
use Rattle.std.proofs.lemmas.List.{length-map, get_or-map}
use mathlib.Core.Option.{some}
use lib.ListN.{get_elem?}
use Rattle.ghost_history.specs.Lists.{numbered_from}
use Rattle.ghost_history.specs.Sums.{total, below, is_at}
use Rattle.ghost_history.proofs.DealLemmas.{fresh-count}
use Rattle.ghost_history.proofs.SumLemmas.{total-below, total-append, total-push, below-grows, below-zero}
use Rattle.ghost_history.proofs.ViewLemmas.{True, all_weaker, all_append, has_everyone}
use Rattle.lanes.specs.declared.sizes.Sizes.{Sizes}
use Rattle.lanes.specs.declared.sizes.Plan.{Plan}
use Rattle.lanes.specs.declared.record.LaneJob.{LaneJob}
use Rattle.lanes.specs.declared.record.LaneRecord.{LaneRecord}
use Rattle.lanes.specs.declared.record.TakeRecord.{TakeRecord}
use Rattle.lanes.specs.declared.record.WorkerRecord.{WorkerRecord}
use Rattle.lanes.specs.declared.record.Sight.{Sight}
use Rattle.lanes.specs.declared.view.CloserRecord.{CloserRecord}
use Rattle.lanes.specs.declared.view.View.{View}
use Rattle.lanes.specs.Record.{job, sight, fresh_take, take_of, AreSeqs, Rises}
use Rattle.lanes.specs.History.{reads_count, finds_full, finds_room, puts_payload, puts_dim, accepts, finds_closed, TakeAct, reads_head, finds_none, finds_some, reads_payload, reads_dim, takes, loses, Deed, by_lane, by_worker, closes, count, taken, payload_of, dim_of, job_of, closed_at, is_shut, lane_part, take_after, take_part, IsLegal}
use Rattle.lanes.specs.Run.{WholeLane}
use Rattle.lanes.specs.Inner.Rule.{lane_at, worker_at, closer_at, LanesKept}
use Rattle.lanes.specs.Inner.Step.{has_closed}
use Rattle.lanes.proofs.ListLemmas.{numbered-within, numbered-push, numbered-cut, numbered-at}
use Rattle.lanes.proofs.HistoryLemmas.{take_own, take_other, take_cases, sound, closed_count}
use Rattle.lanes.proofs.NextLemmas.{St, workers_in, closers_in, worker_number, closer_number}

-- ---- runs of jobs

-- the function says the job with its number
abbrev Numbers : (ℕ → LaneJob) → Type 0
Numbers f = (i : ℕ) → (f i).seq ≡ i

jobs_seqs : (f : ℕ → LaneJob) → Numbers f → (first n : ℕ) → AreSeqs first (numbered_from f first n)
jobs_seqs f is first zero = tt
jobs_seqs f is first (suc n) = (is first, jobs_seqs f is (first + 1) n)

jobs_high : (f : ℕ → LaneJob)
    → Numbers f
    → (first n low : ℕ)
    → low ≤ first
    → AllByRecursion (λ (j : LaneJob). low ≤ j.seq) (numbered_from f first n)
jobs_high f is first zero low high = tt
jobs_high f is first (suc n) low high = (omega (arith, is first, high), jobs_high f is (first + 1) n low (omega arith))

jobs_rise : (f : ℕ → LaneJob) → Numbers f → (first n : ℕ) → Rises (numbered_from f first n)
jobs_rise f is first zero = tt
jobs_rise f is first (suc n) = (all_weaker (λ (j : LaneJob). first + 1 ≤ j.seq) (λ (j : LaneJob). (f first).seq < j.seq) (λ j high. omega (arith, is first, high)) (numbered_from f (first + 1) n) (jobs_high f is (first + 1) n (first + 1) (omega arith)), jobs_rise f is (first + 1) n)

rises_both : (n : ℕ) (xs ys : List LaneJob)
    → Rises xs
    → Rises ys
    → AllByRecursion (λ (j : LaneJob). j.seq < n) xs
    → AllByRecursion (λ (j : LaneJob). n ≤ j.seq) ys
    → Rises (xs ++ ys)
rises_both n [] ys left right low high = right
rises_both n (x ∷ xs) ys left right low high = (
  all_append (λ (j : LaneJob). x.seq < j.seq) xs ys left.0 (all_weaker (λ (j : LaneJob). n ≤ j.seq) (λ (j : LaneJob). x.seq < j.seq) (λ j h. omega (arith, low.0)) ys high),
  rises_both n xs ys left.1 right low.1 high,
)

-- a payload or a dimension that is put later is not that of an earlier job
same_job : (p q d e : ℕ) (i : ℕ) → p ≡ q → d ≡ e → job i p d ≡ job i q e
same_job p q d e i payload dim = λ k. job i (payload k) (dim k)

put_payload_before : (p : ℕ) (h : List Deed) (i : ℕ)
    → i < count h
    → job_of (by_lane (puts_payload p) ∷ h) i ≡ job_of h i
put_payload_before p h i low = ap (λ (q : ℕ). job i q (dim_of h i)) (ap (λ c. cond c p (payload_of h i)) (ne_eqb i (count h) (λ e. omega arith)))

put_dim_before : (d : ℕ) (h : List Deed) (i : ℕ)
    → i < count h
    → job_of (by_lane (puts_dim d) ∷ h) i ≡ job_of h i
put_dim_before d h i low = ap (job i (payload_of h i)) (ap (λ c. cond c d (dim_of h i)) (ne_eqb i (count h) (λ e. omega arith)))

module _ (sizes : Sizes) (number : ℕ) where
  -- ---- what the lane accepted

  accepted_is : (h : List Deed)
      → IsLegal sizes number h
      → (lane_part sizes.capacity number h).accepted ≡ numbered_from (job_of h) 0 (count h)
  accepted_is [] legal = refl
  accepted_is (by_lane (reads_count n) ∷ h) legal = accepted_is h legal.1
  accepted_is (by_lane (finds_full n) ∷ h) legal = accepted_is h legal.1
  accepted_is (by_lane (finds_room n) ∷ h) legal = accepted_is h legal.1
  accepted_is (by_lane (puts_payload p) ∷ h) legal = accepted_is h legal.1 ∙ sym (numbered-within (job_of h) (job_of (by_lane (puts_payload p) ∷ h)) 0 (count h) (λ i low high. put_payload_before p h i (omega arith)))
  accepted_is (by_lane (puts_dim d) ∷ h) legal = accepted_is h legal.1 ∙ sym (numbered-within (job_of h) (job_of (by_lane (puts_dim d) ∷ h)) 0 (count h) (λ i low high. put_dim_before d h i (omega arith)))
  accepted_is (by_lane (accepts p d) ∷ h) legal =
      let b = sound sizes number h legal.1 in
      let r = lane_part sizes.capacity number h in
      let at : length r.accepted ≡ 0 + count h = omega (arith, b.lane.2) in
      let here : 0 + count h ≡ count h = omega arith in
      let pays : p ≡ payload_of h (0 + count h) = sym (ap (payload_of h) here ∙ (b.lane.4 p legal.0.0).1) in
      let asks : d ≡ dim_of h (0 + count h) = sym (ap (dim_of h) here ∙ (b.lane.5 d legal.0.1).1) in
      ap (λ (js : List LaneJob). js ++ job (length r.accepted) p d ∷ []) (accepted_is h legal.1)
      ∙ (ap (λ (i : ℕ). numbered_from (job_of h) 0 (count h) ++ job i p d ∷ []) at ∙ (ap (λ (j : LaneJob). numbered_from (job_of h) 0 (count h) ++ j ∷ []) (same_job p (payload_of h (0 + count h)) d (dim_of h (0 + count h)) (0 + count h) pays asks) ∙ sym (numbered-push (job_of h) 0 (count h))))
  accepted_is (by_lane (finds_closed n) ∷ h) legal = accepted_is h legal.1
  accepted_is (by_worker k a ∷ h) legal = accepted_is h legal.1
  accepted_is (closes n ∷ h) legal = accepted_is h legal.1

  -- ---- what the workers took

  abbrev took : (LaneJob → ℕ) → List Deed → ℕ → ℕ
  took weight h k = total weight (take_part h k).taken

  same_taken : (weight : LaneJob → ℕ) (j : ℕ) (a : TakeAct) (h : List Deed)
      → j < sizes.workers
      → (take_after a (take_part h j)).taken ≡ (take_part h j).taken
      → below (took weight (by_worker j a ∷ h)) sizes.workers ≡ below (took weight h) sizes.workers
  same_taken weight j a h within same =
      omega (arith, below-grows (took weight h) (took weight (by_worker j a ∷ h)) sizes.workers j 0 within (ap (λ (r : TakeRecord). total weight r.taken) (take_own a h j) ∙ (ap (total weight) same ∙ omega arith)) (λ i ne. ap (λ (r : TakeRecord). total weight r.taken) (take_other j a h i ne)))

  -- the jobs that were taken are those with the numbers below their count, each once
  taken_sum : (weight : LaneJob → ℕ) (h : List Deed)
      → IsLegal sizes number h
      → below (took weight h) sizes.workers ≡ total weight (numbered_from (job_of h) 0 (taken h))
  taken_sum weight [] legal = below-zero sizes.workers
  taken_sum weight (by_lane (reads_count n) ∷ h) legal = taken_sum weight h legal.1
  taken_sum weight (by_lane (finds_full n) ∷ h) legal = taken_sum weight h legal.1
  taken_sum weight (by_lane (finds_room n) ∷ h) legal = taken_sum weight h legal.1
  taken_sum weight (by_lane (puts_payload p) ∷ h) legal =
      let b = sound sizes number h legal.1 in
      taken_sum weight h legal.1 ∙ ap (total weight) (sym (numbered-within (job_of h) (job_of (by_lane (puts_payload p) ∷ h)) 0 (taken h) (λ i low high. put_payload_before p h i (omega (arith, b.counts.0, high)))))
  taken_sum weight (by_lane (puts_dim d) ∷ h) legal =
      let b = sound sizes number h legal.1 in
      taken_sum weight h legal.1 ∙ ap (total weight) (sym (numbered-within (job_of h) (job_of (by_lane (puts_dim d) ∷ h)) 0 (taken h) (λ i low high. put_dim_before d h i (omega (arith, b.counts.0, high)))))
  taken_sum weight (by_lane (accepts p d) ∷ h) legal = taken_sum weight h legal.1
  taken_sum weight (by_lane (finds_closed n) ∷ h) legal = taken_sum weight h legal.1
  taken_sum weight (by_worker j (reads_head n) ∷ h) legal = same_taken weight j (reads_head n) h legal.0.0 refl ∙ taken_sum weight h legal.1
  taken_sum weight (by_worker j (finds_none n closed) ∷ h) legal = same_taken weight j (finds_none n closed) h legal.0.0 refl ∙ taken_sum weight h legal.1
  taken_sum weight (by_worker j (finds_some n) ∷ h) legal = same_taken weight j (finds_some n) h legal.0.0 refl ∙ taken_sum weight h legal.1
  taken_sum weight (by_worker j (reads_payload p) ∷ h) legal = same_taken weight j (reads_payload p) h legal.0.0 refl ∙ taken_sum weight h legal.1
  taken_sum weight (by_worker j (reads_dim d) ∷ h) legal = same_taken weight j (reads_dim d) h legal.0.0 refl ∙ taken_sum weight h legal.1
  taken_sum weight (by_worker j (takes p d) ∷ h) legal =
      let f = job_of h in
      let r = take_part h j in
      let may = legal.0.1 in
      let at : 0 + taken h ≡ r.head = omega (arith, may.0) in
      let one_job : f (0 + taken h) ≡ job r.head p d = ap f at ∙ same_job (payload_of h r.head) p (dim_of h r.head) d r.head may.4 may.5 in
      let more = total-push weight r.taken (job r.head p d) in
      let grown = below-grows (took weight h) (took weight (by_worker j (takes p d) ∷ h)) sizes.workers j (weight (job r.head p d)) legal.0.0 (ap (λ (z : TakeRecord). total weight z.taken) (take_own (takes p d) h j) ∙ more) (λ i ne. ap (λ (z : TakeRecord). total weight z.taken) (take_other j (takes p d) h i ne)) in
      let pushed : total weight (numbered_from f 0 (taken h + 1)) ≡ total weight (numbered_from f 0 (taken h)) + weight (job r.head p d) = ap (total weight) (numbered-push f 0 (taken h)) ∙ (total-push weight (numbered_from f 0 (taken h)) (f (0 + taken h)) ∙ ap (λ (q : LaneJob). total weight (numbered_from f 0 (taken h)) + weight q) one_job) in
      omega (arith, grown, taken_sum weight h legal.1, pushed)
  taken_sum weight (by_worker j loses ∷ h) legal = same_taken weight j loses h legal.0.0 refl ∙ taken_sum weight h legal.1
  taken_sum weight (closes n ∷ h) legal = taken_sum weight h legal.1

  -- a worker's jobs are in the lane's order, and below what is not taken
  abbrev Risen : ℕ → TakeRecord → Type 0
  Risen n r = Rises r.taken × AllByRecursion (λ (j : LaneJob). j.seq < n) r.taken

  higher : (m n : ℕ) (r : TakeRecord) → m ≤ n → Risen m r → Risen n r
  higher m n r more risen = (risen.0, all_weaker (λ (j : LaneJob). j.seq < m) (λ (j : LaneJob). j.seq < n) (λ j low. omega arith) r.taken risen.1)

  risen : (h : List Deed) (k : ℕ) → IsLegal sizes number h → Risen (taken h) (take_part h k)
  risen [] k legal = (tt, tt)
  risen (by_lane a ∷ h) k legal = risen h k legal.1
  risen (by_worker j (reads_head n) ∷ h) k legal = take_cases (Risen (taken h)) j (reads_head n) h k legal.0.1 (risen h k legal.1) (λ may. risen h k legal.1)
  risen (by_worker j (finds_none n closed) ∷ h) k legal = take_cases (Risen (taken h)) j (finds_none n closed) h k legal.0.1 (risen h k legal.1) (λ may. risen h k legal.1)
  risen (by_worker j (finds_some n) ∷ h) k legal = take_cases (Risen (taken h)) j (finds_some n) h k legal.0.1 (risen h k legal.1) (λ may. risen h k legal.1)
  risen (by_worker j (reads_payload p) ∷ h) k legal = take_cases (Risen (taken h)) j (reads_payload p) h k legal.0.1 (risen h k legal.1) (λ may. risen h k legal.1)
  risen (by_worker j (reads_dim d) ∷ h) k legal = take_cases (Risen (taken h)) j (reads_dim d) h k legal.0.1 (risen h k legal.1) (λ may. risen h k legal.1)
  risen (by_worker j (takes p d) ∷ h) k legal =
      let before = risen h k legal.1 in
      take_cases (Risen (taken h + 1)) j (takes p d) h k legal.0.1 (higher (taken h) (taken h + 1) (take_part h k) (omega arith) before)
      (λ may.
      let r = take_part h k in
      let one = job r.head p d ∷ [] in (
        rises_both (taken h) r.taken one before.0 (tt, tt) before.1 (omega (arith, may.0), tt),
        all_append (λ (x : LaneJob). x.seq < taken h + 1) r.taken one (higher (taken h) (taken h + 1) r (omega arith) before).1 (omega (arith, may.0), tt),
      ))
  risen (by_worker j loses ∷ h) k legal = take_cases (Risen (taken h)) j loses h k legal.0.1 (risen h k legal.1) (λ may. risen h k legal.1)
  risen (closes n ∷ h) k legal = risen h k legal.1

  -- ---- what was found beside the closed mark

  -- a sight beside the mark has the close number, and all jobs taken
  abbrev Fits : List Deed → Sight → Type 0
  Fits h x = x.closed ≡ true → (is_shut h ≡ true) × (x.count ≡ count h) × (count h ≤ taken h)

  abbrev Seen_by : List Deed → TakeRecord → Type 0
  Seen_by h r = AllByRecursion (Fits h) r.empties

  -- a count that the producer found beside the mark is the close number
  abbrev Refuses : List Deed → ℕ → Type 0
  Refuses h n = (is_shut h ≡ true) × (n ≡ count h)

  sights : (h : List Deed) (k : ℕ) → IsLegal sizes number h → Seen_by h (take_part h k)
  sights [] k legal = tt
  sights (by_lane (reads_count n) ∷ h) k legal = sights h k legal.1
  sights (by_lane (finds_full n) ∷ h) k legal = sights h k legal.1
  sights (by_lane (finds_room n) ∷ h) k legal = sights h k legal.1
  sights (by_lane (puts_payload p) ∷ h) k legal = sights h k legal.1
  sights (by_lane (puts_dim d) ∷ h) k legal = sights h k legal.1
  sights (by_lane (accepts p d) ∷ h) k legal = all_weaker (Fits h) (Fits (by_lane (accepts p d) ∷ h)) (λ x fits mark. absurd (true≢false (sym (fits mark).0 ∙ legal.0.2))) (take_part h k).empties (sights h k legal.1)
  sights (by_lane (finds_closed n) ∷ h) k legal = sights h k legal.1
  sights (by_worker j (reads_head n) ∷ h) k legal = take_cases (Seen_by h) j (reads_head n) h k legal.0.1 (sights h k legal.1) (λ may. sights h k legal.1)
  sights (by_worker j (finds_none n closed) ∷ h) k legal =
      take_cases (Seen_by h) j (finds_none n closed) h k legal.0.1 (sights h k legal.1)
      (λ may. all_append (Fits h) (take_part h k).empties (sight n closed ∷ []) (sights h k legal.1) ((λ mark. (sym may.2 ∙ mark, may.0, omega (arith, may.0, may.1))), tt))
  sights (by_worker j (finds_some n) ∷ h) k legal = take_cases (Seen_by h) j (finds_some n) h k legal.0.1 (sights h k legal.1) (λ may. sights h k legal.1)
  sights (by_worker j (reads_payload p) ∷ h) k legal = take_cases (Seen_by h) j (reads_payload p) h k legal.0.1 (sights h k legal.1) (λ may. sights h k legal.1)
  sights (by_worker j (reads_dim d) ∷ h) k legal = take_cases (Seen_by h) j (reads_dim d) h k legal.0.1 (sights h k legal.1) (λ may. sights h k legal.1)
  sights (by_worker j (takes p d) ∷ h) k legal =
      let after = by_worker j (takes p d) ∷ h in
      let before = all_weaker (Fits h) (Fits after) (λ x fits mark. let t = fits mark in (t.0, t.1, omega (arith, t.2))) (take_part h k).empties (sights h k legal.1) in
      take_cases (Seen_by after) j (takes p d) h k legal.0.1 before (λ may. before)
  sights (by_worker j loses ∷ h) k legal = take_cases (Seen_by h) j loses h k legal.0.1 (sights h k legal.1) (λ may. sights h k legal.1)
  sights (closes n ∷ h) k legal = all_weaker (Fits h) (Fits (closes n ∷ h)) (λ x fits mark. let t = fits mark in (refl, t.1, t.2)) (take_part h k).empties (sights h k legal.1)

  refusals : (h : List Deed)
      → IsLegal sizes number h
      → AllByRecursion (Refuses h) (lane_part sizes.capacity number h).refused
  refusals [] legal = tt
  refusals (by_lane (reads_count n) ∷ h) legal = refusals h legal.1
  refusals (by_lane (finds_full n) ∷ h) legal = refusals h legal.1
  refusals (by_lane (finds_room n) ∷ h) legal = refusals h legal.1
  refusals (by_lane (puts_payload p) ∷ h) legal = refusals h legal.1
  refusals (by_lane (puts_dim d) ∷ h) legal = refusals h legal.1
  refusals (by_lane (accepts p d) ∷ h) legal = all_weaker (Refuses h) (Refuses (by_lane (accepts p d) ∷ h)) (λ n fits. absurd (true≢false (sym fits.0 ∙ legal.0.2))) (lane_part sizes.capacity number h).refused (refusals h legal.1)
  refusals (by_lane (finds_closed n) ∷ h) legal = all_append (Refuses h) (lane_part sizes.capacity number h).refused (n ∷ []) (refusals h legal.1) ((legal.0.1, legal.0.0), tt)
  refusals (by_worker k a ∷ h) legal = refusals h legal.1
  refusals (closes n ∷ h) legal = all_weaker (Refuses h) (Refuses (closes n ∷ h)) (λ n fits. (refl, fits.1)) (lane_part sizes.capacity number h).refused (refusals h legal.1)

nothing : (xs : List LaneJob) → length xs ≡ 0 → xs ≡ []
nothing [] none = refl
nothing (x ∷ xs) none = absurd (omega arith)

some_same : (m n : ℕ) → Some m ≡ Some n → m ≡ n
some_same m n e = cc

-- ---- the end

module _ (plan : Plan) (s : St) (k : LanesKept plan s) (id : ℕ) (v : View)
    (me : get_elem? s.views id ≡ some v) (counts : List ℕ)
    (closed : v.closers ≡ has_closed plan counts ∷ []) where
  closer_is : has_closed plan counts ≡ closer_at plan k.histories 0
  closer_is =
      let all : AllByRecursion (True closers_in closer_number 1 (closer_at plan k.histories)) (has_closed plan counts ∷ []) = subst (AllByRecursion (True closers_in closer_number 1 (closer_at plan k.histories))) closed (k.closers.each id v me) in
      all.0.0

  long : length counts ≡ plan.sizes.lanes
  long = sym (length-map {B = Option ℕ} counts Some) ∙ (ap (λ (c : CloserRecord). length c.closed) closer_is ∙ fresh-count (λ l. closed_at (k.histories l)) 0 plan.sizes.lanes)

  closed_here : (l : ℕ)
      → l < plan.sizes.lanes
      → closed_at (k.histories l) ≡ Some (get_or counts l 0)
  closed_here l low =
      let inside : l < length counts = omega (arith, low, long) in
      sym (numbered-at (λ j. closed_at (k.histories j)) plan.sizes.lanes l None low) ∙ (ap (λ (c : CloserRecord). get_or c.closed l None) (sym closer_is) ∙ get_or-map {Y = Option ℕ} Some counts l 0 None inside)

  pub count_here : (l : ℕ)
      → l < plan.sizes.lanes
      → (is_shut (k.histories l) ≡ true) × (count (k.histories l) ≡ get_or counts l 0)
  count_here l low = closed_count plan.sizes l (k.histories l) (get_or counts l 0) (k.legal l) (closed_here l low)

  -- the jobs of a lane that are left
  abbrev pub left_of : ℕ → List LaneJob
  left_of l = numbered_from (job_of (k.histories l)) (taken (k.histories l)) (count (k.histories l) - taken (k.histories l))

  take_is : (l : ℕ)
      → l < plan.sizes.lanes
      → (w : WorkerRecord)
      → w ≡ worker_at plan k.histories w.number
      → take_of l w ≡ take_part (k.histories l) w.number
  take_is l low w is = ap (take_of l) is ∙ numbered-at (λ j. take_part (k.histories j) w.number) plan.sizes.lanes l fresh_take low

  each_worker : (l : ℕ)
      → l < plan.sizes.lanes
      → (P : TakeRecord → Type 0)
      → ((t : ℕ) → P (take_part (k.histories l) t))
      → AllByRecursion (λ (w : WorkerRecord). P (take_of l w)) v.workers
  each_worker l low P holds = all_weaker (True workers_in worker_number plan.sizes.workers (worker_at plan k.histories)) (λ (w : WorkerRecord). P (take_of l w)) (λ w true. subst P (sym (take_is l low w true.0)) (holds w.number)) v.workers (k.workers.each id v me)

  module _ (all_workers : length v.workers ≡ plan.sizes.workers) where
    pub every_worker : (j : ℕ)
        → j < plan.sizes.workers
        → total (λ (w : WorkerRecord). is_at j w.number) v.workers ≡ 1
    every_worker = has_everyone workers_in worker_number s.views k.workers id v me all_workers

    sum_workers : (l : ℕ)
        → l < plan.sizes.lanes
        → (f : TakeRecord → ℕ)
        → total (λ (w : WorkerRecord). f (take_of l w)) v.workers
        ≡ below (λ t. f (take_part (k.histories l) t)) plan.sizes.workers
    sum_workers l low f = total-below worker_number plan.sizes.workers (λ t. f (take_part (k.histories l) t)) (λ (w : WorkerRecord). f (take_of l w)) v.workers
        (all_weaker (True workers_in worker_number plan.sizes.workers (worker_at plan k.histories)) (λ w. (f (take_of l w) ≡ f (take_part (k.histories l) w.number)) × (w.number < plan.sizes.workers)) (λ w true. (ap f (take_is l low w true.0), true.1)) v.workers (k.workers.each id v me))
        every_worker

    module _ (lane : LaneRecord) (lane_is : lane ≡ lane_at plan k.histories lane.number)
        (low : lane.number < plan.sizes.lanes) where
      abbrev l : ℕ
      l = lane.number

      abbrev h : List Deed
      h = k.histories l

      abbrev note : ℕ
      note = get_or counts l 0

      balance : (weight : LaneJob → ℕ)
          → total weight lane.accepted
          ≡ total (λ (w : WorkerRecord). total weight (take_of l w).taken) v.workers + total weight (left_of l)
      balance weight =
          let f = job_of h in
          let b = sound plan.sizes l h (k.legal l) in
          let all_of : count h ≡ taken h + (count h - taken h) = omega (arith, b.counts.0) in
          let none : 0 + taken h ≡ taken h = omega arith in
          let whole : lane.accepted ≡ numbered_from f 0 (taken h) ++ left_of l =
          ap (λ (r : LaneRecord). r.accepted) lane_is ∙ (accepted_is plan.sizes l h (k.legal l) ∙ (ap (numbered_from f 0) all_of ∙ (numbered-cut f 0 (taken h) (count h - taken h) ∙ ap (λ (i : ℕ). numbered_from f 0 (taken h) ++ numbered_from f i (count h - taken h)) none))) in
          let sum : total weight lane.accepted ≡ total weight (numbered_from f 0 (taken h)) + total weight (left_of l) = ap (total weight) whole ∙ total-append weight (numbered_from f 0 (taken h)) (left_of l) in
          omega (arith, sum, taken_sum plan.sizes l weight h (k.legal l), sum_workers l low (λ (t : TakeRecord). total weight t.taken))

      pub whole_lane : WholeLane plan.sizes lane v.workers (left_of l) note
      whole_lane =
          let f = job_of h in
          let is : Numbers f = λ i. refl in
          let b = sound plan.sizes l h (k.legal l) in
          let here = count_here l low in
          let first = taken h in
          let few = count h - first in
          let left_long : length (left_of l) ≡ few = fresh-count f first few in
          record {
            counted = omega (arith, here.1, b.lane.2, ap (λ (r : LaneRecord). length r.accepted) lane_is);
            seqs = subst (AreSeqs 0) (sym (ap (λ (r : LaneRecord). r.accepted) lane_is ∙ accepted_is plan.sizes l h (k.legal l))) (jobs_seqs f is 0 (count h));
            balance = balance;
            rises = each_worker l low (λ (t : TakeRecord). Rises (t.taken ++ left_of l))
                (λ t. let r = risen plan.sizes l h t (k.legal l) in rises_both first (take_part h t).taken (left_of l) r.0 (jobs_rise f is first few) r.1 (jobs_high f is first few first (omega arith)));
            left_last = let at : first ≡ note - length (left_of l) = omega (arith, left_long, here.1, b.counts.0) in subst (λ (i : ℕ). AreSeqs i (left_of l)) at (jobs_seqs f is first few);
            ended = each_worker l low (λ (t : TakeRecord). AllByRecursion (λ (x : Sight). x.closed ≡ true → (x.count ≡ note) × (left_of l ≡ [])) t.empties)
                (λ t. all_weaker (Fits plan.sizes l h) (λ (x : Sight). x.closed ≡ true → (x.count ≡ note) × (left_of l ≡ [])) (λ x fits mark. let q = fits mark in (omega (arith, q.1, here.1), nothing (left_of l) (omega (arith, left_long, q.2)))) (take_part h t).empties (sights plan.sizes l h t (k.legal l)));
            refused = subst (λ (r : LaneRecord). AllByRecursion (λ n. n ≡ note) r.refused) (sym lane_is) (all_weaker (Refuses plan.sizes l h) (λ n. n ≡ note) (λ n fits. omega (arith, fits.1, here.1)) (lane_part plan.sizes.capacity l h).refused (refusals plan.sizes l h (k.legal l)));
            history = h;
            legal = k.legal l;
            lane_is = lane_is;
            each_worker = all_weaker (True workers_in worker_number plan.sizes.workers (worker_at plan k.histories)) (λ (w : WorkerRecord). take_of l w ≡ take_part h w.number) (λ w true. take_is l low w true.0) v.workers (k.workers.each id v me);
            closed = closed_here l low;
            taken_is = omega (arith, left_long, b.counts.0);
          }
