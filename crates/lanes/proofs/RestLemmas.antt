-- The jobs that are left are what the words of the closed table say.
use Rattle.std.proofs.Common.{◌≡◌, ◌≢◌, ℕ, zero, suc, ◌+◌, ◌-◌, ◌*◌, ◌%◌, ◌^◌, ◌<◌, ◌≤◌, cond, eq-eqb, ne_eqb, List, [], ◌∷◌, ◌++◌, length, length-append, append_assoc, suc-mul, map, get_or, sym, refl, ap, ◌∙◌, subst, arith}
use Rattle.std.proofs.lemmas.List.{append-nil, length-map, map-append}
use mathlib.Core.Logic.{dite}
use native.Mathlib.Decide.{ℕ_discrete}
use mathlib.Core.Option.{some, some-injective, some-ne-none}
use lib.ListN.{get_elem?}
use Rattle.atomic_table.specs.Table.{Seen, Final}
use Rattle.ghost_history.specs.Lists.{numbered_from}
use Rattle.ghost_history.proofs.DealLemmas.{fresh-count}
use Rattle.ghost_history.proofs.ViewLemmas.{True, all_weaker, has_everyone}
use Rattle.lanes.specs.declared.sizes.Plan.{Plan}
use Rattle.lanes.specs.declared.record.LaneJob.{LaneJob}
use Rattle.lanes.specs.declared.record.LaneRecord.{LaneRecord}
use Rattle.lanes.specs.declared.view.View.{View}
use Rattle.lanes.specs.Layout.{cell_of}
use Rattle.lanes.specs.Record.{job}
use Rattle.lanes.specs.History.{count, taken, payload_of, dim_of, job_of}
use Rattle.lanes.specs.Run.{WholeLane, WholeLanes, jobs_in, in_lanes}
use Rattle.lanes.specs.Inner.Rest.{left_job, left_in, first_left, end_left, InRange}
use Rattle.lanes.specs.Inner.Rule.{lane_at, reads, LanesKept, Keeps}
use Rattle.lanes.specs.Inner.Step.{has_closed}
use Rattle.lanes.proofs.LayoutLemmas.{further}
use Rattle.lanes.proofs.ListLemmas.{numbered-within, numbered-push}
use Rattle.lanes.proofs.HistoryLemmas.{sound}
use Rattle.lanes.proofs.NextLemmas.{St, lanes_in, lane_number, tail_shut}
use Rattle.lanes.proofs.EndLemmas.{count_here, left_of, every_worker, whole_lane}

-- ---- a list of jobs with their lanes

abbrev tagged : ℕ → List LaneJob → List (ℕ × LaneJob)
tagged l js = map (λ (j : LaneJob). (l, j)) js

length_tagged : (l : ℕ) (js : List LaneJob) → length (tagged l js) ≡ length js
length_tagged l js = length-map {B = ℕ × LaneJob} js (λ j. (l, j))

jobs_in_both : (l : ℕ) (xs ys : List (ℕ × LaneJob))
    → jobs_in l (xs ++ ys) ≡ jobs_in l xs ++ jobs_in l ys
jobs_in_both l [] ys = refl
jobs_in_both l (x ∷ xs) ys =
    let later = jobs_in_both l xs ys in
    dite (ℕ_discrete x.0 l)
    (λ e. let b = eq-eqb x.0 l e in ap (λ c. cond c (x.1 ∷ jobs_in l (xs ++ ys)) (jobs_in l (xs ++ ys))) b ∙ (ap (λ (js : List LaneJob). x.1 ∷ js) later ∙ sym (ap (λ c. cond c (x.1 ∷ jobs_in l xs) (jobs_in l xs) ++ jobs_in l ys) b)))
    (λ ne. let b = ne_eqb x.0 l ne in ap (λ c. cond c (x.1 ∷ jobs_in l (xs ++ ys)) (jobs_in l (xs ++ ys))) b ∙ (later ∙ sym (ap (λ c. cond c (x.1 ∷ jobs_in l xs) (jobs_in l xs) ++ jobs_in l ys) b)))

jobs_in_same : (l : ℕ) (js : List LaneJob) → jobs_in l (tagged l js) ≡ js
jobs_in_same l [] = refl
jobs_in_same l (j ∷ js) = ap (λ c. cond c (j ∷ jobs_in l (tagged l js)) (jobs_in l (tagged l js))) (eq-eqb l l refl) ∙ ap (λ (xs : List LaneJob). j ∷ xs) (jobs_in_same l js)

jobs_in_other : (l k : ℕ) → k ≢ l → (js : List LaneJob) → jobs_in l (tagged k js) ≡ []
jobs_in_other l k other [] = refl
jobs_in_other l k other (j ∷ js) = ap (λ c. cond c (j ∷ jobs_in l (tagged k js)) (jobs_in l (tagged k js))) (ne_eqb k l other) ∙ jobs_in_other l k other js

none_yet : (f : ℕ → List LaneJob) (n l : ℕ) → n ≤ l → jobs_in l (in_lanes f n) ≡ []
none_yet f zero l high = refl
none_yet f (suc n) l high = jobs_in_both l (in_lanes f n) (tagged n (f n)) ∙ (ap (λ (xs : List LaneJob). xs ++ jobs_in l (tagged n (f n))) (none_yet f n l (omega arith)) ∙ jobs_in_other l n (λ e. omega arith) (f n))

jobs_in_lanes : (f : ℕ → List LaneJob) (n l : ℕ) → l < n → jobs_in l (in_lanes f n) ≡ f l
jobs_in_lanes f zero l low = absurd (omega arith)
jobs_in_lanes f (suc n) l low =
    jobs_in_both l (in_lanes f n) (tagged n (f n))
    ∙ dite (ℕ_discrete n l)
    (λ e. ap (λ (xs : List LaneJob). xs ++ jobs_in l (tagged n (f n))) (none_yet f n l (omega arith)) ∙ (ap (λ (i : ℕ). jobs_in l (tagged i (f i))) e ∙ jobs_in_same l (f l)))
    (λ ne. ap (λ (xs : List LaneJob). jobs_in l (in_lanes f n) ++ xs) (jobs_in_other l n ne (f n)) ∙ (append-nil (jobs_in l (in_lanes f n)) ∙ jobs_in_lanes f n l (omega arith)))

in_lanes_same : (f g : ℕ → List LaneJob) (n : ℕ)
    → ((l : ℕ) → l < n → f l ≡ g l)
    → in_lanes f n ≡ in_lanes g n
in_lanes_same f g zero same = refl
in_lanes_same f g (suc n) same = ap (λ (xs : List (ℕ × LaneJob)). xs ++ tagged n (f n)) (in_lanes_same f g n (λ l low. same l (omega arith))) ∙ ap (λ (js : List LaneJob). in_lanes g n ++ tagged n js) (same n (omega arith))

-- there is room for all of them
pub in_lanes_long : (f : ℕ → List LaneJob) (n capacity : ℕ)
    → ((l : ℕ) → l < n → length (f l) ≤ capacity)
    → length (in_lanes f n) ≤ n * capacity
in_lanes_long f zero capacity few = omega arith
in_lanes_long f (suc n) capacity few = omega (arith, length-append (in_lanes f n) (tagged n (f n)), length_tagged n (f n), few n (omega arith), in_lanes_long f n capacity (λ l low. few l (omega arith)), suc-mul n capacity)

pub in_lanes_next : (f : ℕ → List LaneJob) (n : ℕ)
    → in_lanes f (n + 1) ≡ in_lanes f n ++ map (λ (j : LaneJob). (n, j)) (f n)
in_lanes_next f n = let e : n + 1 ≡ suc n = omega arith in ap (in_lanes f) e

-- ---- the loop over the cells of a lane

-- one job more
pub adds_job : (f : ℕ → LaneJob) (l first seq : ℕ) (old before after : List (ℕ × LaneJob))
    → first ≤ seq
    → before ≡ old ++ map (λ (j : LaneJob). (l, j)) (numbered_from f first (seq - first))
    → after ≡ before ++ (l, f seq) ∷ []
    → after ≡ old ++ map (λ (j : LaneJob). (l, j)) (numbered_from f first ((seq + 1) - first))
adds_job f l first seq old before after low was now =
    let xs = numbered_from f first (seq - first) in
    let at : first + (seq - first) ≡ seq = omega arith in
    let next : (seq - first) + 1 ≡ (seq + 1) - first = omega arith in
    let pushed : tagged l (numbered_from f first ((seq - first) + 1)) ≡ tagged l xs ++ (l, f seq) ∷ [] =
    ap (tagged l) (numbered-push f first (seq - first)) ∙ (map-append (λ (j : LaneJob). (l, j)) xs (f (first + (seq - first)) ∷ []) ∙ ap (λ (i : ℕ). tagged l xs ++ (l, f i) ∷ []) at) in
    now ∙ (ap (λ (ys : List (ℕ × LaneJob)). ys ++ (l, f seq) ∷ []) was ∙ (append_assoc old (tagged l xs) ((l, f seq) ∷ []) ∙ (ap (λ (ys : List (ℕ × LaneJob)). old ++ ys) (sym pushed) ∙ ap (λ (n : ℕ). old ++ tagged l (numbered_from f first n)) next)))

pub no_job_yet : (f : ℕ → LaneJob) (l first : ℕ) (old : List (ℕ × LaneJob))
    → old ≡ old ++ map (λ (j : LaneJob). (l, j)) (numbered_from f first (first - first))
no_job_yet f l first old = let none : 0 ≡ first - first = omega arith in sym (append-nil old) ∙ ap (λ (n : ℕ). old ++ tagged l (numbered_from f first n)) none

pub jobs_count : (f : ℕ → LaneJob) (l first seq : ℕ) (old now : List (ℕ × LaneJob))
    → now ≡ old ++ map (λ (j : LaneJob). (l, j)) (numbered_from f first (seq - first))
    → length now ≡ length old + (seq - first)
jobs_count f l first seq old now is = ap length is ∙ omega (arith, length-append old (tagged l (numbered_from f first (seq - first))), length_tagged l (numbered_from f first (seq - first)), fresh-count f first (seq - first))

pub read_word : (l : List ℕ) (i a : ℕ) → get_elem? l i ≡ some a → get_or l i 0 ≡ a
read_word [] i a e = absurd (some-ne-none a (sym e))
read_word (x ∷ xs) zero a e = some-injective x a e
read_word (x ∷ xs) (suc i) a e = read_word xs i a e

-- there is room for the jobs of one lane more
pub room_for : (plan : Plan) (ws : List ℕ) (n room : ℕ) (items : List (ℕ × LaneJob))
    → InRange plan ws
    → items ≡ in_lanes (left_in plan ws) n
    → n < plan.sizes.lanes
    → plan.sizes.lanes * plan.sizes.capacity ≤ room
    → length items + plan.sizes.capacity ≤ room
room_for plan ws n room items in_range is low enough =
    let few : (l : ℕ) → l < n → length (left_in plan ws l) ≤ plan.sizes.capacity = λ l below_n. let r = in_range l (omega arith) in omega (arith, fresh-count (left_job plan ws l) (first_left plan ws l) (end_left plan ws l - first_left plan ws l), r.2) in
    omega (arith, ap length is, in_lanes_long (left_in plan ws) n plan.sizes.capacity few, further n plan.sizes.lanes plan.sizes.capacity low, enough)

-- ---- the words of the closed table

module _ (plan : Plan) (s : St) (k : LanesKept plan s) (id : ℕ) (v : View)
    (me : get_elem? s.views id ≡ some v) (counts : List ℕ)
    (closed : v.closers ≡ has_closed plan counts ∷ []) where
  range_at : InRange plan s.words
  range_at l low =
      let h = k.histories l in
      let b = sound plan.sizes l h (k.legal l) in
      let tail = tail_shut plan s k id l low (count_here plan s k id v me counts closed l low).0 in
      let head = (k.words l low).head in
      (omega (arith, tail), omega (arith, tail, head, b.counts.0), omega (arith, tail, head, b.counts.1, b.counts.3))

  -- what is in the cells is what is left
  left_is : (l : ℕ)
      → l < plan.sizes.lanes
      → left_in plan s.words l ≡ left_of plan s k id v me counts closed l
  left_is l low =
      let h = k.histories l in
      let b = sound plan.sizes l h (k.legal l) in
      let cap = plan.sizes.capacity in
      let tail = tail_shut plan s k id l low (count_here plan s k id v me counts closed l low).0 in
      let w = k.words l low in
      let end_is : end_left plan s.words l ≡ count h = omega (arith, tail) in
      let f = left_job plan s.words l in
      let each : (i : ℕ) → taken h ≤ i → i < taken h + (count h - taken h) → f i ≡ job_of h i = λ i from to.
      let payload : reads plan s.words l (cell_of cap i) ≡ payload_of h i = w.payloads i from (omega (arith, b.counts.0, b.counts.1)) in
      let dim : reads plan s.words l (cell_of cap i + 1) ≡ dim_of h i = w.dims i from (omega (arith, b.counts.0, b.counts.2)) in
      let whole : reads plan s.words l (cell_of cap i + 1) % 2 ^ 32 ≡ dim_of h i = omega (arith, dim, b.dims i) in
      λ z. job i (payload z) (whole z) in
      ap (λ (t : ℕ). numbered_from f t (end_left plan s.words l - t)) w.head ∙ (ap (λ (n : ℕ). numbered_from f (taken h) (n - taken h)) end_is ∙ numbered-within (job_of h) f (taken h) (count h - taken h) each)

  module _ (all_lanes : length v.lanes ≡ plan.sizes.lanes)
      (all_workers : length v.workers ≡ plan.sizes.workers) where
    whole_at : (left : List (ℕ × LaneJob))
        → left ≡ in_lanes (left_in plan s.words) plan.sizes.lanes
        → WholeLanes plan.sizes v.lanes v.workers left counts
    whole_at left is =
        let f = left_in plan s.words in
        let here : (l : ℕ) → l < plan.sizes.lanes → jobs_in l left ≡ f l = λ l low. ap (jobs_in l) is ∙ jobs_in_lanes f plan.sizes.lanes l low in
        record {
          each = all_weaker (True lanes_in lane_number plan.sizes.lanes (lane_at plan k.histories)) (λ (r : LaneRecord). WholeLane plan.sizes r v.workers (jobs_in r.number left) (get_or counts r.number 0))
              (λ r true. subst (λ (js : List LaneJob). WholeLane plan.sizes r v.workers js (get_or counts r.number 0)) (sym (here r.number true.1 ∙ left_is r.number true.1)) (whole_lane plan s k id v me counts closed all_workers r true.0 true.1))
              v.lanes (k.lanes.each id v me);
          all_lanes = has_everyone lanes_in lane_number s.views k.lanes id v me all_lanes;
          all_workers = every_worker plan s k id v me counts closed all_workers;
          order = is ∙ in_lanes_same f (λ l. jobs_in l left) plan.sizes.lanes (λ l low. sym (here l low));
        }

pub range : (plan : Plan) (id : ℕ) (v : View) (counts : List ℕ) (ws : List ℕ) (xs : List (Unit {0}))
    → Final (Seen (Keeps plan) id v) ws xs
    → v.closers ≡ has_closed plan counts ∷ []
    → InRange plan ws
range plan id v counts ws xs final closed = subst (InRange plan) final.2 (range_at plan final.0 final.1.0.kept id v final.1.1 counts closed)

pub ends : (plan : Plan) (id : ℕ) (v : View) (counts : List ℕ) (ws : List ℕ) (xs : List (Unit {0}))
    → Final (Seen (Keeps plan) id v) ws xs
    → v.closers ≡ has_closed plan counts ∷ []
    → length v.lanes ≡ plan.sizes.lanes
    → length v.workers ≡ plan.sizes.workers
    → (left : List (ℕ × LaneJob))
    → left ≡ in_lanes (left_in plan ws) plan.sizes.lanes
    → WholeLanes plan.sizes v.lanes v.workers left counts
ends plan id v counts ws xs final closed all_lanes all_workers left is = whole_at plan final.0 final.1.0.kept id v final.1.1 counts closed all_lanes all_workers left (subst (λ (us : List ℕ). left ≡ in_lanes (left_in plan us) plan.sizes.lanes) (sym final.2) is)
