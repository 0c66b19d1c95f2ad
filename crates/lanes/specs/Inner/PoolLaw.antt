-- A table of lanes is a world of threads.
use Rattle.std.proofs.Common.{◌≡◌, ◌≢◌, ℕ, zero, suc, ◌+◌, ◌-◌, ◌%◌, ◌<◌, List, [], ◌∷◌, ◌++◌, map, length, set, refl, sym, ◌∙◌, ap, subst, arith}
use Rattle.std.proofs.lemmas.List.{length-set, get_or-set_other}
use Rattle.std.specs.List.{AllByRecursion}
use mathlib.Core.Option.{some, some-injective, some-ne-none}
use lib.ListN.{get_elem?}
use Rattle.atomic_table.specs.Table.{keeps, stepped}
use Rattle.atomic_table.proofs.Lists.{set_again}
use Rattle.ghost_history.specs.Lists.{rest_of}
use Rattle.ghost_history.specs.Views.{Tied}
use Rattle.ghost_history.proofs.ViewLemmas.{steps}
use Rattle.wake_pool.specs.declared.phase.WakePhase.{WakePhase as Phase}
use Rattle.wake_pool.specs.Schedule as machine
use Rattle.wake_pool.specs.Inner.Invariant.{IsSound}
use Rattle.wake_pool.specs.Words as pool
use Rattle.wake_pool.proofs.SetLemmas.{set_here, set_else}
use Rattle.wake_calls.specs.declared.deed.WakeDeed.{WakeDeed}
use Rattle.wake_calls.specs.declared.rule.ThreadRecord.{ThreadRecord}
use Rattle.wake_calls.specs.Pool.{in_phase, IsPool, PoolLaw}
use Rattle.lanes.specs.declared.sizes.TheConstants.{CLOSED, TAIL, HEAD}
use Rattle.lanes.specs.declared.sizes.Plan.{Plan}
use Rattle.lanes.specs.declared.view.View.{View}
use Rattle.lanes.specs.declared.view.Both.{Both}
use Rattle.lanes.specs.Layout.{lane_start, all_words, cell_of}
use Rattle.lanes.specs.History.{Deed}
use Rattle.lanes.specs.Inner.Rule.{lane_at, worker_at, closer_at, LaneWords, reads, Keeps}
use Rattle.lanes.specs.Inner.Pool.{BothSt, known_in, known_state, threads_in, thread_number, both, goes, noted, thread_count, thread_at, jobs_in, KeepsBoth}

-- ---- lists of views

pub map_set : {A B : Type 0} (f : A → B) (xs : List A) (i : ℕ) (x : A) → map f (set xs i x) ≡ set (map f xs) i (f x)
map_set f [] i x = refl
map_set f (y ∷ ys) zero x = refl
map_set f (y ∷ ys) (suc i) x = ap (λ zs. f y ∷ zs) (map_set f ys i x)

pub map_get : {A B : Type 0} (f : A → B) (xs : List A) (i : ℕ) (x : A) → get_elem? xs i ≡ some x → get_elem? (map f xs) i ≡ some (f x)
map_get f [] i x e = absurd (some-ne-none x (sym e))
map_get f (y ∷ ys) zero x e = ap (λ z. some (f z)) (some-injective y x e)
map_get f (y ∷ ys) (suc i) x e = map_get f ys i x e

pub map_two : {A B : Type 0} (f : A → B) (xs ys : List A) → map f (xs ++ ys) ≡ map f xs ++ map f ys
map_two f [] ys = refl
map_two f (x ∷ xs) ys = ap (λ zs. f x ∷ zs) (map_two f xs ys)

-- the words of a lane, if another word of the table is written
words_same : (capacity : ℕ) → 0 < capacity → (h : List Deed) (read after : ℕ → ℕ) → ((o : ℕ) → after o ≡ read o) → LaneWords capacity h read → LaneWords capacity h after
words_same capacity some_room h read after same w = record {
  tail = same TAIL ∙ w.tail;
  head = same HEAD ∙ w.head;
  payloads = λ i low high. same (cell_of capacity i) ∙ w.payloads i low high;
  dims = λ i low high. same (cell_of capacity i + 1) ∙ w.dims i low high;
}

-- ---- a table of lanes is a world of threads

last : (p q : Phase) (rs : List ThreadRecord) → map (in_phase q) (map (in_phase p) rs) ≡ map (in_phase q) rs
last p q [] = refl
last p q (r ∷ rs) = ap (λ (xs : List ThreadRecord). in_phase q r ∷ xs) (last p q rs)

module _ (plan : Plan) where
  -- the thread of a seat
  pub own_thread : (s : BothSt) (k : KeepsBoth plan s) (id : ℕ) (v : Both) (r : ThreadRecord)
      → get_elem? s.views id ≡ some v
      → threads_in v ≡ r ∷ []
      → (r ≡ thread_at plan (k.phases r.number) r.number) × (r.number < thread_count plan)
  own_thread s k id v r me is =
      (subst (AllByRecursion (λ (x : ThreadRecord). (x ≡ thread_at plan (k.phases x.number) x.number) × (x.number < thread_count plan))) is (k.tied.each id v me)).0

  -- a word below the lanes is no word of a lane
  below_jobs : (ws : List ℕ) (i y : ℕ) → i < plan.base → (j : ℕ) → jobs_in plan (set ws i y) j ≡ jobs_in plan ws j
  below_jobs ws i y below j = λ x. get_or-set_other ws i (lane_start plan j + TAIL) y 0 (λ e. omega (arith, below, e)) x % CLOSED
      - get_or-set_other ws i (lane_start plan j + HEAD) y 0 (λ e. omega (arith, below, e)) x

  -- the histories of the lanes do not depend on the words below them
  below_lanes : (s : BothSt) (k : KeepsBoth plan s) (i y id : ℕ) (v w : Both) → i < plan.base → get_elem? s.views id ≡ some v → w.known ≡ v.known
      → Keeps plan (known_state (record { words = set s.words i y; homes = s.homes; views = set s.views id w }))
  below_lanes s k i y id v w below me same = let h = k.lanes.kept in record {
    kept = record {
      histories = h.histories;
      legal = h.legal;
      some_room = h.some_room;
      long = length-set s.words i y ∙ h.long;
      words = λ l low. words_same plan.sizes.capacity h.some_room (h.histories l) (reads plan s.words l) (reads plan (set s.words i y) l)
          (λ o. get_or-set_other s.words i (lane_start plan l + o) y 0 (λ e. omega (arith, below, e))) (h.words l low);
      lanes = subst (λ (vs : List View). Tied (λ (v : View). v.lanes) (λ r. r.number) plan.sizes.lanes (lane_at plan h.histories) vs) same_views h.lanes;
      workers = subst (λ (vs : List View). Tied (λ (v : View). v.workers) (λ r. r.number) plan.sizes.workers (worker_at plan h.histories) vs) same_views h.workers;
      closers = subst (λ (vs : List View). Tied (λ (v : View). v.closers) (λ r. 0) 1 (closer_at plan h.histories) vs) same_views h.closers;
    };
  }
    where
      same_views : map known_in s.views ≡ map known_in (set s.views id w)
      same_views = sym (map_set known_in s.views id w ∙ ap (set (map known_in s.views) id) same ∙ set_again (map known_in s.views) id v.known (map_get known_in s.views id v me))

  lanes_pool : (s : BothSt) → KeepsBoth plan s → IsPool threads_in goes noted (KeepsBoth plan) plan.sleepers plan.sizes.lanes s
  lanes_pool s k = record {
    jobs = jobs_in plan s.words;
    phases = k.phases;
    long = let all : length s.words ≡ all_words plan = k.lanes.kept.long in omega (arith, all, k.base_is);
    sound = k.sound;
    tied = λ id v r me is. let own = (own_thread s k id v r me is).0 in
        (sym (ap (λ (x : ThreadRecord). x.phase) own), ap (λ (x : ThreadRecord). x.workers) own, ap (λ (x : ThreadRecord). x.lanes) own);
    moves = λ id v r q i y. moves_to id v r q v.deeds i y;
    notes = λ id v r q d i y. moves_to id v r q (d ∷ v.deeds) i y;
  }
    where
      -- whatever the deeds are
      moves_to : (id : ℕ) (v : Both) (r : ThreadRecord) (q : Phase) (deeds : List WakeDeed) (i y : ℕ)
          → get_elem? s.views id ≡ some v
          → threads_in v ≡ r ∷ []
          → i < pool.base plan.sleepers
          → IsSound (pool.world_of plan.sleepers plan.sizes.lanes (set s.words i y) (jobs_in plan s.words) (machine.set k.phases r.number q))
          → KeepsBoth plan (stepped s i y id [] (both v.known (map (in_phase q) v.sleepers) (map (in_phase q) v.others) deeds) keeps)
      moves_to id v r q deeds i y me is below sound = record {
        lanes = below_lanes s k i y id v (both v.known (map (in_phase q) v.sleepers) (map (in_phase q) v.others) deeds) (omega (arith, below, k.base_is)) me refl;
        base_is = k.base_is;
        phases = machine.set k.phases r.number q;
        tied = steps threads_in thread_number s.views k.tied id v me (λ x. thread_at plan (machine.set k.phases r.number q x) x) (both v.known (map (in_phase q) v.sleepers) (map (in_phase q) v.others) deeds) r (in_phase q r) is
            (sym (map_two (in_phase q) v.sleepers v.others) ∙ ap (map (in_phase q)) is) refl mine others;
        sound = subst (λ (jobs : ℕ → ℕ). IsSound (pool.world_of plan.sleepers plan.sizes.lanes (set s.words i y) jobs (machine.set k.phases r.number q)))
            (λ x j. sym (below_jobs s.words i y (omega (arith, below, k.base_is)) j) x) sound;
      }
        where
          own : r ≡ thread_at plan (k.phases r.number) r.number
          own = (own_thread s k id v r me is).0

          mine : thread_at plan (machine.set k.phases r.number q r.number) r.number ≡ in_phase q r
          mine = ap (λ (p : Phase). thread_at plan p r.number) (set_here k.phases r.number q)
              ∙ sym (λ j. record { number = r.number; phase = q; workers = (own j).workers; lanes = (own j).lanes })

          others : (x : ℕ) → x ≢ r.number → thread_at plan (machine.set k.phases r.number q x) x ≡ thread_at plan (k.phases x) x
          others x other = ap (λ (p : Phase). thread_at plan p x) (set_else k.phases r.number q x other)

-- the threads of one, in their own phase
same_threads : (v : Both) (r : ThreadRecord) → threads_in v ≡ r ∷ [] → goes r.phase v ≡ v
same_threads v r is = turn v.sleepers v.others is
  where
    one : (xs : List ThreadRecord) → xs ≡ r ∷ [] → map (in_phase r.phase) xs ≡ xs
    one xs e = ap (map (in_phase r.phase)) e ∙ sym e

    turn : (xs ys : List ThreadRecord) → xs ++ ys ≡ r ∷ [] → both v.known (map (in_phase r.phase) xs) (map (in_phase r.phase) ys) v.deeds ≡ both v.known xs ys v.deeds
    turn [] ys e = ap (λ (zs : List ThreadRecord). both v.known [] zs v.deeds) (one ys e)
    turn (x ∷ []) ys e = let none : ys ≡ [] = ap (λ (zs : List ThreadRecord). rest_of zs) e in
        ap (λ (zs : List ThreadRecord). both v.known (map (in_phase r.phase) (x ∷ [])) (map (in_phase r.phase) zs) v.deeds) none
        ∙ ap (λ (zs : List ThreadRecord). both v.known zs [] v.deeds) (one (x ∷ []) (ap (λ (zs : List ThreadRecord). x ∷ zs) (sym none) ∙ e))
        ∙ ap (λ (zs : List ThreadRecord). both v.known (x ∷ []) zs v.deeds) (sym none)
    turn (x ∷ z ∷ xs) ys e = absurd (let long : length ((x ∷ z ∷ xs) ++ ys) ≡ 1 = ap length e in omega (arith, long))

pub pool_law : PoolLaw threads_in goes noted KeepsBoth (λ plan. plan.sleepers) (λ plan. plan.sizes.lanes)
pool_law = record {
  given = λ q v. sym (map_two (in_phase q) v.sleepers v.others);
  again = λ p q v. λ i. both v.known (last p q v.sleepers i) (last p q v.others i) v.deeds;
  same = same_threads;
  unseen = λ d v. refl;
  stays = λ d q v. refl;
  pool = lanes_pool;
}
