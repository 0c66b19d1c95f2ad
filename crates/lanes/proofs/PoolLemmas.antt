-- The steps of the lanes keep the rule of threads that sleep and wake too.
use Rattle.std.proofs.Common.{◌≡◌, ◌≢◌, ℕ, zero, suc, ◌+◌, ◌-◌, ◌%◌, ◌^◌, ◌<◌, ◌≤◌, ◌⊎◌, inl, inr, Bool, true, false, cond, eqb, ltb, replicate, List, [], ◌∷◌, ◌++◌, map, length, get_or, set, refl, sym, ◌∙◌, ap, subst, arith}
use Rattle.std.proofs.lemmas.Bool.{cases_eq}
use Rattle.std.proofs.lemmas.List.{get_or-set_same, get_or-set_other, set-get_or}
use Rattle.std.specs.List.{AllByRecursion}
use mathlib.Core.Option.{some}
use lib.ListN.{get_elem?}
use Rattle.atomic_table.specs.Table.{Act, Valid, Allows, Splits, Joins, stepped, carried_after, opening, Seen, Final}
use Rattle.ghost_history.specs.Lists.{first_of, rest_of, numbered_from}
use Rattle.ghost_history.specs.Sums.{total, is_at}
use Rattle.ghost_history.proofs.SumLemmas.{total-append}
use Rattle.ghost_history.proofs.ViewLemmas.{True, steps, stays, splits, joins, all_append}
use Rattle.ghost_history.proofs.DealLemmas.{cut-all, cut-total, first-tied}
use Rattle.wake_pool.specs.declared.phase.WakePhase.{WakePhase as Phase}
use Rattle.wake_pool.specs.declared.phase.WakePhase.TheVariants.{Idle, Searching, Found}
use Rattle.wake_pool.specs.Schedule as machine
use Rattle.wake_pool.specs.Schedule.{waking}
use Rattle.wake_pool.specs.Inner.Invariant.{IsSound}
use Rattle.wake_pool.specs.Words as pool
use Rattle.wake_pool.proofs.SetLemmas.{set_here, set_else, set_same}
use Rattle.wake_pool.proofs.ServedLemmas.{initial_sound, put_sound, put_again_sound, take_sound, find_sound}
use Rattle.wake_pool.proofs.WordLemmas.{lane_kept}
use Rattle.wake_pool.proofs.WorldLemmas.{in_words, same_world}
use Rattle.wake_pool.specs.declared.layout.TheConstants.{WORD_WORKERS}
use Rattle.std.specs.Int.{bit_at}
use Rattle.std.proofs.lemmas.Nat.Bits.{bit_at-zero}
use Rattle.wake_calls.specs.declared.rule.ThreadRecord.{ThreadRecord}
use Rattle.wake_calls.specs.Pool.{in_phase}
use Rattle.lanes.specs.declared.sizes.TheConstants.{CLOSED, TAIL, HEAD}
use Rattle.lanes.specs.declared.sizes.Plan.{Plan}
use Rattle.lanes.specs.declared.view.View.{View}
use Rattle.lanes.specs.declared.view.Both.{Both}
use Rattle.lanes.specs.Layout.{lane_words, lane_start, all_words}
use Rattle.lanes.specs.Inner.View.{first_view, without_lane, lane_alone, without_worker, worker_alone, joined, spent_view}
use Rattle.lanes.specs.Inner.Rule.{reads, Keeps}
use Rattle.lanes.specs.Inner.Step.{Sat}
use Rattle.lanes.specs.Inner.Pool.{BothSat, BothSt, known_in, known_sat, known_state, threads_in, thread_number, both, goes, thread_count, thread_at, jobs_in, KeepsBoth, first_both, without_lane_both, lane_alone_both, without_worker_both, worker_alone_both, joined_both, spent_both, MayPut}
use Rattle.lanes.specs.Inner.PoolLaw.{map_set, map_get, map_two, own_thread}
use Rattle.lanes.proofs.LayoutLemmas.{lane-inside, lanes-apart}

-- ---- lists of views

map_push : {A B : Type 0} (f : A → B) (xs : List A) (x : A) → map f (xs ++ x ∷ []) ≡ map f xs ++ f x ∷ []
map_push f [] x = refl
map_push f (y ∷ ys) x = ap (λ zs. f y ∷ zs) (map_push f ys x)

no_more : {A : Type 0} (xs : List A) → xs ++ [] ≡ xs
no_more [] = refl
no_more (x ∷ xs) = ap (λ zs. x ∷ zs) (no_more xs)

zero_word : (n j : ℕ) → ◌≡◌ {A = ℕ} (get_or (replicate n 0) j 0) 0
zero_word zero j = refl
zero_word (suc n) zero = refl
zero_word (suc n) (suc j) = zero_word n j

none_set : (b : Bool) → cond b false false ≡ false
none_set true = refl
none_set false = refl

module _ (plan : Plan) where
  -- A step of the lanes, in which the seat's thread stays in its phase or goes on to another. What
  -- the step says of the threads is `late`.
  module _ (n id : ℕ) (m : BothSat) (i : ℕ) (f : ℕ → ℕ)
      (told : ℕ → Sat → Type 0) (late : ℕ → Both → Type 0) where
    abbrev pub Outcome : (s : BothSt) → KeepsBoth plan s → Type 0
    Outcome s k =
        (IsSound (pool.world_of plan.sleepers plan.sizes.lanes (set s.words i (f (get_or s.words i 0))) (jobs_in plan (set s.words i (f (get_or s.words i 0)))) k.phases)
        × ((known : View) → late (get_or s.words i 0) (both known m.0.sleepers m.0.others m.0.deeds)))
        ⊎ ((r : ThreadRecord) × (q : Phase) × (threads_in m.0 ≡ r ∷ [])
        × IsSound (pool.world_of plan.sleepers plan.sizes.lanes (set s.words i (f (get_or s.words i 0))) (jobs_in plan (set s.words i (f (get_or s.words i 0)))) (machine.set k.phases r.number q))
        × ((known : View) → late (get_or s.words i 0) (goes q (both known m.0.sleepers m.0.others m.0.deeds))))

    pub lift_to : Allows (Keeps plan) n id (known_sat m) i f told
        → ((s : BothSt) (k : KeepsBoth plan s) → get_elem? s.views id ≡ some m.0 → Outcome s k)
        → Allows (KeepsBoth plan) n id m i f (λ found now. told found (known_sat now) × late found now.0)
    lift_to allowed decide s k homes me small =
        let step = allowed (known_state s) k.lanes homes (map_get known_in s.views id m.0 me) small in
        turn step.0 step.1 step.2 step.3 step.4 (decide s k me)
      where
        y : ℕ
        y = f (get_or s.words i 0)

        -- the lanes' part, with any threads
        part : (w : View) (a : Act (Unit {0})) (v : Both) → v.known ≡ w
            → Keeps plan (stepped (known_state s) i y id m.1 w a)
            → Keeps plan (known_state (stepped s i y id m.1 v a))
        part w a v is holds = subst (λ (vs : List View). Keeps plan (record { words = set s.words i y; homes = (stepped s i y id m.1 v a).homes; views = vs }))
            (ap (set (map known_in s.views) id) (sym is) ∙ sym (map_set known_in s.views id v)) holds

        turn : (w : View) (a : Act (Unit {0})) → Valid s.homes m.1 a → Keeps plan (stepped (known_state s) i (f (get_or s.words i 0)) id m.1 w a) → told (get_or s.words i 0) (w, carried_after m.1 a) → Outcome s k
            → (v : Both) × (a : Act (Unit {0})) × Valid s.homes m.1 a × KeepsBoth plan (stepped s i (f (get_or s.words i 0)) id m.1 v a) × (told (get_or s.words i 0) (v.known, carried_after m.1 a) × late (get_or s.words i 0) v)
        turn w a valid holds said (inl (sound, lately)) = (
          both w m.0.sleepers m.0.others m.0.deeds,
          a,
          valid,
          record {
            lanes = part w a (both w m.0.sleepers m.0.others m.0.deeds) refl holds;
            base_is = k.base_is;
            phases = k.phases;
            tied = stays threads_in thread_number s.views k.tied id m.0 me (λ x. thread_at plan (k.phases x) x) (both w m.0.sleepers m.0.others m.0.deeds) refl (λ _. refl);
            sound = sound;
          },
          (said, lately w),
        )
        turn w a valid holds said (inr (r, q, is, sound, lately)) = (
          goes q (both w m.0.sleepers m.0.others m.0.deeds),
          a,
          valid,
          record {
            lanes = part w a (goes q (both w m.0.sleepers m.0.others m.0.deeds)) refl holds;
            base_is = k.base_is;
            phases = machine.set k.phases r.number q;
            tied = steps threads_in thread_number s.views k.tied id m.0 me (λ x. thread_at plan (machine.set k.phases r.number q x) x) (goes q (both w m.0.sleepers m.0.others m.0.deeds)) r (in_phase q r) is
                (sym (map_two (in_phase q) m.0.sleepers m.0.others) ∙ ap (map (in_phase q)) is) refl mine others;
            sound = sound;
          },
          (said, lately w),
        )
          where
            own : r ≡ thread_at plan (k.phases r.number) r.number
            own = (own_thread plan s k id m.0 r me is).0

            mine : thread_at plan (machine.set k.phases r.number q r.number) r.number ≡ in_phase q r
            mine = ap (λ (p : Phase). thread_at plan p r.number) (set_here k.phases r.number q)
                ∙ sym (λ j. record { number = r.number; phase = q; workers = (own j).workers; lanes = (own j).lanes })

            others : (x : ℕ) → x ≢ r.number → thread_at plan (machine.set k.phases r.number q x) x ≡ thread_at plan (k.phases x) x
            others x other = ap (λ (p : Phase). thread_at plan p x) (set_else k.phases r.number q x other)

  -- ---- the jobs in the lanes

  -- a word that is no count
  pub cell_jobs : (ws : List ℕ) (l o y : ℕ) → o < lane_words plan.sizes.capacity → o ≢ TAIL → o ≢ HEAD
      → (j : ℕ) → jobs_in plan (set ws (lane_start plan l + o) y) j ≡ jobs_in plan ws j
  cell_jobs ws l o y within no_tail no_head j = elim (cases_eq j l) [
    | inl at ↦ λ i. read TAIL (λ e. no_tail (omega (arith, e, ap (lane_start plan) at))) i % CLOSED - read HEAD (λ e. no_head (omega (arith, e, ap (lane_start plan) at))) i
    | inr other ↦ λ i. read TAIL (lanes-apart plan l j o TAIL (λ e. other (sym e)) within (omega arith)) i % CLOSED
        - read HEAD (lanes-apart plan l j o HEAD (λ e. other (sym e)) within (omega arith)) i
  ]
    where
      read : (p : ℕ) → lane_start plan j + p ≢ lane_start plan l + o → reads plan (set ws (lane_start plan l + o) y) j p ≡ reads plan ws j p
      read p apart = get_or-set_other ws (lane_start plan l + o) (lane_start plan j + p) y 0 apart

  -- the world, once a word of a lane is written and no job comes or goes
  pub still_world : (s : BothSt) (k : KeepsBoth plan s) (i y : ℕ) → plan.base ≤ i
      → ((j : ℕ) → jobs_in plan (set s.words i y) j ≡ jobs_in plan s.words j)
      → IsSound (pool.world_of plan.sleepers plan.sizes.lanes (set s.words i y) (jobs_in plan (set s.words i y)) k.phases)
  still_world s k i y above same =
      subst (λ (jobs : ℕ → ℕ). IsSound (pool.world_of plan.sleepers plan.sizes.lanes (set s.words i y) jobs k.phases)) (λ x j. sym (same j) x)
      (lane_kept plan.sleepers plan.sizes.lanes s.words (jobs_in plan s.words) k.phases k.sound (long s k) i y (omega (arith, above, k.base_is)))
    where
      long : (s : BothSt) (k : KeepsBoth plan s) → pool.base plan.sleepers ≤ length s.words
      long s k = let all : length s.words ≡ all_words plan = k.lanes.kept.long in omega (arith, all, k.base_is)

  -- a word is only read
  pub read_world : (s : BothSt) (k : KeepsBoth plan s) (i : ℕ)
      → IsSound (pool.world_of plan.sleepers plan.sizes.lanes (set s.words i (get_or s.words i 0)) (jobs_in plan (set s.words i (get_or s.words i 0))) k.phases)
  read_world s k i = subst (λ (ws : List ℕ). IsSound (pool.world_of plan.sleepers plan.sizes.lanes ws (jobs_in plan ws) k.phases)) (sym (set-get_or s.words i 0)) k.sound

  -- ---- the counts of one lane

  tail_others : (ws : List ℕ) (l y j : ℕ) → j ≢ l → jobs_in plan (set ws (lane_start plan l + TAIL) y) j ≡ jobs_in plan ws j
  tail_others ws l y j other = λ i. get_or-set_other ws (lane_start plan l + TAIL) (lane_start plan j + TAIL) y 0 (lanes-apart plan l j TAIL TAIL (λ e. other (sym e)) (omega arith) (omega arith)) i % CLOSED
      - get_or-set_other ws (lane_start plan l + TAIL) (lane_start plan j + HEAD) y 0 (lanes-apart plan l j TAIL HEAD (λ e. other (sym e)) (omega arith) (omega arith)) i

  head_others : (ws : List ℕ) (l y j : ℕ) → j ≢ l → jobs_in plan (set ws (lane_start plan l + HEAD) y) j ≡ jobs_in plan ws j
  head_others ws l y j other = λ i. get_or-set_other ws (lane_start plan l + HEAD) (lane_start plan j + TAIL) y 0 (lanes-apart plan l j HEAD TAIL (λ e. other (sym e)) (omega arith) (omega arith)) i % CLOSED
      - get_or-set_other ws (lane_start plan l + HEAD) (lane_start plan j + HEAD) y 0 (lanes-apart plan l j HEAD HEAD (λ e. other (sym e)) (omega arith) (omega arith)) i

  tail_here : (ws : List ℕ) (l y : ℕ) → lane_start plan l + TAIL < length ws
      → jobs_in plan (set ws (lane_start plan l + TAIL) y) l ≡ y % CLOSED - reads plan ws l HEAD
  tail_here ws l y inside = λ i. get_or-set_same ws (lane_start plan l + TAIL) y 0 inside i % CLOSED
      - get_or-set_other ws (lane_start plan l + TAIL) (lane_start plan l + HEAD) y 0 (λ e. omega (arith, e)) i

  head_here : (ws : List ℕ) (l y : ℕ) → lane_start plan l + HEAD < length ws
      → jobs_in plan (set ws (lane_start plan l + HEAD) y) l ≡ reads plan ws l TAIL % CLOSED - y
  head_here ws l y inside = λ i. get_or-set_other ws (lane_start plan l + HEAD) (lane_start plan l + TAIL) y 0 (λ e. omega (arith, e)) i % CLOSED
      - get_or-set_same ws (lane_start plan l + HEAD) y 0 inside i

  -- a close changes no job
  pub close_jobs : (ws : List ℕ) (l : ℕ) → lane_start plan l + TAIL < length ws
      → (j : ℕ) → jobs_in plan (set ws (lane_start plan l + TAIL) ((reads plan ws l TAIL + CLOSED) % 2 ^ 64)) j ≡ jobs_in plan ws j
  close_jobs ws l inside j = elim (cases_eq j l) [
    | inl at ↦ subst (λ x. jobs_in plan (set ws (lane_start plan l + TAIL) ((reads plan ws l TAIL + CLOSED) % 2 ^ 64)) x ≡ jobs_in plan ws x) (sym at)
        (tail_here ws l ((reads plan ws l TAIL + CLOSED) % 2 ^ 64) inside ∙ (let same : (reads plan ws l TAIL + CLOSED) % 2 ^ 64 % CLOSED ≡ reads plan ws l TAIL % CLOSED = omega arith in ap (λ x. x - reads plan ws l HEAD) same))
    | inr other ↦ tail_others ws l ((reads plan ws l TAIL + CLOSED) % 2 ^ 64) j other
  ]

  -- one job more
  put_jobs : (ws : List ℕ) (l c : ℕ) → lane_start plan l + TAIL < length ws → reads plan ws l TAIL ≡ c → c + 1 < CLOSED → reads plan ws l HEAD ≤ c
      → (j : ℕ) → machine.set (jobs_in plan ws) l (jobs_in plan ws l + 1) j ≡ jobs_in plan (set ws (lane_start plan l + TAIL) (c + 1)) j
  put_jobs ws l c inside is few low j = elim (cases_eq j l) [
    | inl at ↦ subst (λ x. machine.set (jobs_in plan ws) l (jobs_in plan ws l + 1) x ≡ jobs_in plan (set ws (lane_start plan l + TAIL) (c + 1)) x) (sym at)
        (set_here (jobs_in plan ws) l (jobs_in plan ws l + 1) ∙ more ∙ sym (tail_here ws l (c + 1) inside))
    | inr other ↦ set_else (jobs_in plan ws) l (jobs_in plan ws l + 1) j other ∙ sym (tail_others ws l (c + 1) j other)
  ]
    where
      more : jobs_in plan ws l + 1 ≡ (c + 1) % CLOSED - reads plan ws l HEAD
      more = omega (arith, is, few, low)

  -- one job less
  take_jobs : (ws : List ℕ) (l c : ℕ) → lane_start plan l + HEAD < length ws → reads plan ws l HEAD ≡ c
      → (j : ℕ) → machine.set (jobs_in plan ws) l (jobs_in plan ws l - 1) j ≡ jobs_in plan (set ws (lane_start plan l + HEAD) (c + 1)) j
  take_jobs ws l c inside is j = elim (cases_eq j l) [
    | inl at ↦ subst (λ x. machine.set (jobs_in plan ws) l (jobs_in plan ws l - 1) x ≡ jobs_in plan (set ws (lane_start plan l + HEAD) (c + 1)) x) (sym at)
        (set_here (jobs_in plan ws) l (jobs_in plan ws l - 1) ∙ less ∙ sym (head_here ws l (c + 1) inside))
    | inr other ↦ set_else (jobs_in plan ws) l (jobs_in plan ws l - 1) j other ∙ sym (head_others ws l (c + 1) j other)
  ]
    where
      less : jobs_in plan ws l - 1 ≡ reads plan ws l TAIL % CLOSED - (c + 1)
      less = omega (arith, is)

  -- the world after a put
  pub put_world : (s : BothSt) (k : KeepsBoth plan s) (t l c : ℕ) (p : Phase) → l < plan.sizes.lanes → MayPut p → k.phases t ≡ p
      → reads plan s.words l TAIL ≡ c → c + 1 < CLOSED → reads plan s.words l HEAD ≤ c
      → IsSound (pool.world_of plan.sleepers plan.sizes.lanes (set s.words (lane_start plan l + TAIL) (c + 1)) (jobs_in plan (set s.words (lane_start plan l + TAIL) (c + 1))) (machine.set k.phases t (waking (pool.word_count plan.sleepers) 0)))
  put_world s k t l c p here may phase is few low =
      subst (λ (jobs : ℕ → ℕ). IsSound (pool.world_of plan.sleepers plan.sizes.lanes (set s.words (lane_start plan l + TAIL) (c + 1)) jobs (machine.set k.phases t (waking (pool.word_count plan.sleepers) 0))))
      (λ x j. put_jobs s.words l c inside is few low j x)
      (lane_kept plan.sleepers plan.sizes.lanes s.words (machine.set (jobs_in plan s.words) l (jobs_in plan s.words l + 1)) (machine.set k.phases t (waking (pool.word_count plan.sleepers) 0)) sound
      (omega (arith, all, k.base_is)) (lane_start plan l + TAIL) (c + 1) (omega (arith, k.base_is)))
    where
      all : length s.words ≡ all_words plan
      all = k.lanes.kept.long

      inside : lane_start plan l + TAIL < length s.words
      inside = subst (λ (x : ℕ). lane_start plan l + TAIL < x) (sym all) (lane-inside plan l TAIL here (omega arith))

      sound : IsSound (pool.world_of plan.sleepers plan.sizes.lanes s.words (machine.set (jobs_in plan s.words) l (jobs_in plan s.words l + 1)) (machine.set k.phases t (waking (pool.word_count plan.sleepers) 0)))
      sound = elim may [
        | inl idle ↦ put_sound (pool.world_of plan.sleepers plan.sizes.lanes s.words (jobs_in plan s.words) k.phases) k.sound t l (phase ∙ idle)
        | inr again ↦ put_again_sound (pool.world_of plan.sleepers plan.sizes.lanes s.words (jobs_in plan s.words) k.phases) k.sound t l again.0 (phase ∙ again.1)
      ]

  -- the world after a take of an idle worker
  pub take_world : (s : BothSt) (k : KeepsBoth plan s) (t l c : ℕ) → l < plan.sizes.lanes → k.phases t ≡ Idle → reads plan s.words l HEAD ≡ c
      → IsSound (pool.world_of plan.sleepers plan.sizes.lanes (set s.words (lane_start plan l + HEAD) (c + 1)) (jobs_in plan (set s.words (lane_start plan l + HEAD) (c + 1))) k.phases)
  take_world s k t l c here phase is =
      subst (λ (jobs : ℕ → ℕ). IsSound (pool.world_of plan.sleepers plan.sizes.lanes (set s.words (lane_start plan l + HEAD) (c + 1)) jobs k.phases))
      (λ x j. take_jobs s.words l c inside is j x)
      (lane_kept plan.sleepers plan.sizes.lanes s.words (machine.set (jobs_in plan s.words) l (jobs_in plan s.words l - 1)) k.phases
      (subst (λ (P : ℕ → Phase). IsSound (pool.world_of plan.sleepers plan.sizes.lanes s.words (machine.set (jobs_in plan s.words) l (jobs_in plan s.words l - 1)) P)) (λ x u. set_same k.phases t Idle phase u x)
      (take_sound (pool.world_of plan.sleepers plan.sizes.lanes s.words (jobs_in plan s.words) k.phases) k.sound t l phase))
      (omega (arith, all, k.base_is)) (lane_start plan l + HEAD) (c + 1) (omega (arith, k.base_is)))
    where
      all : length s.words ≡ all_words plan
      all = k.lanes.kept.long

      inside : lane_start plan l + HEAD < length s.words
      inside = subst (λ (x : ℕ). lane_start plan l + HEAD < x) (sym all) (lane-inside plan l HEAD here (omega arith))

  -- the world after a take of the searcher
  pub find_world : (s : BothSt) (k : KeepsBoth plan s) (t l c : ℕ) → l < plan.sizes.lanes → k.phases t ≡ Searching → reads plan s.words l HEAD ≡ c
      → IsSound (pool.world_of plan.sleepers plan.sizes.lanes (set s.words (lane_start plan l + HEAD) (c + 1)) (jobs_in plan (set s.words (lane_start plan l + HEAD) (c + 1))) (machine.set k.phases t Found))
  find_world s k t l c here phase is =
      subst (λ (jobs : ℕ → ℕ). IsSound (pool.world_of plan.sleepers plan.sizes.lanes (set s.words (lane_start plan l + HEAD) (c + 1)) jobs (machine.set k.phases t Found)))
      (λ x j. take_jobs s.words l c inside is j x)
      (lane_kept plan.sleepers plan.sizes.lanes s.words (machine.set (jobs_in plan s.words) l (jobs_in plan s.words l - 1)) (machine.set k.phases t Found)
      (find_sound (pool.world_of plan.sleepers plan.sizes.lanes s.words (jobs_in plan s.words) k.phases) k.sound t l phase)
      (omega (arith, all, k.base_is)) (lane_start plan l + HEAD) (c + 1) (omega (arith, k.base_is)))
    where
      all : length s.words ≡ all_words plan
      all = k.lanes.kept.long

      inside : lane_start plan l + HEAD < length s.words
      inside = subst (λ (x : ℕ). lane_start plan l + HEAD < x) (sym all) (lane-inside plan l HEAD here (omega arith))

  -- ---- opened, dealt out and joined

  numbered_two : {R : Type 0} (g : ℕ → R) (a x y : ℕ) → numbered_from g a x ++ numbered_from g (a + x) y ≡ numbered_from g a (x + y)
  numbered_two g a zero y =
      let same : a + 0 ≡ a = omega arith in
      let none : y ≡ 0 + y = omega arith in
      ap (λ (b : ℕ). numbered_from g b y) same ∙ ap (numbered_from g a) none
  numbered_two g a (suc x) y =
      let same : a + suc x ≡ a + 1 + x = omega arith in
      let more : suc (x + y) ≡ suc x + y = omega arith in
      ap (λ zs. g a ∷ zs) (ap (λ (b : ℕ). numbered_from g (a + 1) x ++ numbered_from g b y) same ∙ numbered_two g (a + 1) x y)
      ∙ ap (numbered_from g a) more

  pub opens_both : (ws : List ℕ) → plan.base ≡ pool.base plan.sleepers → ws ≡ replicate (all_words plan) 0 → plan.sleepers ≤ plan.sizes.workers
      → Keeps plan (opening ws [] (first_view plan))
      → KeepsBoth plan (opening ws [] (first_both plan))
  opens_both ws base is few lanes = record {
    lanes = lanes;
    base_is = base;
    phases = λ _. Idle;
    tied = first-tied threads_in thread_number (thread_at plan Idle) (λ _. refl) (thread_count plan) (first_both plan)
        (first plan.sizes.workers);
    sound = subst IsSound (sym world) (initial_sound plan.sleepers plan.sizes.lanes (pool.word_count plan.sleepers) pool.word_of (in_words plan.sleepers));
  }
    where
      first : (w : ℕ) → numbered_from (thread_at plan Idle) 0 w ++ numbered_from (thread_at plan Idle) w (plan.sizes.lanes + 1) ≡ numbered_from (thread_at plan Idle) 0 (w + (plan.sizes.lanes + 1))
      first w = let same : w ≡ 0 + w = omega arith in ap (λ (b : ℕ). numbered_from (thread_at plan Idle) 0 w ++ numbered_from (thread_at plan Idle) b (plan.sizes.lanes + 1)) same
          ∙ numbered_two (thread_at plan Idle) 0 w (plan.sizes.lanes + 1)

      word : (j : ℕ) → get_or ws j 0 ≡ 0
      word j = ap (λ (zs : List ℕ). get_or zs j 0) is ∙ zero_word (all_words plan) j

      world : pool.world_of plan.sleepers plan.sizes.lanes ws (jobs_in plan ws) (λ _. Idle) ≡ machine.initial plan.sleepers plan.sizes.lanes (pool.word_count plan.sleepers) pool.word_of
      world = same_world _ _ refl refl refl (λ _. refl)
          (λ l. λ i. word (lane_start plan l + TAIL) i % CLOSED - word (lane_start plan l + HEAD) i)
          (λ c. ap (λ x. cond (ltb c (pool.word_count plan.sleepers)) (eqb x 1) false) (ap (λ x. bit_at x WORD_WORKERS) (word c) ∙ bit_at-zero WORD_WORKERS) ∙ none_set (ltb c (pool.word_count plan.sleepers)))
          (λ t. ap (λ x. cond (ltb (pool.word_of t) (pool.word_count plan.sleepers)) (eqb x 1) false) (ap (λ x. bit_at x (pool.bit_of t)) (word (pool.word_of t)) ∙ bit_at-zero (pool.bit_of t)) ∙ none_set (ltb (pool.word_of t) (pool.word_count plan.sleepers)))
          (λ t. ap (λ x. cond (ltb t plan.sleepers) (eqb x 1) false) (word (pool.token_at plan.sleepers t)) ∙ none_set (ltb t plan.sleepers))
          (λ t. ap (λ x. cond (ltb t plan.sleepers) (eqb x 1) false) (word (pool.mail_at plan.sleepers t)) ∙ none_set (ltb t plan.sleepers))
          (λ _. refl)

  -- the parts of a list of two
  parts : {R : Type 0} (P : R → Type 0) (xs ys : List R) → AllByRecursion P (xs ++ ys) → AllByRecursion P xs × AllByRecursion P ys
  parts P [] ys all = (tt, all)
  parts P (x ∷ xs) ys all = let rest = parts P xs ys all.1 in ((all.0, rest.0), rest.1)

  cut_views : (s : BothSt) (id : ℕ) (left right : Both) (l r : View) → left.known ≡ l → right.known ≡ r
      → Keeps plan (record { words = s.words; homes = s.homes; views = set (map known_in s.views) id l ++ r ∷ [] })
      → Keeps plan (known_state (record { words = s.words; homes = s.homes; views = set s.views id left ++ right ∷ [] }))
  cut_views s id left right l r is_left is_right holds = subst (λ (vs : List View). Keeps plan (record { words = s.words; homes = s.homes; views = vs }))
      ((λ i. set (map known_in s.views) id (sym is_left i) ++ sym is_right i ∷ [])
      ∙ sym (map_push known_in (set s.views id left) right ∙ ap (λ (vs : List View). vs ++ known_in right ∷ []) (map_set known_in s.views id left))) holds

  -- a view whose known part is cut, and whose threads are
  cuts : (id : ℕ) (v left right : Both)
      → Splits (Keeps plan) id v.known left.known right.known
      → ((P : ThreadRecord → Type 0) → AllByRecursion P (threads_in v) → AllByRecursion P (threads_in left) × AllByRecursion P (threads_in right))
      → ((f : ThreadRecord → ℕ) → total f (threads_in left) + total f (threads_in right) ≡ total f (threads_in v))
      → Splits (KeepsBoth plan) id v left right
  cuts id v left right lanes all sums s k me = record {
    lanes = cut_views s id left right left.known right.known refl refl (lanes (known_state s) k.lanes (map_get known_in s.views id v me));
    base_is = k.base_is;
    phases = k.phases;
    tied = splits threads_in thread_number s.views k.tied id v me left right (all (True threads_in thread_number (thread_count plan) (λ n. thread_at plan (k.phases n) n))) (λ n. sums (λ r. is_at n (thread_number r)));
    sound = k.sound;
  }

  pub deals_lane_both : (id : ℕ) (v : Both) → Splits (Keeps plan) id v.known (without_lane v.known) (lane_alone v.known)
      → Splits (KeepsBoth plan) id v (without_lane_both v) (lane_alone_both v)
  deals_lane_both id v lanes = cuts id v (without_lane_both v) (lane_alone_both v) lanes
      (λ P all. let two = parts P v.sleepers v.others all in let cut = cut-all P v.others two.1 in (all_append P v.sleepers (rest_of v.others) two.0 cut.0, cut.1))
      (λ f. omega (arith, total-append f v.sleepers v.others, total-append f v.sleepers (rest_of v.others), cut-total f v.others))

  pub deals_worker_both : (id : ℕ) (v : Both) → Splits (Keeps plan) id v.known (without_worker v.known) (worker_alone v.known)
      → Splits (KeepsBoth plan) id v (without_worker_both v) (worker_alone_both v)
  deals_worker_both id v lanes = cuts id v (without_worker_both v) (worker_alone_both v) lanes
      (λ P all. let two = parts P v.sleepers v.others all in let cut = cut-all P v.sleepers two.0 in (all_append P (rest_of v.sleepers) v.others cut.0 two.1, all_append P (first_of v.sleepers) [] cut.1 tt))
      (λ f. omega (arith, total-append f v.sleepers v.others, total-append f (rest_of v.sleepers) v.others, total-append f (first_of v.sleepers) [], cut-total f v.sleepers))

  pub joins_both : (id : ℕ) (v : Both) (other : ℕ) (w : Both) → Joins (Keeps plan) id v.known other w.known (joined v.known w.known) spent_view
      → Joins (KeepsBoth plan) id v other w (joined_both v w) spent_both
  joins_both id v other w lanes s k me apart there = record {
    lanes = subst (λ (vs : List View). Keeps plan (record { words = s.words; homes = s.homes; views = vs }))
        (ap (λ (vs : List View). set vs other spent_view) (sym (map_set known_in s.views id (joined_both v w))) ∙ sym (map_set known_in (set s.views id (joined_both v w)) other spent_both))
        (lanes (known_state s) k.lanes (map_get known_in s.views id v me) apart
        (subst (λ (vs : List View). get_elem? vs other ≡ some w.known) (map_set known_in s.views id (joined_both v w)) (map_get known_in (set s.views id (joined_both v w)) other w there)));
    base_is = k.base_is;
    phases = k.phases;
    tied = joins threads_in thread_number s.views k.tied id v me other w (joined_both v w) spent_both apart there (no_more (threads_in v ++ threads_in w)) refl;
    sound = k.sound;
  }

  -- ---- the table at its end

  pub final_lanes : (id : ℕ) (v : Both) (ws : List ℕ) (xs : List (Unit {0})) → Final (Seen (KeepsBoth plan) id v) ws xs → Final (Seen (Keeps plan) id v.known) ws xs
  final_lanes id v ws xs (s, seen, words, homes, slots) = (known_state s, (seen.0.lanes, map_get known_in s.views id v seen.1), words, homes, slots)
