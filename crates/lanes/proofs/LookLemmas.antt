-- A look at a lane by a worker that has rested, or was the searcher.
use Rattle.std.proofs.Common.{◌≡◌, ◌≢◌, ℕ, ◌+◌, ◌%◌, ◌^◌, ◌<◌, ◌≤◌, inl, inr, ⊎_elim, Bool, true, false, eqb, eq-eqb, ne_eqb, List, [], ◌∷◌, ◌++◌, get_or, set, map, refl, sym, ◌∙◌, ap, subst, arith}
use Rattle.std.specs.Prelude.{MatchBool}
use mathlib.Core.Logic.{dite}
use native.Mathlib.Decide.{ℕ_discrete}
use mathlib.Core.Option.{some, none}
use prog.Atomic.{either}
use lib.ListN.{get_elem?}
use lib.Seq.{set-get_or}
use Rattle.atomic_table.specs.Table.{Step, Allows, step}
use Rattle.atomic_table.proofs.Lists.{exchanged}
use Rattle.wake_pool.specs.declared.phase.WakePhase.{WakePhase as Phase}
use Rattle.wake_pool.specs.declared.phase.WakePhase.TheVariants.{Searching, Found}
use Rattle.wake_pool.specs.Schedule as machine
use Rattle.wake_pool.specs.Inner.Invariant.{IsSound}
use Rattle.wake_pool.specs.Words as pool
use Rattle.wake_pool.proofs.ServedLemmas.{see_sound, see_again_sound, look_sound, look_last_sound}
use Rattle.wake_calls.specs.Pool.{in_phase}
use Rattle.wake_calls.specs.declared.rule.ThreadRecord.{ThreadRecord}
use Rattle.lanes.specs.declared.sizes.TheConstants.{CLOSED, TAIL, HEAD}
use Rattle.lanes.specs.declared.sizes.Plan.{Plan}
use Rattle.lanes.specs.declared.record.WorkerRecord.{WorkerRecord}
use Rattle.lanes.specs.declared.view.Both.{Both}
use Rattle.lanes.specs.Layout.{lane_start, lane_of}
use Rattle.lanes.specs.Lanes.{LanesId}
use Rattle.lanes.specs.Record.{take_of}
use Rattle.lanes.specs.History.{count, taken, is_shut}
use Rattle.lanes.specs.Inner.Rule.{reads, Keeps}
use Rattle.lanes.specs.Inner.Step.{Sat, worker_in, IsWorker, HasMark}
use Rattle.lanes.specs.Inner.Pool.{BothSat, BothSt, known_in, known_sat, known_state, threads_in, both, goes, thread_at, jobs_in, phase_in, looked, LooksAt, GoesOnFrom, KeepsBoth, IsSleeper, IsStill, FindsFrom}
use Rattle.lanes.specs.Inner.PoolLaw.{map_get, own_thread}
use Rattle.lanes.proofs.LayoutLemmas.{lane_of-start}
use Rattle.lanes.proofs.NextLemmas.{shut_or_open, all_sound, small, tail_shut, tail_open, worker_knows}
use Rattle.lanes.proofs.PoolLemmas.{Outcome, find_world}
use Rattle.lanes.proofs.AskLemmas.{asked_both, sleeper_still}

module _ (plan : Plan) (s : BothSt) (k : KeepsBoth plan s) (l : ℕ) (low : l < plan.sizes.lanes) (id : ℕ) where
  -- the count in the first word of the lane
  counted : reads plan s.words l TAIL % CLOSED ≡ count (k.lanes.kept.histories l)
  counted = ⊎_elim
      (λ (shut : is_shut (k.lanes.kept.histories l) ≡ true). omega (arith, tail_shut plan (known_state s) k.lanes.kept id l low shut, small plan (known_state s) k.lanes.kept id l))
      (λ (still : is_shut (k.lanes.kept.histories l) ≡ false). omega (arith, tail_open plan (known_state s) k.lanes.kept id l low still, small plan (known_state s) k.lanes.kept id l))
      (shut_or_open (is_shut (k.lanes.kept.histories l)))

  -- a lane of which as many jobs are accepted as the worker knows to be taken is empty
  none_left : (head : ℕ) → head ≤ taken (k.lanes.kept.histories l) → reads plan s.words l TAIL % CLOSED ≡ head → jobs_in plan s.words l ≡ 0
  none_left head known at = omega (arith, known, at, counted, (k.lanes.kept.words l low).head, (all_sound plan (known_state s) k.lanes.kept id l).counts.0)

  -- the world after the look
  looks_world : (t : ℕ) (p : Phase) (head : ℕ) → LooksAt p l → k.phases t ≡ p → head ≤ taken (k.lanes.kept.histories l) → reads plan s.words l TAIL % CLOSED ≡ head
      → IsSound (pool.world_of plan.sleepers plan.sizes.lanes s.words (jobs_in plan s.words) (machine.set k.phases t (looked plan p true)))
  looks_world t p head (inl rests) phase known at = subst (λ (q : Phase). IsSound (pool.world_of plan.sleepers plan.sizes.lanes s.words (jobs_in plan s.words) (machine.set k.phases t (looked plan q true)))) (sym rests)
      (look_last_sound (pool.world_of plan.sleepers plan.sizes.lanes s.words (jobs_in plan s.words) k.phases) k.sound t l (phase ∙ rests) (none_left head known at))
  looks_world t p head (inr looks) phase known at = subst (λ (q : Phase). IsSound (pool.world_of plan.sleepers plan.sizes.lanes s.words (jobs_in plan s.words) (machine.set k.phases t (looked plan q true)))) (sym looks)
      (look_sound (pool.world_of plan.sleepers plan.sizes.lanes s.words (jobs_in plan s.words) k.phases) k.sound t l (phase ∙ looks) (none_left head known at))

  sees_world : (t : ℕ) (p : Phase) → LooksAt p l → k.phases t ≡ p
      → IsSound (pool.world_of plan.sleepers plan.sizes.lanes s.words (jobs_in plan s.words) (machine.set k.phases t (looked plan p false)))
  sees_world t p (inl rests) phase = subst (λ (q : Phase). IsSound (pool.world_of plan.sleepers plan.sizes.lanes s.words (jobs_in plan s.words) (machine.set k.phases t (looked plan q false)))) (sym rests)
      (see_sound (pool.world_of plan.sleepers plan.sizes.lanes s.words (jobs_in plan s.words) k.phases) k.sound t l (phase ∙ rests))
  sees_world t p (inr looks) phase = subst (λ (q : Phase). IsSound (pool.world_of plan.sleepers plan.sizes.lanes s.words (jobs_in plan s.words) (machine.set k.phases t (looked plan q false)))) (sym looks)
      (see_again_sound (pool.world_of plan.sleepers plan.sizes.lanes s.words (jobs_in plan s.words) k.phases) k.sound t l (phase ∙ looks))

-- the handle's part
pub record IsLooker (plan : Plan) (number : ℕ) (tails : List ℕ) (l : ℕ) (m : BothSat) : Type 0 where
  pub worker : IsWorker plan number tails (known_sat m)
  pub sleeper : IsSleeper plan number (phase_in m.0.sleepers) m
  pub looks : LooksAt (phase_in m.0.sleepers) l

pub asked_look : (number : ℕ) (tails : List ℕ) (lid sid x : LanesId) (key : Plan) (id i l : ℕ) (m : BothSat) (then : Step (Unit {0}) → ℕ → Sat → Type 0)
    → lid ≡ x → sid ≡ x → key ≡ sid.plan → IsLooker lid.plan number tails l m → i < x.table.words
    → i ≡ lane_start x.plan l + TAIL → l < x.plan.sizes.lanes
    → ((n : ℕ) → IsLooker x.plan number tails l m → Allows (Keeps x.plan) n id (known_sat m) i (λ y. y) (then (step n i 0 0 none)))
    → (lid.table ≡ sid.table) × (i < sid.table.words) × Allows (KeepsBoth key) sid.table.slots id m i (λ y. y)
    (λ found now. then (step sid.table.slots i 0 0 none) found (known_sat now) × GoesOnFrom m (take_of (lane_of (worker_in m.0.known.workers).plan i) (worker_in m.0.known.workers)).head found now.0)
asked_look number tails lid sid x key id i l m then of_handle of_lanes plan_is is low at within allows =
    asked_both (λ p. IsLooker p number tails l m) lid sid x key id i 0 0 m (λ y. y) then (λ found v. GoesOnFrom m (take_of (lane_of (worker_in m.0.known.workers).plan i) (worker_in m.0.known.workers)).head found v)
    of_handle of_lanes plan_is is low allows decide
  where
    r : WorkerRecord
    r = worker_in m.0.known.workers

    p : Phase
    p = phase_in m.0.sleepers

    decide : (n : ℕ) → IsLooker x.plan number tails l m → (s : BothSt) (k : KeepsBoth x.plan s) → get_elem? s.views id ≡ some m.0
        → Outcome x.plan n id m i (λ y. y) (then (step n i 0 0 none)) (λ found v. GoesOnFrom m (take_of (lane_of (worker_in m.0.known.workers).plan i) (worker_in m.0.known.workers)).head found v) s k
    decide n own s k me = dite (ℕ_discrete (get_or s.words i 0 % CLOSED) head)
        (λ empty. inr (
          thread_at x.plan p number,
          looked r.plan p true,
          thread,
          subst (λ (ws : List ℕ). IsSound (pool.world_of x.plan.sleepers x.plan.sizes.lanes ws (jobs_in x.plan ws) (machine.set k.phases number (looked r.plan p true)))) (sym (set-get_or s.words i 0))
              (subst (λ (z : Plan). IsSound (pool.world_of x.plan.sleepers x.plan.sizes.lanes s.words (jobs_in x.plan s.words) (machine.set k.phases number (looked z p true)))) (sym own.worker.plan_is)
              (looks_world x.plan s k l within id number p head own.looks phase known (found ∙ empty))),
          λ view. (λ _. refl, λ other. absurd (other empty)),
        ))
        (λ some_job. inr (
          thread_at x.plan p number,
          looked r.plan p false,
          thread,
          subst (λ (ws : List ℕ). IsSound (pool.world_of x.plan.sleepers x.plan.sizes.lanes ws (jobs_in x.plan ws) (machine.set k.phases number (looked r.plan p false)))) (sym (set-get_or s.words i 0))
              (subst (λ (z : Plan). IsSound (pool.world_of x.plan.sleepers x.plan.sizes.lanes s.words (jobs_in x.plan s.words) (machine.set k.phases number (looked z p false)))) (sym own.worker.plan_is)
              (sees_world x.plan s k l within id number p own.looks phase)),
          λ view. (λ empty. absurd (some_job empty), λ _. refl),
        ))
      where
        head : ℕ
        head = (take_of (lane_of (worker_in m.0.known.workers).plan i) (worker_in m.0.known.workers)).head

        lane : lane_of (worker_in m.0.known.workers).plan i ≡ l
        lane = ap (λ (z : Plan). lane_of z i) own.worker.plan_is ∙ ap (lane_of x.plan) at ∙ lane_of-start x.plan l TAIL (omega arith)

        thread : threads_in m.0 ≡ thread_at x.plan p number ∷ []
        thread = λ j. own.sleeper.thread j ++ own.sleeper.no_other j

        phase : k.phases number ≡ p
        phase = sym (ap (λ (z : ThreadRecord). z.phase) (own_thread x.plan s k id m.0 (thread_at x.plan p number) me thread).0)

        found : reads x.plan s.words l TAIL % CLOSED ≡ get_or s.words i 0 % CLOSED
        found = ap (λ (z : ℕ). get_or s.words z 0 % CLOSED) (sym at)

        knows : (take_of l r).head ≤ taken (k.lanes.kept.histories l)
        knows = (worker_knows x.plan (known_state s) k.lanes.kept id r (map_get known_in s.views id m.0 me ∙ ap (λ (z : Sat). some z.0) own.worker.seat) l within).0

        known : head ≤ taken (k.lanes.kept.histories l)
        known = subst (λ (j : ℕ). (take_of j r).head ≤ taken (k.lanes.kept.histories l)) (sym lane) knows

-- ---- the handle after a look

pub still_here : (plan : Plan) (number : ℕ) (m now : BothSat) → IsSleeper plan number (phase_in m.0.sleepers) m → IsStill m now → IsSleeper plan number (phase_in now.0.sleepers) now
still_here plan number m now is still = subst (λ (q : Phase). IsSleeper plan number q now) (sym (ap phase_in still.0)) (sleeper_still plan number (phase_in m.0.sleepers) m now is still)

-- the thread is in this phase now
pub record ComesTo (plan : Plan) (number : ℕ) (q : Phase) (now : BothSat) : Type 0 where
  pub sleeper : IsSleeper plan number (phase_in now.0.sleepers) now
  pub phase : phase_in now.0.sleepers ≡ q

comes_to : (plan : Plan) (number : ℕ) (p q : Phase) (m now : BothSat) → IsSleeper plan number p m → now.0 ≡ goes q (both now.0.known m.0.sleepers m.0.others m.0.deeds) → ComesTo plan number q now
comes_to plan number p q m now is moves =
    let sleepers : now.0.sleepers ≡ thread_at plan q number ∷ [] = ap (λ (v : Both). v.sleepers) moves ∙ ap (map (in_phase q)) is.thread in
    let others : now.0.others ≡ [] = ap (λ (v : Both). v.others) moves ∙ ap (map (in_phase q)) is.no_other in
    let phase : phase_in now.0.sleepers ≡ q = ap phase_in sleepers in
    record {
      sleeper = record { thread = sleepers ∙ ap (λ (z : Phase). thread_at plan z number ∷ []) (sym phase); no_other = others };
      phase = phase;
    }

module _ (plan x : Plan) (number : ℕ) (tails : List ℕ) (m now : BothSat) (w : WorkerRecord) (l i head found count : ℕ) (closed : Bool)
    (worker : IsWorker plan number tails (known_sat m)) (thread : IsSleeper plan number (phase_in m.0.sleepers) m)
    (known : worker_in m.0.known.workers ≡ w) (same : plan ≡ x) (at : i ≡ lane_start x l + TAIL)
    (at_head : head ≡ (take_of l w).head) (fits : found < 2 ^ 64) (has : HasMark found count closed)
    (goes_from : GoesOnFrom m (take_of (lane_of (worker_in m.0.known.workers).plan i) (worker_in m.0.known.workers)).head found now.0) where
  in_that_lane : lane_of (worker_in m.0.known.workers).plan i ≡ l
  in_that_lane = ap (λ (z : Plan). lane_of z i) (worker.plan_is ∙ same) ∙ ap (lane_of x) at ∙ lane_of-start x l TAIL (omega arith)

  head_there : (take_of (lane_of (worker_in m.0.known.workers).plan i) (worker_in m.0.known.workers)).head ≡ head
  head_there = ap (λ (j : ℕ). (take_of j (worker_in m.0.known.workers)).head) in_that_lane ∙ ap (λ (z : WorkerRecord). (take_of l z).head) known ∙ sym at_head

  without_mark : (b : Bool) → HasMark found count b → found % CLOSED ≡ count
  without_mark true h = omega (arith, h.0, h.1, fits)
  without_mark false h = omega (arith, h.0, h.1)

  pub empty_now : count ≡ head → ComesTo plan number (looked x (phase_in m.0.sleepers) true) now
  empty_now is_head = comes_to plan number (phase_in m.0.sleepers) (looked x (phase_in m.0.sleepers) true) m now thread
      (subst (λ (z : Plan). now.0 ≡ goes (looked z (phase_in m.0.sleepers) true) (both now.0.known m.0.sleepers m.0.others m.0.deeds)) (worker.plan_is ∙ same)
      (goes_from.0 (without_mark closed has ∙ is_head ∙ sym head_there)))

  pub job_now : count ≢ head → ComesTo plan number (looked x (phase_in m.0.sleepers) false) now
  job_now other = comes_to plan number (phase_in m.0.sleepers) (looked x (phase_in m.0.sleepers) false) m now thread
      (subst (λ (z : Plan). now.0 ≡ goes (looked z (phase_in m.0.sleepers) false) (both now.0.known m.0.sleepers m.0.others m.0.deeds)) (worker.plan_is ∙ same)
      (goes_from.1 (λ e. other (sym (without_mark closed has) ∙ e ∙ head_there))))

-- ---- a job that the searcher finds

pub asked_find : (Is : Plan → Type 0) (lid sid x : LanesId) (key : Plan) (id i c l t : ℕ) (m : BothSat) (then : Step (Unit {0}) → ℕ → Sat → Type 0)
    → lid ≡ x → sid ≡ x → key ≡ sid.plan → Is lid.plan → i < x.table.words
    → i ≡ lane_start x.plan l + HEAD → l < x.plan.sizes.lanes → (Is x.plan → IsSleeper x.plan t Searching m)
    → ((n : ℕ) → Is x.plan → Allows (Keeps x.plan) n id (known_sat m) i (λ y. either (eqb y c) (c + 1) y) (then (step n i c (c + 1) none)))
    → (lid.table ≡ sid.table) × (i < sid.table.words) × Allows (KeepsBoth key) sid.table.slots id m i (λ y. either (eqb y c) (c + 1) y)
    (λ found now. then (step sid.table.slots i c (c + 1) none) found (known_sat now) × FindsFrom m c found now.0)
asked_find Is lid sid x key id i c l t m then of_handle of_lanes plan_is is low at within own allows =
    asked_both Is lid sid x key id i c (c + 1) m (λ y. either (eqb y c) (c + 1) y) then (FindsFrom m c) of_handle of_lanes plan_is is low allows decide
  where
    decide : (n : ℕ) → Is x.plan → (s : BothSt) (k : KeepsBoth x.plan s) → get_elem? s.views id ≡ some m.0
        → Outcome x.plan n id m i (λ y. either (eqb y c) (c + 1) y) (then (step n i c (c + 1) none)) (FindsFrom m c) s k
    decide n is_here s k me = dite (ℕ_discrete (get_or s.words i 0) c)
        (λ hit. inr (
          thread_at x.plan Searching t,
          Found,
          thread,
          exchanged (get_or s.words i 0) c (c + 1) (λ y. IsSound (pool.world_of x.plan.sleepers x.plan.sizes.lanes (set s.words i y) (jobs_in x.plan (set s.words i y)) (machine.set k.phases t Found)))
              (λ _. subst (λ (z : ℕ). IsSound (pool.world_of x.plan.sleepers x.plan.sizes.lanes (set s.words z (c + 1)) (jobs_in x.plan (set s.words z (c + 1))) (machine.set k.phases t Found))) (sym at)
              (find_world x.plan s k t l c within phase (sym (ap (λ (z : ℕ). get_or s.words z 0) at) ∙ hit)))
              (λ miss. absurd (miss hit)),
          λ view. (λ _. refl, λ miss. absurd (miss hit)),
        ))
        (λ miss. inl (
          exchanged (get_or s.words i 0) c (c + 1) (λ y. IsSound (pool.world_of x.plan.sleepers x.plan.sizes.lanes (set s.words i y) (jobs_in x.plan (set s.words i y)) k.phases))
              (λ hit. absurd (miss hit))
              (λ _. subst (λ (ws : List ℕ). IsSound (pool.world_of x.plan.sleepers x.plan.sizes.lanes ws (jobs_in x.plan ws) k.phases)) (sym (set-get_or s.words i 0)) k.sound),
          λ view. (λ hit. absurd (miss hit), λ _. (refl, refl, refl)),
        ))
      where
        thread : threads_in m.0 ≡ thread_at x.plan Searching t ∷ []
        thread = λ j. (own is_here).thread j ++ (own is_here).no_other j

        phase : k.phases t ≡ Searching
        phase = sym (ap (λ (z : ThreadRecord). z.phase) (own_thread x.plan s k id m.0 (thread_at x.plan Searching t) me thread).0)

-- the handle after it
pub finds_thread : (plan : Plan) (number found c : ℕ) (m now : BothSat) → IsSleeper plan number (phase_in m.0.sleepers) m → phase_in m.0.sleepers ≡ Searching → FindsFrom m c found now.0
    → IsSleeper plan number (phase_in now.0.sleepers) now
    × MatchBool (eqb found c) (phase_in now.0.sleepers ≡ Found) (phase_in now.0.sleepers ≡ Searching)
finds_thread plan number found c m now is searches finds = dite (ℕ_discrete found c)
    (λ hit. let come : ComesTo plan number Found now = comes_to plan number (phase_in m.0.sleepers) Found m now is (finds.0 hit) in
    (come.sleeper, subst (λ (b : Bool). MatchBool b (phase_in now.0.sleepers ≡ Found) (phase_in now.0.sleepers ≡ Searching)) (sym (eq-eqb found c hit)) come.phase))
    (λ miss. (
      still_here plan number m now is (finds.1 miss),
      subst (λ (b : Bool). MatchBool b (phase_in now.0.sleepers ≡ Found) (phase_in now.0.sleepers ≡ Searching)) (sym (ne_eqb found c miss)) (ap phase_in (finds.1 miss).0 ∙ searches),
    ))
