-- What each step of a handle requires of the table, with both parts of its rule.
use Rattle.std.proofs.Common.{◌≡◌, ◌≢◌, ℕ, suc, ◌-◌, ◌+◌, ◌%◌, ◌^◌, ◌<◌, ◌≤◌, ◌⊎◌, inl, inr, ⊎_elim, true, false, eqb, List, [], ◌∷◌, ◌++◌, get_or, set, refl, sym, ◌∙◌, ap, subst, arith}
use mathlib.Core.Option.{some, none}
use prog.Atomic.{either}
use lib.ListN.{get_elem?}
use lib.Seq.{set-get_or}
use Rattle.atomic_table.specs.Table.{Step, Allows, step}
use Rattle.atomic_table.proofs.Lists.{exchanged}
use Rattle.wake_pool.specs.declared.phase.WakePhase.{WakePhase as Phase}
use Rattle.wake_pool.specs.declared.phase.WakePhase.TheVariants.{Idle, Waking}
use Rattle.wake_pool.specs.Schedule as machine
use Rattle.wake_pool.specs.Schedule.{waking}
use Rattle.wake_pool.specs.Inner.Invariant.{IsSound}
use Rattle.wake_pool.specs.Words as pool
use Rattle.std.specs.Prelude.{map}
use Rattle.ghost_history.specs.Lists.{first_of, rest_of, numbered_from}
use Rattle.wake_pool.proofs.PartLemmas.{waking_is}
use Rattle.wake_calls.specs.Pool.{in_phase}
use Rattle.wake_calls.specs.Thread.{moved, noting, IsIn, number_of}
use Rattle.wake_calls.specs.declared.deed.WakeDeed.{WakeDeed}
use Rattle.wake_calls.specs.declared.waking.Wake.{Wake}
use Rattle.wake_calls.specs.declared.waking.Wake.TheVariants.{Again}
use Rattle.wake_calls.specs.declared.rule.ThreadRecord.{ThreadRecord}
use Rattle.lanes.specs.declared.sizes.TheConstants.{CLOSED, MAX_JOBS, TAIL, HEAD}
use Rattle.lanes.specs.declared.sizes.Plan.{Plan}
use Rattle.lanes.specs.declared.view.View.{View}
use Rattle.lanes.specs.declared.view.Both.{Both}
use Rattle.lanes.specs.Layout.{lane_words, lane_start}
use Rattle.lanes.specs.Lanes.{LanesId}
use Rattle.lanes.specs.History.{count, is_shut}
use Rattle.lanes.specs.Inner.Rule.{reads, Keeps}
use Rattle.lanes.specs.Inner.Step.{Sat, IsLane, IsWorker}
use Rattle.lanes.specs.Inner.Pool.{Puts, BothSat, BothSt, known_sat, known_state, threads_in, both, goes, noted, producer_of, thread_at, jobs_in, workers_of, put_phase, KeepsBoth, MayPut, IsProducer, IsSleeper, IsStill, AreIdle, without_lane_both, lane_alone_both, without_worker_both, worker_alone_both, phase_in}
use Rattle.lanes.specs.Inner.PoolLaw.{own_thread}
use Rattle.lanes.proofs.LayoutLemmas.{lane-inside}
use Rattle.lanes.proofs.NextLemmas.{shut_or_open, all_sound, tail_shut, tail_open}
use Rattle.lanes.proofs.PoolLemmas.{Outcome, lift_to, cell_jobs, close_jobs, still_world, read_world, put_world, take_world}

-- the threads are as before
abbrev pub Still : BothSat → ℕ → Both → Type 0
Still m found v = (v.sleepers ≡ m.0.sleepers) × (v.others ≡ m.0.others) × (v.deeds ≡ m.0.deeds)

-- A step of a handle, where handle and lanes are of one table and one plan.
pub asked_both : (Is : Plan → Type 0) (lid sid x : LanesId) (key : Plan) (id i a b : ℕ) (m : BothSat) (f : ℕ → ℕ) (then : Step (Unit {0}) → ℕ → Sat → Type 0) (late : ℕ → Both → Type 0)
    → lid ≡ x → sid ≡ x → key ≡ sid.plan → Is lid.plan → i < x.table.words
    → ((n : ℕ) → Is x.plan → Allows (Keeps x.plan) n id (known_sat m) i f (then (step n i a b none)))
    → ((n : ℕ) → Is x.plan → (s : BothSt) (k : KeepsBoth x.plan s) → get_elem? s.views id ≡ some m.0 → Outcome x.plan n id m i f (then (step n i a b none)) late s k)
    → (lid.table ≡ sid.table) × (i < sid.table.words) × Allows (KeepsBoth key) sid.table.slots id m i f (λ found now. then (step sid.table.slots i a b none) found (known_sat now) × late found now.0)
asked_both Is lid sid x key id i a b m f then late of_handle of_lanes plan_is is low allows decide =
    let P : LanesId → LanesId → Plan → Type 0 = λ l s k. Is l.plan → (l.table ≡ s.table) × (i < s.table.words) × Allows (KeepsBoth k) s.table.slots id m i f (λ found now. then (step s.table.slots i a b none) found (known_sat now) × late found now.0) in
    let at_one : P x x x.plan = λ is_here. (refl, low, lift_to x.plan x.table.slots id m i f (then (step x.table.slots i a b none)) late (allows x.table.slots is_here) (decide x.table.slots is_here)) in
    subst (λ (l : LanesId). P l sid key) (sym of_handle) (subst (λ (k : Plan). P x sid k) (sym plan_is) (subst (λ (s : LanesId). P x s s.plan) (sym of_lanes) at_one)) is

-- a load
pub asked_read : (Is : Plan → Type 0) (lid sid x : LanesId) (key : Plan) (id i a b : ℕ) (m : BothSat) (then : Step (Unit {0}) → ℕ → Sat → Type 0)
    → lid ≡ x → sid ≡ x → key ≡ sid.plan → Is lid.plan → i < x.table.words
    → ((n : ℕ) → Is x.plan → Allows (Keeps x.plan) n id (known_sat m) i (λ y. y) (then (step n i a b none)))
    → (lid.table ≡ sid.table) × (i < sid.table.words) × Allows (KeepsBoth key) sid.table.slots id m i (λ y. y) (λ found now. then (step sid.table.slots i a b none) found (known_sat now) × Still m found now.0)
asked_read Is lid sid x key id i a b m then of_handle of_lanes plan_is is low allows =
    asked_both Is lid sid x key id i a b m (λ y. y) then (Still m) of_handle of_lanes plan_is is low allows
    (λ n _ s k me. inl (read_world x.plan s k i, λ known. (refl, refl, refl)))

-- a store into a cell
pub asked_cell : (Is : Plan → Type 0) (lid sid x : LanesId) (key : Plan) (id i y l o : ℕ) (m : BothSat) (then : Step (Unit {0}) → ℕ → Sat → Type 0)
    → lid ≡ x → sid ≡ x → key ≡ sid.plan → Is lid.plan → i < x.table.words
    → i ≡ lane_start x.plan l + o → o < lane_words x.plan.sizes.capacity → o ≢ TAIL → o ≢ HEAD
    → ((n : ℕ) → Is x.plan → Allows (Keeps x.plan) n id (known_sat m) i (λ _. y) (then (step n i y 0 none)))
    → (lid.table ≡ sid.table) × (i < sid.table.words) × Allows (KeepsBoth key) sid.table.slots id m i (λ _. y) (λ found now. then (step sid.table.slots i y 0 none) found (known_sat now) × Still m found now.0)
asked_cell Is lid sid x key id i y l o m then of_handle of_lanes plan_is is low at within no_tail no_head allows =
    asked_both Is lid sid x key id i y 0 m (λ _. y) then (Still m) of_handle of_lanes plan_is is low allows
    (λ n _ s k me. inl (
      still_world x.plan s k i y (omega (arith, at))
          (λ j. subst (λ (z : ℕ). jobs_in x.plan (set s.words z y) j ≡ jobs_in x.plan s.words j) (sym at) (cell_jobs x.plan s.words l o y within no_tail no_head j)),
      λ known. (refl, refl, refl),
    ))

-- ---- the count of accepted jobs

pub asked_put : (Is : Plan → Type 0) (lid sid x : LanesId) (key : Plan) (id i c l : ℕ) (m : BothSat) (then : Step (Unit {0}) → ℕ → Sat → Type 0)
    → lid ≡ x → sid ≡ x → key ≡ sid.plan → Is lid.plan → i < x.table.words
    → i ≡ lane_start x.plan l + TAIL → c < MAX_JOBS → (Is x.plan → (l < x.plan.sizes.lanes) × IsProducer x.plan l m)
    → ((n : ℕ) → Is x.plan → Allows (Keeps x.plan) n id (known_sat m) i (λ y. either (eqb y c) (c + 1) y) (then (step n i c (c + 1) none)))
    → (lid.table ≡ sid.table) × (i < sid.table.words) × Allows (KeepsBoth key) sid.table.slots id m i (λ y. either (eqb y c) (c + 1) y) (λ found now. then (step sid.table.slots i c (c + 1) none) found (known_sat now) × Puts m c found now.0)
asked_put Is lid sid x key id i c l m then of_handle of_lanes plan_is is low at few own allows =
    asked_both Is lid sid x key id i c (c + 1) m (λ y. either (eqb y c) (c + 1) y) then (Puts m c) of_handle of_lanes plan_is is low allows decide
  where
    plan : Plan
    plan = x.plan

    decide : (n : ℕ) → Is x.plan → (s : BothSt) (k : KeepsBoth x.plan s) → get_elem? s.views id ≡ some m.0 → Outcome x.plan n id m i (λ y. either (eqb y c) (c + 1) y) (then (step n i c (c + 1) none)) (Puts m c) s k
    decide n is_here s k me = exchanged (get_or s.words i 0) c (c + 1)
        (λ y. (IsSound (pool.world_of x.plan.sleepers x.plan.sizes.lanes (set s.words i y) (jobs_in x.plan (set s.words i y)) k.phases)
        × ((known : View) → Puts m c (get_or s.words i 0) (both known m.0.sleepers m.0.others m.0.deeds)))
        ⊎ ((r : ThreadRecord) × (q : Phase) × (threads_in m.0 ≡ r ∷ [])
        × IsSound (pool.world_of x.plan.sleepers x.plan.sizes.lanes (set s.words i y) (jobs_in x.plan (set s.words i y)) (machine.set k.phases r.number q))
        × ((known : View) → Puts m c (get_or s.words i 0) (goes q (both known m.0.sleepers m.0.others m.0.deeds)))))
        (λ hit. inr (r, waking (pool.word_count x.plan.sleepers) 0, thread, sound hit, λ known. (λ _. ap (λ (w : ℕ). goes (waking (pool.word_count w) 0) (both known m.0.sleepers m.0.others m.0.deeds)) (sym (ap workers_of thread)), λ other. absurd (other hit))))
        (λ miss. inl (subst (λ (ws : List ℕ). IsSound (pool.world_of x.plan.sleepers x.plan.sizes.lanes ws (jobs_in x.plan ws) k.phases)) (sym (set-get_or s.words i 0)) k.sound, λ known. (λ same. absurd (miss same), λ _. (refl, refl, refl))))
      where
        producer : IsProducer x.plan l m
        producer = (own is_here).1

        within : l < x.plan.sizes.lanes
        within = (own is_here).0

        r : ThreadRecord
        r = thread_at x.plan producer.phase (producer_of x.plan l)

        thread : threads_in m.0 ≡ r ∷ []
        thread = λ j. producer.no_sleeper j ++ producer.thread j

        phase : k.phases (producer_of x.plan l) ≡ producer.phase
        phase = sym (ap (λ (z : ThreadRecord). z.phase) (own_thread x.plan s k id m.0 r me thread).0)

        keep : Keeps x.plan (known_state s)
        keep = k.lanes

        sound : get_or s.words i 0 ≡ c → IsSound (pool.world_of x.plan.sleepers x.plan.sizes.lanes (set s.words i (c + 1)) (jobs_in x.plan (set s.words i (c + 1))) (machine.set k.phases (producer_of x.plan l) (waking (pool.word_count x.plan.sleepers) 0)))
        sound hit = subst (λ (z : ℕ). IsSound (pool.world_of x.plan.sleepers x.plan.sizes.lanes (set s.words z (c + 1)) (jobs_in x.plan (set s.words z (c + 1))) (machine.set k.phases (producer_of x.plan l) (waking (pool.word_count x.plan.sleepers) 0)))) (sym at)
            (put_world x.plan s k (producer_of x.plan l) l c producer.phase within producer.may_put phase tail (omega (arith, few)) head)
          where
            tail : reads x.plan s.words l TAIL ≡ c
            tail = sym (ap (λ (z : ℕ). get_or s.words z 0) at) ∙ hit

            -- the lane is open, so c jobs are accepted
            counted : count (keep.kept.histories l) ≡ c
            counted = ⊎_elim
                (λ (shut : is_shut (keep.kept.histories l) ≡ true). absurd (omega (arith, few, tail, tail_shut x.plan (known_state s) keep.kept id l within shut)))
                (λ (still : is_shut (keep.kept.histories l) ≡ false). sym (tail_open x.plan (known_state s) keep.kept id l within still) ∙ tail)
                (shut_or_open (is_shut (keep.kept.histories l)))

            head : reads x.plan s.words l HEAD ≤ c
            head = omega (arith, counted, (keep.kept.words l within).head, (all_sound x.plan (known_state s) keep.kept id l).counts.0)

-- ---- the count of taken jobs

pub asked_take : (Is : Plan → Type 0) (lid sid x : LanesId) (key : Plan) (id i c l t : ℕ) (m : BothSat) (then : Step (Unit {0}) → ℕ → Sat → Type 0)
    → lid ≡ x → sid ≡ x → key ≡ sid.plan → Is lid.plan → i < x.table.words
    → i ≡ lane_start x.plan l + HEAD → l < x.plan.sizes.lanes → (Is x.plan → IsSleeper x.plan t Idle m)
    → ((n : ℕ) → Is x.plan → Allows (Keeps x.plan) n id (known_sat m) i (λ y. either (eqb y c) (c + 1) y) (then (step n i c (c + 1) none)))
    → (lid.table ≡ sid.table) × (i < sid.table.words) × Allows (KeepsBoth key) sid.table.slots id m i (λ y. either (eqb y c) (c + 1) y) (λ found now. then (step sid.table.slots i c (c + 1) none) found (known_sat now) × Still m found now.0)
asked_take Is lid sid x key id i c l t m then of_handle of_lanes plan_is is low at within own allows =
    asked_both Is lid sid x key id i c (c + 1) m (λ y. either (eqb y c) (c + 1) y) then (Still m) of_handle of_lanes plan_is is low allows decide
  where
    decide : (n : ℕ) → Is x.plan → (s : BothSt) (k : KeepsBoth x.plan s) → get_elem? s.views id ≡ some m.0 → Outcome x.plan n id m i (λ y. either (eqb y c) (c + 1) y) (then (step n i c (c + 1) none)) (Still m) s k
    decide n is_here s k me = inl (
      exchanged (get_or s.words i 0) c (c + 1) (λ y. IsSound (pool.world_of x.plan.sleepers x.plan.sizes.lanes (set s.words i y) (jobs_in x.plan (set s.words i y)) k.phases))
          (λ hit. subst (λ (z : ℕ). IsSound (pool.world_of x.plan.sleepers x.plan.sizes.lanes (set s.words z (c + 1)) (jobs_in x.plan (set s.words z (c + 1))) k.phases)) (sym at)
          (take_world x.plan s k t l c within phase (sym (ap (λ (z : ℕ). get_or s.words z 0) at) ∙ hit)))
          (λ miss. subst (λ (ws : List ℕ). IsSound (pool.world_of x.plan.sleepers x.plan.sizes.lanes ws (jobs_in x.plan ws) k.phases)) (sym (set-get_or s.words i 0)) k.sound),
      λ known. (refl, refl, refl),
    )
      where
        thread : threads_in m.0 ≡ thread_at x.plan Idle t ∷ []
        thread = λ j. (own is_here).thread j ++ (own is_here).no_other j

        phase : k.phases t ≡ Idle
        phase = sym (ap (λ (z : ThreadRecord). z.phase) (own_thread x.plan s k id m.0 (thread_at x.plan Idle t) me thread).0)

-- ---- the closed mark

pub asked_close : (x : LanesId) (key : Plan) (id i l : ℕ) (m : BothSat) (told : ℕ → Sat → Type 0)
    → key ≡ x.plan → i ≡ lane_start x.plan l + TAIL → l < x.plan.sizes.lanes → (n : ℕ)
    → Allows (Keeps x.plan) n id (known_sat m) i (λ y. (y + CLOSED) % 2 ^ 64) told
    → Allows (KeepsBoth key) n id m i (λ y. (y + CLOSED) % 2 ^ 64) (λ found now. told found (known_sat now) × Still m found now.0)
asked_close x key id i l m told plan_is at within n allowed =
    subst (λ (k : Plan). Allows (KeepsBoth k) n id m i (λ y. (y + CLOSED) % 2 ^ 64) (λ found now. told found (known_sat now) × Still m found now.0)) (sym plan_is)
    (lift_to x.plan n id m i (λ y. (y + CLOSED) % 2 ^ 64) told (Still m) allowed
    (λ s k me. inl (
      subst (λ (z : ℕ). IsSound (pool.world_of x.plan.sleepers x.plan.sizes.lanes (set s.words z ((get_or s.words z 0 + CLOSED) % 2 ^ 64)) (jobs_in x.plan (set s.words z ((get_or s.words z 0 + CLOSED) % 2 ^ 64))) k.phases)) (sym at)
          (still_world x.plan s k (lane_start x.plan l + TAIL) ((reads x.plan s.words l TAIL + CLOSED) % 2 ^ 64) (omega arith)
          (close_jobs x.plan s.words l (subst (λ (z : ℕ). lane_start x.plan l + TAIL < z) (sym k.lanes.kept.long) (lane-inside x.plan l TAIL within (omega arith))))),
      λ known. (refl, refl, refl),
    )))

-- ---- the threads of handles after a step

pub sleeper_still : (plan : Plan) (number : ℕ) (q : Phase) (m now : BothSat) → IsSleeper plan number q m → IsStill m now → IsSleeper plan number q now
sleeper_still plan number q m now is still = record { thread = still.0 ∙ is.thread; no_other = still.1 ∙ is.no_other }

pub producer_still : (plan : Plan) (number : ℕ) (m now : BothSat) → IsProducer plan number m → IsStill m now → IsProducer plan number now
producer_still plan number m now is still = record {
  phase = is.phase;
  may_put = is.may_put;
  no_sleeper = still.0 ∙ is.no_sleeper;
  thread = still.1 ∙ is.thread;
}

-- a producer that has put a job
pub producer_puts : (plan : Plan) (number : ℕ) (m now : BothSat) → IsProducer plan number m → now.0 ≡ goes (put_phase m) (both now.0.known m.0.sleepers m.0.others m.0.deeds) → IsProducer plan number now
producer_puts plan number m now is goes_on = record {
  phase = put_phase m;
  may_put = waking_is MayPut (pool.word_count (workers_of (threads_in m.0))) 0 (λ _. inr (0, refl)) (λ _. inl refl);
  no_sleeper = ap (λ (v : Both). v.sleepers) goes_on ∙ ap (map (in_phase (put_phase m))) is.no_sleeper;
  thread = ap (λ (v : Both). v.others) goes_on ∙ ap (map (in_phase (put_phase m))) is.thread;
}

-- a thread that has looked at each word is idle
pub over_idle : (n b : ℕ) → n ≤ b → waking n b ≡ Idle
over_idle n b all = waking_is (λ (p : Phase). p ≡ Idle) n b (λ low. absurd (omega (arith, low, all))) (λ _. refl)

-- one that has not is not
pub under_waking : (n b : ℕ) → b < n → waking n b ≡ Waking b
under_waking n b more = waking_is (λ (p : Phase). p ≡ Waking b) n b (λ _. refl) (λ all. absurd (omega (arith, more, all)))

-- ---- a producer that wakes one

-- the handle's seat, whatever its thread does
pub record ProducerAt (plan : Plan) (number seen : ℕ) (q : Phase) (m : BothSat) : Type 0 where
  pub lane : IsLane plan number seen (known_sat m)
  pub no_sleeper : m.0.sleepers ≡ []
  pub thread : m.0.others ≡ thread_at plan q (producer_of plan number) ∷ []

pub producer_first : (plan : Plan) (number seen : ℕ) (m : BothSat) → IsLane plan number seen (known_sat m) → (is : IsProducer plan number m) → ProducerAt plan number seen is.phase m
producer_first plan number seen m lane is = record { lane = lane; no_sleeper = is.no_sleeper; thread = is.thread }

pub producer_next : (plan : Plan) (number seen : ℕ) (p q : Phase) (m now : BothSat) → ProducerAt plan number seen p m → now ≡ moved goes q m → ProducerAt plan number seen q now
producer_next plan number seen p q m now at moves = record {
  lane = subst (IsLane plan number seen) (sym (ap known_sat moves)) at.lane;
  no_sleeper = ap (λ (z : BothSat). z.0.sleepers) moves ∙ ap (map (in_phase q)) at.no_sleeper;
  thread = ap (λ (z : BothSat). z.0.others) moves ∙ ap (map (in_phase q)) at.thread;
}

pub producer_noted : (plan : Plan) (number seen : ℕ) (q : Phase) (d : WakeDeed) (m now : BothSat) → ProducerAt plan number seen q m → now ≡ noting noted d m → ProducerAt plan number seen q now
producer_noted plan number seen q d m now at notes = record {
  lane = subst (IsLane plan number seen) (sym (ap known_sat notes)) at.lane;
  no_sleeper = ap (λ (z : BothSat). z.0.sleepers) notes ∙ at.no_sleeper;
  thread = ap (λ (z : BothSat). z.0.others) notes ∙ at.thread;
}

pub producer_last : (plan : Plan) (number seen : ℕ) (q : Phase) (m : BothSat) → ProducerAt plan number seen q m → MayPut q
    → IsLane plan number seen (known_sat m) × IsProducer plan number m × (phase_in m.0.others ≡ q)
producer_last plan number seen q m at may_put = (at.lane, record { phase = q; may_put = may_put; no_sleeper = at.no_sleeper; thread = at.thread }, ap phase_in at.thread)

pub producer_in : (plan p key : Plan) (number seen : ℕ) (q : Phase) (m : BothSat) → ProducerAt plan number seen q m → plan ≡ p → key ≡ p → IsIn (threads_in m.0) p.sleepers key.sizes.lanes q
producer_in plan p key number seen q m at same of_key =
    let is : threads_in m.0 ≡ thread_at plan q (producer_of plan number) ∷ [] = λ j. at.no_sleeper j ++ at.thread j in
    subst (λ (z : Plan). IsIn (threads_in m.0) p.sleepers z.sizes.lanes q) (sym of_key)
    (subst (λ (z : Plan). IsIn (threads_in m.0) z.sleepers z.sizes.lanes q) same
    (is ∙ ap (λ (z : ℕ). thread_at plan q z ∷ []) (sym (ap number_of is))))

-- ---- threads are dealt out

next_thread : {R : Type 0} (g : ℕ → R) (a b n k : ℕ) → n ≡ suc k → a + 1 ≡ b → (rest_of (numbered_from g a n) ≡ numbered_from g b k) × (first_of (numbered_from g a n) ≡ g a ∷ [])
next_thread g a b n k more next = (ap (λ (x : ℕ). rest_of (numbered_from g a x)) more ∙ ap (λ (x : ℕ). numbered_from g x k) next, ap (λ (x : ℕ). first_of (numbered_from g a x)) more)

pub dealt_producer : (plan : Plan) (a b : ℕ) (m n d : BothSat) → AreIdle plan a b m → a < plan.sizes.lanes → n ≡ (without_lane_both m.0, m.1) → d ≡ (lane_alone_both m.0, [])
    → AreIdle plan (a + 1) b n × IsProducer plan a d
dealt_producer plan a b m n d is low now alone =
    let cut = next_thread (thread_at plan Idle) (producer_of plan a) (producer_of plan (a + 1)) ((plan.sizes.lanes + 1) - a) ((plan.sizes.lanes + 1) - (a + 1)) (omega (arith, low)) (omega arith) in (
      record {
        sleepers = ap (λ (z : BothSat). z.0.sleepers) now ∙ is.sleepers;
        others = ap (λ (z : BothSat). z.0.others) now ∙ ap (λ (rs : List ThreadRecord). rest_of rs) is.others ∙ cut.0;
      },
      record {
        phase = Idle;
        may_put = inl refl;
        no_sleeper = ap (λ (z : BothSat). z.0.sleepers) alone;
        thread = ap (λ (z : BothSat). z.0.others) alone ∙ ap (λ (rs : List ThreadRecord). first_of rs) is.others ∙ cut.1;
      },
    )

pub dealt_sleeper : (plan : Plan) (a b : ℕ) (m n d : BothSat) → AreIdle plan a b m → b < plan.sizes.workers → n ≡ (without_worker_both m.0, m.1) → d ≡ (worker_alone_both m.0, [])
    → AreIdle plan a (b + 1) n × IsSleeper plan b Idle d
dealt_sleeper plan a b m n d is low now alone =
    let cut = next_thread (thread_at plan Idle) b (b + 1) (plan.sizes.workers - b) (plan.sizes.workers - (b + 1)) (omega (arith, low)) refl in (
      record {
        sleepers = ap (λ (z : BothSat). z.0.sleepers) now ∙ ap (λ (rs : List ThreadRecord). rest_of rs) is.sleepers ∙ cut.0;
        others = ap (λ (z : BothSat). z.0.others) now ∙ is.others;
      },
      record {
        thread = ap (λ (z : BothSat). z.0.sleepers) alone ∙ ap (λ (rs : List ThreadRecord). first_of rs) is.sleepers ∙ cut.1;
        no_other = ap (λ (z : BothSat). z.0.others) alone;
      },
    )

pub dealt_idle : (plan : Plan) (a b : ℕ) (m d : BothSat) → AreIdle plan a b m → a < plan.sizes.lanes → d ≡ (lane_alone_both m.0, []) → phase_in d.0.others ≡ Idle
dealt_idle plan a b m d is low alone =
    let cut = next_thread (thread_at plan Idle) (producer_of plan a) (producer_of plan (a + 1)) ((plan.sizes.lanes + 1) - a) ((plan.sizes.lanes + 1) - (a + 1)) (omega (arith, low)) (omega arith) in
    ap phase_in (ap (λ (z : BothSat). z.0.others) alone ∙ ap (λ (rs : List ThreadRecord). first_of rs) is.others ∙ cut.1)

-- ---- a worker that may sleep goes on to a phase

pub record GoesOn (plan : Plan) (number : ℕ) (tails : List ℕ) (q : Phase) (now : BothSat) : Type 0 where
  pub handle : IsWorker plan number tails (known_sat now) × IsSleeper plan number (phase_in now.0.sleepers) now
  pub phase : phase_in now.0.sleepers ≡ q

pub goes_on : (plan : Plan) (number : ℕ) (tails : List ℕ) (p q : Phase) (m now : BothSat) → IsWorker plan number tails (known_sat m) → IsSleeper plan number p m → now ≡ moved goes q m → GoesOn plan number tails q now
goes_on plan number tails p q m now worker is moves =
    let sleepers : now.0.sleepers ≡ thread_at plan q number ∷ [] = ap (λ (z : BothSat). z.0.sleepers) moves ∙ ap (map (in_phase q)) is.thread in
    let others : now.0.others ≡ [] = ap (λ (z : BothSat). z.0.others) moves ∙ ap (map (in_phase q)) is.no_other in
    let phase : phase_in now.0.sleepers ≡ q = ap phase_in sleepers in
    record {
      handle = (
        subst (IsWorker plan number tails) (sym (ap known_sat moves)) worker,
        record { thread = sleepers ∙ ap (λ (z : Phase). thread_at plan z number ∷ []) (sym phase); no_other = others },
      );
      phase = phase;
    }

-- it leaves a note too
pub goes_on_noted : (plan : Plan) (number : ℕ) (tails : List ℕ) (p q : Phase) (d : WakeDeed) (m now : BothSat) → IsWorker plan number tails (known_sat m) → IsSleeper plan number p m → now ≡ noting noted d (moved goes q m) → GoesOn plan number tails q now
goes_on_noted plan number tails p q d m now worker is moves =
    subst (GoesOn plan number tails q) (sym moves)
    (let goes_there = goes_on plan number tails p q m (moved goes q m) worker is refl in
    record {
      handle = (goes_there.handle.0, record { thread = goes_there.handle.1.thread; no_other = goes_there.handle.1.no_other });
      phase = goes_there.phase;
    })

-- the word of an outcome
abbrev left_in : Wake → ℕ
left_in (Again b) = b
left_in _ = 0

pub same_left : (a b : ℕ) → ◌≡◌ {A = Wake} (Again a) (Again b) → a ≡ b
same_left a b same = ap left_in same
