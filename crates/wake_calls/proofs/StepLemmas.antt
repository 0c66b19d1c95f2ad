-- Each step keeps the rule of its table.
use Rattle.std.proofs.Common.{◌≡◌, ◌≢◌, ℕ, ◌+◌, ◌*◌, ◌/◌, ◌%◌, ◌^◌, ◌<◌, ◌≤◌, ◌⊎◌, inl, inr, Bool, true, false, eqb, List, [], ◌∷◌, length, get_or, bit_or, bit_and, bit_xor, refl, sym, ◌∙◌, ap, subst, subst₂, arith}
use Rattle.std.proofs.Common as common
use Rattle.std.specs.Int.{bit_at, bit_not}
use mathlib.Core.Logic.{dite}
use mathlib.Core.Option.{some, none}
use mir.Syntax.{w64}
use native.Mathlib.Decide.{ℕ_discrete}
use prog.Atomic.{either}
use lib.ListN.{get_elem?}
use lib.Seq.{set-get_or}
use Rattle.std.proofs.lemmas.Bool.{cases_eq}
use Rattle.std.proofs.lemmas.Nat.Bits.{bit_at-zero}
use Rattle.atomic_table.specs.Table.{State, Me, Act, Step, keeps, Valid, Allows, step, stepped, carried_after}
use Rattle.atomic_table.proofs.Lists.{exchanged}
use Rattle.wake_pool.specs.declared.layout.TheConstants.{WORD_WORKERS, SEARCH}
use Rattle.wake_pool.specs.declared.phase.WakePhase.{WakePhase as Phase}
use Rattle.wake_pool.specs.declared.phase.WakePhase.TheVariants.{Idle, Waking, Giving, Calling, Searching, Found, Returning, Reading, Called, Checking, Parked}
use Rattle.wake_pool.specs.Schedule as machine
use Rattle.wake_pool.specs.Schedule.{waking, looking, resting}
use Rattle.wake_pool.specs.Words.{word_count, word_of, bit_of, token_at, mail_at, base, world_of}
use Rattle.wake_pool.specs.Inner.Bits.{one_bit, claimed, left, rested, risen, turned, woken}
use Rattle.wake_pool.specs.Inner.Invariant.{IsSound}
use Rattle.wake_pool.proofs.SetLemmas.{set_same}
use Rattle.wake_pool.proofs.WorldLemmas.{bit_low, same_bit}
use Rattle.wake_pool.proofs.BitLemmas.{Turns, woken_turns}
use Rattle.wake_pool.proofs.WordLemmas as words
use Rattle.wake_calls.specs.declared.deed.WakeDeed.{WakeDeed}
use Rattle.wake_calls.specs.declared.deed.WakeDeed.TheVariants.{Gave, RoseForCall, TookCall}
use Rattle.wake_calls.specs.declared.rule.ThreadRecord.{ThreadRecord}
use Rattle.wake_calls.specs.Pool.{IsPool, PoolLaw}
use Rattle.wake_calls.specs.Thread.{thread, number_of, moved, noting}
use Rattle.wake_calls.specs.Inner.Steps.{first_in, goes_by, workers_of, to_of, claims_at, rests_at, leaves_at, notices_at, wakes_at, gives_at, stays_at, returns_at, reads_at, rises_at, checks_at, waits_at, calls_at, rings_at, takes_call_at, finds_call_at}

-- the thread of a seat
abbrev record_of : ℕ → ℕ → ℕ → Phase → ThreadRecord
record_of t w l p = record { number = t; phase = p; workers = w; lanes = l }

module _ {V K : Type 0} (threads : V → List ThreadRecord) (goes : Phase → V → V)
    (noted : WakeDeed → V → V) (holds : K → State (Unit {0}) V → Type 0) (workers lanes : K → ℕ)
    (law : PoolLaw threads goes noted holds workers lanes) (k : K) where
  abbrev Sat : Type 0
  Sat = Me (Unit {0}) V

  abbrev St : Type 0
  St = State (Unit {0}) V

  -- what a state is to a step that finds the thread t in phase p
  record Local (w l t : ℕ) (p : Phase) (s : St) : Type 0 where
    pub pool : IsPool threads goes noted (holds k) w l s
    pub phase_is : pool.phases t ≡ p

  local : (s : St) → holds k s → (id : ℕ) (m : Sat) (t w l : ℕ) (p : Phase)
      → get_elem? s.views id ≡ some m.0
      → threads m.0 ≡ thread t w l p
      → Local w l t p s
  local s h id m t w l p me is =
      let here : IsPool threads goes noted (holds k) (workers k) (lanes k) s = law.pool k s h in
      let tie = here.tied id m.0 (record_of t w l p) me is in
      subst₂ (λ (a b : ℕ). Local a b t p s) (sym tie.1) (sym tie.2) (record { pool = here; phase_is = tie.0 })

  -- the seat goes on as its own record says
  pub goes_is : (m : Sat) (t w l : ℕ) (p : Phase) (f : ThreadRecord → Phase)
      → threads m.0 ≡ thread t w l p
      → moved goes (f (record_of t w l p)) m ≡ goes_by threads goes f m
  goes_is m t w l p f is = ap (λ (rs : List ThreadRecord). (goes (f (first_in rs)) m.0, m.1)) (sym is)

  -- the words after a step, in which the seat's thread stays in its phase, or goes on to another
  abbrev Outcome : (w l t : ℕ) (p : Phase) (s : St) → Local w l t p s → ℕ → ℕ → (Sat → Type 0) → Sat → Type 0
  Outcome w l t p s here i y then m =
      (IsSound (world_of w l (common.set s.words i y) here.pool.jobs here.pool.phases) × then m)
      ⊎ ((q : Phase) × IsSound (world_of w l (common.set s.words i y) here.pool.jobs (machine.set here.pool.phases t q)) × then (moved goes q m))

  -- the same, and the step leaves a note
  abbrev Noting : (w l t : ℕ) (p : Phase) (s : St) → Local w l t p s → ℕ → ℕ → (Sat → Type 0) → Sat → Type 0
  Noting w l t p s here i y then m =
      (q : Phase) × (d : WakeDeed) × IsSound (world_of w l (common.set s.words i y) here.pool.jobs (machine.set here.pool.phases t q)) × then (noting noted d (moved goes q m))

  any_to : (n id : ℕ) (m : Sat) (t w l : ℕ) (p : Phase) (i : ℕ) (g : ℕ → ℕ) (then : ℕ → Sat → Type 0)
      → threads m.0 ≡ thread t w l p
      → i < base w
      → ((s : St) (here : Local w l t p s)
      → Outcome w l t p s here i (g (get_or s.words i 0)) (then (get_or s.words i 0)) m ⊎ Noting w l t p s here i (g (get_or s.words i 0)) (then (get_or s.words i 0)) m)
      → Allows (holds k) n id m i g then
  any_to n id m t w l p i g then is inside decide s h homes me small =
      let here : Local w l t p s = local s h id m t w l p me is in
      turn here (decide s here)
    where
      r : ThreadRecord
      r = record_of t w l p

      one : goes p m.0 ≡ m.0
      one = law.same m.0 r is

      turn : (here : Local w l t p s)
          → Outcome w l t p s here i (g (get_or s.words i 0)) (then (get_or s.words i 0)) m ⊎ Noting w l t p s here i (g (get_or s.words i 0)) (then (get_or s.words i 0)) m
          → (v : V) × (a : Act (Unit {0})) × Valid s.homes m.1 a × holds k (stepped s i (g (get_or s.words i 0)) id m.1 v a) × then (get_or s.words i 0) (v, carried_after m.1 a)
      turn here (inl (inl (sound, told))) = (
        m.0,
        keeps,
        tt,
        subst (λ (v : V). holds k (stepped s i (g (get_or s.words i 0)) id [] v keeps)) one
            (here.pool.moves id m.0 r p i (g (get_or s.words i 0)) me is inside
            (subst (λ (P : ℕ → Phase). IsSound (world_of w l (common.set s.words i (g (get_or s.words i 0))) here.pool.jobs P))
            (λ j u. sym (set_same here.pool.phases t p here.phase_is u) j) sound)),
        told,
      )
      turn here (inl (inr (q, sound, told))) = (
        goes q m.0,
        keeps,
        tt,
        here.pool.moves id m.0 r q i (g (get_or s.words i 0)) me is inside sound,
        told,
      )
      turn here (inr (q, d, sound, told)) = (
        noted d (goes q m.0),
        keeps,
        tt,
        here.pool.notes id m.0 r q d i (g (get_or s.words i 0)) me is inside sound,
        told,
      )

  step_to : (n id : ℕ) (m : Sat) (t w l : ℕ) (p : Phase) (i : ℕ) (g : ℕ → ℕ) (then : ℕ → Sat → Type 0)
      → threads m.0 ≡ thread t w l p
      → i < base w
      → ((s : St) (here : Local w l t p s) → Outcome w l t p s here i (g (get_or s.words i 0)) (then (get_or s.words i 0)) m)
      → Allows (holds k) n id m i g then
  step_to n id m t w l p i g then is inside decide = any_to n id m t w l p i g then is inside (λ s here. inl (decide s here))

  note_to : (n id : ℕ) (m : Sat) (t w l : ℕ) (p : Phase) (i : ℕ) (g : ℕ → ℕ) (then : ℕ → Sat → Type 0)
      → threads m.0 ≡ thread t w l p
      → i < base w
      → ((s : St) (here : Local w l t p s) → Noting w l t p s here i (g (get_or s.words i 0)) (then (get_or s.words i 0)) m)
      → Allows (holds k) n id m i g then
  note_to n id m t w l p i g then is inside decide = any_to n id m t w l p i g then is inside (λ s here. inr (decide s here))

  -- the word is only read
  read_to : (n id : ℕ) (m : Sat) (t w l : ℕ) (p : Phase) (i : ℕ) (then : ℕ → Sat → Type 0)
      → threads m.0 ≡ thread t w l p
      → i < base w
      → ((s : St) (here : Local w l t p s)
      → then (get_or s.words i 0) m
      ⊎ ((q : Phase) × IsSound (world_of w l s.words here.pool.jobs (machine.set here.pool.phases t q)) × then (get_or s.words i 0) (moved goes q m)))
      → Allows (holds k) n id m i (λ x. x) then
  read_to n id m t w l p i then is inside decide = step_to n id m t w l p i (λ x. x) then is inside
      (λ s here. elim (decide s here) [
        | inl told ↦ inl (subst (λ (ws : List ℕ). IsSound (world_of w l ws here.pool.jobs here.pool.phases)) (sym (set-get_or s.words i 0)) here.pool.sound, told)
        | inr (q, sound, told) ↦ inr (q, subst (λ (ws : List ℕ). IsSound (world_of w l ws here.pool.jobs (machine.set here.pool.phases t q))) (sym (set-get_or s.words i 0)) sound, told)
      ])

  -- the word is exchanged, if it is what it was seen to be
  exchange_to : (n id : ℕ) (m : Sat) (t w l : ℕ) (p : Phase) (i seen new : ℕ) (then : ℕ → Sat → Type 0)
      → threads m.0 ≡ thread t w l p
      → i < base w
      → ((s : St) (here : Local w l t p s) → get_or s.words i 0 ≡ seen → Outcome w l t p s here i new (then (get_or s.words i 0)) m)
      → ((s : St) → get_or s.words i 0 ≢ seen → then (get_or s.words i 0) m)
      → Allows (holds k) n id m i (λ x. either (eqb x seen) new x) then
  exchange_to n id m t w l p i seen new then is inside hit miss = step_to n id m t w l p i (λ x. either (eqb x seen) new x) then is inside
      (λ s here. exchanged (get_or s.words i 0) seen new (λ y. Outcome w l t p s here i y (then (get_or s.words i 0)) m)
      (λ same. hit s here same)
      (λ other. inl (subst (λ (ws : List ℕ). IsSound (world_of w l ws here.pool.jobs here.pool.phases)) (sym (set-get_or s.words i 0)) here.pool.sound, miss s other)))

  abbrev Telling : Type 1
  Telling = Step (Unit {0}) → Sat → ℕ → Sat → Type 0

  -- the word by another name
  by_name : (tell : Telling) (g : ℕ → ℕ) (a b n id : ℕ) (m : Sat) (i j : ℕ) → i ≡ j
      → Allows (holds k) n id m j g (tell (step n j a b none) m)
      → Allows (holds k) n id m i g (tell (step n i a b none) m)
  by_name tell g a b n id m i j same allowed =
      subst (λ (x : ℕ). Allows (holds k) n id m x g (tell (step n x a b none) m)) (sym same) allowed

  -- the same of a store
  store_by_name : (tell : Telling) (y n id : ℕ) (m : Sat) (i j : ℕ) → i ≡ j
      → Allows (holds k) n id m j (λ _. y) (λ _. tell (step n j y 0 none) m y)
      → Allows (holds k) n id m i (λ _. y) (λ _. tell (step n i y 0 none) m y)
  store_by_name tell y n id m i j same allowed =
      subst (λ (x : ℕ). Allows (holds k) n id m x (λ _. y) (λ _. tell (step n x y 0 none) m y)) (sym same) allowed

  -- a bit of a number is 1 or 0
  off_bit : (found i : ℕ) → bit_at found i ≡ 0 → bit_at found i ≢ 1
  off_bit found i off on = omega (arith, off, on)

  -- ---- the steps on words of sleepers

  module _ (n id : ℕ) (m : Sat) (t w l i : ℕ) where
    -- the bit of the seat's thread
    own : (found : ℕ) (p : Phase) → threads m.0 ≡ thread t w l p
        → bit_at found (bit_of t) ≡ 1 → bit_at found (bit_of (number_of (threads m.0))) ≡ 1
    own found p is on = ap (λ (rs : List ThreadRecord). bit_at found (bit_of (number_of rs))) is ∙ on

    owned : (found : ℕ) (p : Phase) → threads m.0 ≡ thread t w l p
        → bit_at found (bit_of (number_of (threads m.0))) ≡ 1 → bit_at found (bit_of t) ≡ 1
    owned found p is on = sym (ap (λ (rs : List ThreadRecord). bit_at found (bit_of (number_of rs))) is) ∙ on

    pub claim_step : i ≡ word_of t → threads m.0 ≡ thread t w l Idle → t < w
        → Allows (holds k) n id m i claimed (claims_at threads goes (step n i SEARCH 0 none) m)
    claim_step at is there = by_name (claims_at threads goes) claimed SEARCH 0 n id m i (word_of t) at
        (step_to n id m t w l Idle (word_of t) claimed (claims_at threads goes (step n (word_of t) SEARCH 0 none) m) is (omega (arith, there))
        (λ s here. dite (ℕ_discrete (bit_at (get_or s.words (word_of t) 0) WORD_WORKERS) 1)
        (λ on. inl (words.claims_not w l s.words here.pool.jobs here.pool.phases here.pool.sound here.pool.long t there on, (λ _. refl, λ off. absurd (off on))))
        (λ off. inr (Searching, words.claims w l s.words here.pool.jobs here.pool.phases here.pool.sound here.pool.long t there here.phase_is off, (λ on. absurd (off on), λ _. refl)))))

    rest_step_here : i ≡ word_of t → threads m.0 ≡ thread t w l Idle → t < w
        → Allows (holds k) n id m i (rested (bit_of t)) (rests_at threads goes (step n i (one_bit (bit_of t)) 0 none) m)
    rest_step_here at is there = by_name (rests_at threads goes) (rested (bit_of t)) (one_bit (bit_of t)) 0 n id m i (word_of t) at
        (step_to n id m t w l Idle (word_of t) (rested (bit_of t)) (rests_at threads goes (step n (word_of t) (one_bit (bit_of t)) 0 none) m) is (omega (arith, there))
        (λ s here. inr (
          resting l 0,
          words.rests w l s.words here.pool.jobs here.pool.phases here.pool.sound here.pool.long t there here.phase_is,
          goes_is m t w l Idle (λ r. resting r.lanes 0) is,
        )))

    lie_down_step_here : i ≡ word_of t → threads m.0 ≡ thread t w l Searching → t < w
        → Allows (holds k) n id m i (turned (bit_of t)) (rests_at threads goes (step n i (bit_or SEARCH (one_bit (bit_of t))) 0 none) m)
    lie_down_step_here at is there = by_name (rests_at threads goes) (turned (bit_of t)) (bit_or SEARCH (one_bit (bit_of t))) 0 n id m i (word_of t) at
        (step_to n id m t w l Searching (word_of t) (turned (bit_of t)) (rests_at threads goes (step n (word_of t) (bit_or SEARCH (one_bit (bit_of t))) 0 none) m) is (omega (arith, there))
        (λ s here. inr (
          resting l 0,
          words.lies_down w l s.words here.pool.jobs here.pool.phases here.pool.sound here.pool.long t there here.phase_is,
          goes_is m t w l Searching (λ r. resting r.lanes 0) is,
        )))

    pub leave_step : i ≡ word_of t → threads m.0 ≡ thread t w l Found → t < w
        → Allows (holds k) n id m i left (leaves_at threads goes (step n i (bit_not w64 SEARCH) 0 none) m)
    leave_step at is there = by_name (leaves_at threads goes) left (bit_not w64 SEARCH) 0 n id m i (word_of t) at
        (step_to n id m t w l Found (word_of t) left (leaves_at threads goes (step n (word_of t) (bit_not w64 SEARCH) 0 none) m) is (omega (arith, there))
        (λ s here. inr (
          looking l 0,
          words.leaves w l s.words here.pool.jobs here.pool.phases here.pool.sound here.pool.long t there here.phase_is,
          goes_is m t w l Found (λ r. looking r.lanes 0) is,
        )))

    pub notice_step : threads m.0 ≡ thread t w l (Waking i) → i < word_count w
        → Allows (holds k) n id m i (λ x. x) (notices_at threads goes (step n i 0 0 none) m)
    notice_step is there = read_to n id m t w l (Waking i) i (notices_at threads goes (step n i 0 0 none) m) is (omega (arith, there))
        (λ s here. dite (ℕ_discrete (bit_at (get_or s.words i 0) WORD_WORKERS) 1)
        (λ on. inr (
          Idle,
          words.notices w l s.words here.pool.jobs here.pool.phases here.pool.sound here.pool.long t i there here.phase_is on,
          (λ _. refl, λ none. absurd (omega (arith, on, ap (λ f. bit_at f WORD_WORKERS) none, bit_at-zero WORD_WORKERS)), λ off. absurd (off on), marks s here),
        ))
        (λ off. dite (ℕ_discrete (get_or s.words i 0) 0)
        (λ none. inr (
          waking (word_count w) (i + 1),
          words.notices_none w l s.words here.pool.jobs here.pool.phases here.pool.sound here.pool.long t i here.phase_is none,
          (λ on. absurd (off on), λ _. goes_is m t w l (Waking i) (λ r. waking (word_count r.workers) (i + 1)) is, λ _ some. absurd (some none), marks s here),
        ))
        (λ some. inl (λ on. absurd (off on), λ none. absurd (some none), λ _ _. refl, marks s here))))
      where
        marks : (s : St) → Local w l t (Waking i) s → (x : ℕ) → word_of x ≡ i → bit_at (get_or s.words i 0) (bit_of x) ≡ 1 → x < workers_of (threads m.0)
        marks s here x word on = let many : workers_of (threads m.0) ≡ w = ap workers_of is in
            let low : x < w = words.marked w l s.words here.pool.jobs here.pool.phases here.pool.sound here.pool.long x (omega (arith, word, there)) (ap (λ (j : ℕ). bit_at (get_or s.words j 0) (bit_of x)) word ∙ on) in
            omega (arith, many, low)

    pub stay_step : i ≡ word_of t → threads m.0 ≡ thread t w l Returning → t < w
        → Allows (holds k) n id m i (λ x. x) (stays_at threads goes (step n i 0 0 none) m)
    stay_step at is there = by_name (stays_at threads goes) (λ x. x) 0 0 n id m i (word_of t) at
        (read_to n id m t w l Returning (word_of t) (stays_at threads goes (step n (word_of t) 0 0 none) m) is (omega (arith, there))
        (λ s here. dite (ℕ_discrete (bit_at (get_or s.words (word_of t) 0) WORD_WORKERS) 1)
        (λ on. inr (
          Reading,
          words.stays w l s.words here.pool.jobs here.pool.phases here.pool.sound here.pool.long t there here.phase_is (inl on),
          (λ _. refl, λ _. refl, λ off. absurd (off on)),
        ))
        (λ off. dite (ℕ_discrete (bit_at (get_or s.words (word_of t) 0) (bit_of t)) 1)
        (λ set. inl (λ on. absurd (off on), λ clear. absurd (clear (own (get_or s.words (word_of t) 0) Returning is set)), λ _ _. refl))
        (λ clear. inr (
          Reading,
          words.stays w l s.words here.pool.jobs here.pool.phases here.pool.sound here.pool.long t there here.phase_is (inr clear),
          (λ on. absurd (off on), λ _. refl, λ _ set. absurd (clear (owned (get_or s.words (word_of t) 0) Returning is set))),
        )))))

    come_back_step_here : (seen : ℕ) → i ≡ word_of t → threads m.0 ≡ thread t w l Returning → t < w
        → bit_at seen WORD_WORKERS ≢ 1
        → Allows (holds k) n id m i (λ x. either (eqb x seen) (woken (bit_of t) seen) x) (returns_at threads goes (step n i seen (woken (bit_of t) seen) none) m)
    come_back_step_here seen at is there free = by_name (returns_at threads goes) (λ x. either (eqb x seen) (woken (bit_of t) seen) x) seen (woken (bit_of t) seen) n id m i (word_of t) at
        (exchange_to n id m t w l Returning (word_of t) seen (woken (bit_of t) seen) (returns_at threads goes (step n (word_of t) seen (woken (bit_of t) seen) none) m) is (omega (arith, there))
        (λ s here same. inr (
          Searching,
          subst (λ (f : ℕ). IsSound (world_of w l (common.set s.words (word_of t) (woken (bit_of t) f)) here.pool.jobs (machine.set here.pool.phases t Searching))) same
              (words.comes_back w l s.words here.pool.jobs here.pool.phases here.pool.sound here.pool.long t there here.phase_is (λ on. free (ap (λ f. bit_at f WORD_WORKERS) (sym same) ∙ on))),
          (λ _. refl, λ other. absurd (other same)),
        ))
        (λ s other. (λ same. absurd (other same), λ _. refl)))

    rise_step_here : i ≡ word_of t → threads m.0 ≡ thread t w l Called → t < w
        → Allows (holds k) n id m i (risen (bit_of t)) (rises_at threads goes noted (step n i (bit_not w64 (one_bit (bit_of t))) 0 none) m)
    rise_step_here at is there = by_name (rises_at threads goes noted) (risen (bit_of t)) (bit_not w64 (one_bit (bit_of t))) 0 n id m i (word_of t) at
        (any_to n id m t w l Called (word_of t) (risen (bit_of t)) (rises_at threads goes noted (step n (word_of t) (bit_not w64 (one_bit (bit_of t))) 0 none) m) is (omega (arith, there))
        (λ s here. dite (ℕ_discrete (bit_at (get_or s.words (word_of t) 0) (bit_of t)) 1)
        (λ set. inr (
          Idle,
          RoseForCall,
          words.rises w l s.words here.pool.jobs here.pool.phases here.pool.sound here.pool.long t there here.phase_is set,
          (λ _. refl, λ clear. absurd (clear (own (get_or s.words (word_of t) 0) Called is set))),
        ))
        (λ clear. inl (inr (
          Found,
          words.rises_found w l s.words here.pool.jobs here.pool.phases here.pool.sound here.pool.long t there here.phase_is clear,
          (λ set. absurd (clear (owned (get_or s.words (word_of t) 0) Called is set)), λ _. refl),
        )))))

    pub check_step : i ≡ word_of t → threads m.0 ≡ thread t w l Checking → t < w
        → Allows (holds k) n id m i (λ x. x) (checks_at threads goes (step n i 0 0 none) m)
    check_step at is there = by_name (checks_at threads goes) (λ x. x) 0 0 n id m i (word_of t) at
        (read_to n id m t w l Checking (word_of t) (checks_at threads goes (step n (word_of t) 0 0 none) m) is (omega (arith, there))
        (λ s here. dite (ℕ_discrete (bit_at (get_or s.words (word_of t) 0) (bit_of t)) 1)
        (λ set. inr (
          Parked,
          words.checks w l s.words here.pool.jobs here.pool.phases here.pool.sound here.pool.long t there here.phase_is set,
          (λ _. refl, λ clear. absurd (clear (own (get_or s.words (word_of t) 0) Checking is set))),
        ))
        (λ clear. inr (
          Searching,
          words.checks_woken w l s.words here.pool.jobs here.pool.phases here.pool.sound here.pool.long t there here.phase_is clear,
          (λ set. absurd (clear (owned (get_or s.words (word_of t) 0) Checking is set)), λ _. refl),
        ))))

    -- x is the thread that is woken
    wake_step_here : (seen x : ℕ) → i ≡ word_of x → threads m.0 ≡ thread t w l (Waking (word_of x)) → x < w
        → bit_at seen WORD_WORKERS ≢ 1 → bit_at seen (bit_of x) ≡ 1
        → Allows (holds k) n id m i (λ f. either (eqb f seen) (woken (bit_of x) seen) f) (wakes_at threads goes (step n i seen (woken (bit_of x) seen) none) m)
    wake_step_here seen x at is there free sleeps = by_name (wakes_at threads goes) (λ f. either (eqb f seen) (woken (bit_of x) seen) f) seen (woken (bit_of x) seen) n id m i (word_of x) at
        (exchange_to n id m t w l (Waking (word_of x)) (word_of x) seen (woken (bit_of x) seen) (wakes_at threads goes (step n (word_of x) seen (woken (bit_of x) seen) none) m) is (omega (arith, there))
        (λ s here same. inr (
          Giving x,
          subst (λ (f : ℕ). IsSound (world_of w l (common.set s.words (word_of x) (woken (bit_of x) f)) here.pool.jobs (machine.set here.pool.phases t (Giving x)))) same
              (words.wakes w l s.words here.pool.jobs here.pool.phases here.pool.sound here.pool.long t x there here.phase_is
              (λ on. free (ap (λ f. bit_at f WORD_WORKERS) (sym same) ∙ on)) (ap (λ f. bit_at f (bit_of x)) same ∙ sleeps)),
          (λ _ y word set made. ap (λ (z : ℕ). moved goes (Giving z) m) (only y word set made), λ other. absurd (other same)),
        ))
        (λ s other. (λ same. absurd (other same), λ _. refl)))
      where
        cleared : (y : ℕ) → bit_of y ≢ bit_of x → bit_at seen (bit_of y) ≡ 1 → woken (bit_of x) seen ≡ woken (bit_of y) seen
            → Turns seen (woken (bit_of x) seen) (bit_of x) 0 1 → Turns seen (woken (bit_of y) seen) (bit_of y) 0 1 → ⊥
        cleared y other set made a b = omega (arith, set, a.others (bit_of y) (bit_low y) other, b.own, ap (λ f. bit_at f (bit_of y)) made)

        -- two wakes that leave one word clear one bit
        only : (y : ℕ) → word_of y ≡ word_of x → bit_at seen (bit_of y) ≡ 1 → woken (bit_of x) seen ≡ woken (bit_of y) seen → x ≡ y
        only y word set made = elim (cases_eq (bit_of y) (bit_of x)) [
          | inl bit ↦ same_bit x y (sym word) (sym bit)
          | inr other ↦ absurd (cleared y other set made (woken_turns seen (bit_of x) (bit_low x)) (woken_turns seen (bit_of y) (bit_low y)))
        ]

    -- ---- tokens and mailboxes

    pub give_step : (x : ℕ) → i ≡ token_at w x → threads m.0 ≡ thread t w l (Giving x) → x < w
        → Allows (holds k) n id m i (λ _. 1) (λ _. gives_at threads goes noted (step n i 1 0 none) m 1)
    give_step x at is there = store_by_name (gives_at threads goes noted) 1 n id m i (token_at w x) at
        (note_to n id m t w l (Giving x) (token_at w x) (λ _. 1) (λ _. gives_at threads goes noted (step n (token_at w x) 1 0 none) m 1) is (omega (arith, there))
        (λ s here. (
          Idle,
          Gave x,
          words.gives w l s.words here.pool.jobs here.pool.phases here.pool.sound here.pool.long t x there here.phase_is,
          λ y same. ap (λ (z : ℕ). noting noted (Gave z) (moved goes Idle m)) (only y same),
        )))
      where
        only : (y : ℕ) → token_at (workers_of (threads m.0)) y ≡ token_at w x → x ≡ y
        only y same = omega (arith, same, ap workers_of is)

    pub wait_step : i ≡ token_at w t → threads m.0 ≡ thread t w l Parked → t < w
        → Allows (holds k) n id m i (λ x. either (eqb x 1) 0 x) (waits_at threads goes (step n i 1 0 none) m)
    wait_step at is there = by_name (waits_at threads goes) (λ x. either (eqb x 1) 0 x) 1 0 n id m i (token_at w t) at
        (exchange_to n id m t w l Parked (token_at w t) 1 0 (waits_at threads goes (step n (token_at w t) 1 0 none) m) is (omega (arith, there))
        (λ s here same. inr (Reading, words.waits w l s.words here.pool.jobs here.pool.phases here.pool.sound here.pool.long t there here.phase_is, (λ _. refl, λ other. absurd (other same))))
        (λ s other. (λ same. absurd (other same), λ _. refl)))

    pub call_step : (x : ℕ) → i ≡ mail_at w x → threads m.0 ≡ thread t w l Idle → x < w
        → Allows (holds k) n id m i (λ _. 1) (λ _. calls_at threads goes (step n i 1 0 none) m 1)
    call_step x at is there = store_by_name (calls_at threads goes) 1 n id m i (mail_at w x) at
        (step_to n id m t w l Idle (mail_at w x) (λ _. 1) (λ _. calls_at threads goes (step n (mail_at w x) 1 0 none) m 1) is (omega (arith, there))
        (λ s here. inr (
          Calling x,
          words.calls w l s.words here.pool.jobs here.pool.phases here.pool.sound here.pool.long t x there here.phase_is,
          λ y same. ap (λ (z : ℕ). moved goes (Calling z) m) (only y same),
        )))
      where
        only : (y : ℕ) → mail_at (workers_of (threads m.0)) y ≡ mail_at w x → x ≡ y
        only y same = omega (arith, same, ap workers_of is)

    -- x is the thread that was called
    pub ring_step : (x : ℕ) → i ≡ word_of x → threads m.0 ≡ thread t w l (Calling x) → x < w
        → Allows (holds k) n id m i (λ f. f) (rings_at threads goes (step n i 0 0 none) m)
    ring_step x at is there = by_name (rings_at threads goes) (λ f. f) 0 0 n id m i (word_of x) at
        (read_to n id m t w l (Calling x) (word_of x) (rings_at threads goes (step n (word_of x) 0 0 none) m) is (omega (arith, there))
        (λ s here. dite (ℕ_discrete (bit_at (get_or s.words (word_of x) 0) (bit_of x)) 1)
        (λ set. inr (
          Giving x,
          words.rings w l s.words here.pool.jobs here.pool.phases here.pool.sound here.pool.long t x here.phase_is,
          (λ _. ap (λ (z : ℕ). moved goes (Giving z) m) (sym to), λ clear. absurd (clear (ap (λ (z : ℕ). bit_at (get_or s.words (word_of x) 0) (bit_of z)) to ∙ set))),
        ))
        (λ clear. inr (
          Idle,
          words.rings_not w l s.words here.pool.jobs here.pool.phases here.pool.sound here.pool.long t x there here.phase_is clear,
          (λ set. absurd (clear (sym (ap (λ (z : ℕ). bit_at (get_or s.words (word_of x) 0) (bit_of z)) to) ∙ set)), λ _. refl),
        ))))
      where
        to : to_of (threads m.0) ≡ x
        to = ap to_of is

    pub take_call_step : i ≡ mail_at w t → threads m.0 ≡ thread t w l Idle → t < w
        → Allows (holds k) n id m i (λ _. 0) (λ _. takes_call_at threads goes noted (step n i 0 0 none) m 0)
    take_call_step at is there = store_by_name (takes_call_at threads goes noted) 0 n id m i (mail_at w t) at
        (note_to n id m t w l Idle (mail_at w t) (λ _. 0) (λ _. takes_call_at threads goes noted (step n (mail_at w t) 0 0 none) m 0) is (omega (arith, there))
        (λ s here. (
          Idle,
          TookCall,
          words.answers w l s.words here.pool.jobs here.pool.phases here.pool.sound here.pool.long t there here.phase_is,
          ap (λ (v : V). (noted TookCall v, m.1)) (law.same m.0 (record_of t w l Idle) is),
        )))

    pub find_call_step : i ≡ mail_at w t → threads m.0 ≡ thread t w l Searching → t < w
        → Allows (holds k) n id m i (λ _. 0) (λ _. finds_call_at threads goes noted (step n i 0 0 none) m 0)
    find_call_step at is there = store_by_name (finds_call_at threads goes noted) 0 n id m i (mail_at w t) at
        (note_to n id m t w l Searching (mail_at w t) (λ _. 0) (λ _. finds_call_at threads goes noted (step n (mail_at w t) 0 0 none) m 0) is (omega (arith, there))
        (λ s here. (Found, TookCall, words.answers_found w l s.words here.pool.jobs here.pool.phases here.pool.sound here.pool.long t there here.phase_is, refl)))

    pub read_step : i ≡ mail_at w t → threads m.0 ≡ thread t w l Reading → t < w
        → Allows (holds k) n id m i (λ x. x) (reads_at threads goes (step n i 0 0 none) m)
    read_step at is there = by_name (reads_at threads goes) (λ x. x) 0 0 n id m i (mail_at w t) at
        (read_to n id m t w l Reading (mail_at w t) (reads_at threads goes (step n (mail_at w t) 0 0 none) m) is (omega (arith, there))
        (λ s here. dite (ℕ_discrete (get_or s.words (mail_at w t) 0) 1)
        (λ on. inr (Called, words.reads_call w l s.words here.pool.jobs here.pool.phases here.pool.sound here.pool.long t here.phase_is, (λ _. refl, λ off. absurd (off on))))
        (λ off. inr (Checking, words.reads w l s.words here.pool.jobs here.pool.phases here.pool.sound here.pool.long t there here.phase_is off, (λ on. absurd (off on), λ _. refl)))))

    -- ---- the same, of a bit by another name

    pub rest_step : (bit : ℕ) → bit ≡ bit_of t → i ≡ word_of t → threads m.0 ≡ thread t w l Idle → t < w
        → Allows (holds k) n id m i (rested bit) (rests_at threads goes (step n i (one_bit bit) 0 none) m)
    rest_step bit same at is there = subst (λ (b : ℕ). Allows (holds k) n id m i (rested b) (rests_at threads goes (step n i (one_bit b) 0 none) m)) (sym same) (rest_step_here at is there)

    pub lie_down_step : (bit : ℕ) → bit ≡ bit_of t → i ≡ word_of t → threads m.0 ≡ thread t w l Searching → t < w
        → Allows (holds k) n id m i (turned bit) (rests_at threads goes (step n i (bit_or SEARCH (one_bit bit)) 0 none) m)
    lie_down_step bit same at is there = subst (λ (b : ℕ). Allows (holds k) n id m i (turned b) (rests_at threads goes (step n i (bit_or SEARCH (one_bit b)) 0 none) m)) (sym same) (lie_down_step_here at is there)

    pub rise_step : (bit : ℕ) → bit ≡ bit_of t → i ≡ word_of t → threads m.0 ≡ thread t w l Called → t < w
        → Allows (holds k) n id m i (risen bit) (rises_at threads goes noted (step n i (bit_not w64 (one_bit bit)) 0 none) m)
    rise_step bit same at is there = subst (λ (b : ℕ). Allows (holds k) n id m i (risen b) (rises_at threads goes noted (step n i (bit_not w64 (one_bit b)) 0 none) m)) (sym same) (rise_step_here at is there)

    pub come_back_step : (bit seen : ℕ) → bit ≡ bit_of t → i ≡ word_of t → threads m.0 ≡ thread t w l Returning → t < w
        → bit_at seen WORD_WORKERS ≢ 1
        → Allows (holds k) n id m i (λ x. either (eqb x seen) (woken bit seen) x) (returns_at threads goes (step n i seen (woken bit seen) none) m)
    come_back_step bit seen same at is there free = subst (λ (b : ℕ). Allows (holds k) n id m i (λ x. either (eqb x seen) (woken b seen) x) (returns_at threads goes (step n i seen (woken b seen) none) m)) (sym same) (come_back_step_here seen at is there free)

    pub wake_step : (bit seen x : ℕ) → bit ≡ bit_of x → i ≡ word_of x → threads m.0 ≡ thread t w l (Waking (word_of x)) → x < w
        → bit_at seen WORD_WORKERS ≢ 1 → bit_at seen (bit_of x) ≡ 1
        → Allows (holds k) n id m i (λ f. either (eqb f seen) (woken bit seen) f) (wakes_at threads goes (step n i seen (woken bit seen) none) m)
    wake_step bit seen x same at is there free sleeps = subst (λ (b : ℕ). Allows (holds k) n id m i (λ f. either (eqb f seen) (woken b seen) f) (wakes_at threads goes (step n i seen (woken b seen) none) m)) (sym same) (wake_step_here seen x at is there free sleeps)
