-- After each atomic step on a table the invariant of its world holds. A step on a lane changes a
-- word from `base` on, and the number of jobs as the lane's own rule says.
use Rattle.std.proofs.Common.{◌≡◌, ◌≢◌, ℕ, ◌+◌, ◌-◌, ◌*◌, ◌/◌, ◌%◌, ◌<◌, ◌≤◌, Bool, true, false, cond, eqb, ltb, List, length, get_or, refl, sym, ◌∙◌, ap, subst, inl, inr, ◌⊎◌, arith, true≢false}
use Rattle.std.proofs.Common as common
use Rattle.std.proofs.lemmas.Bool.{cases_eq, eq-eqb, ne_eqb, eqb-true}
use Rattle.std.proofs.lemmas.Nat.Bits.{bit_at-zero, bit_at-lt}
use Rattle.std.specs.Int.{bit_at}
use Rattle.wake_pool.specs.declared.layout.TheConstants.{WORD_WORKERS}
use Rattle.wake_pool.specs.declared.phase.WakePhase.{WakePhase as Phase}
use Rattle.wake_pool.specs.declared.phase.WakePhase.TheVariants.{Idle, Waking, Giving, Calling, Searching, Found, Returning, Reading, Called, Checking, Parked}
use Rattle.wake_pool.specs.Schedule.{World, set, waking, looking, resting}
use Rattle.wake_pool.specs.Law.{HasRested, IsSearcher}
use Rattle.wake_pool.specs.Inner.Bits.{claimed, left, rested, risen, turned, woken}
use Rattle.wake_pool.specs.Inner.Invariant.{IsSound}
use Rattle.wake_pool.specs.Words.{word_count, word_of, bit_of, token_at, mail_at, base, world_of}
use Rattle.wake_pool.proofs.SetLemmas.{set_same}
use Rattle.wake_pool.proofs.BitLemmas.{Turns, claimed_turns, left_turns, rested_turns, risen_turns, turned_turns, woken_turns}
use Rattle.wake_pool.proofs.ServedLemmas.{claim_sound, rest_sound, lie_down_sound, leave_sound, wake_sound, return_sound, rise_sound, rise_found_sound, give_sound, wait_sound, call_sound, answer_sound, answer_found_sound, ring_sound, ring_awake_sound, notice_searched_sound, notice_none_sound, stay_sound, park_sound, search_sound, read_call_sound, read_sound}
use Rattle.wake_pool.proofs.WorldLemmas.{in_words, bit_low, says, above_world, token_world, mail_world, word_world}

-- a part of a world that is as before
module _ (w : World) (q : ℕ → Phase) where
  same_asleep : (N : ℕ → Bool) (t : ℕ) (b : Bool) → w.asleep t ≡ b
      → record w { searching = N; asleep = set w.asleep t b; phase = q } ≡ record w { searching = N; phase = q }
  same_asleep N t b is = λ i. record w { searching = N; asleep = λ u. set_same w.asleep t b is u i; phase = q }

  same_searching : (B : ℕ → Bool) (c : ℕ) (b : Bool) → w.searching c ≡ b
      → record w { searching = set w.searching c b; asleep = B; phase = q } ≡ record w { asleep = B; phase = q }
  same_searching B c b is = λ i. record w { searching = λ u. set_same w.searching c b is u i; asleep = B; phase = q }

module _ (workers lanes : ℕ) (ws : List ℕ) (jobs : ℕ → ℕ) (P : ℕ → Phase) where
  asleep_is : (t : ℕ) → t < workers → (world_of workers lanes ws jobs P).asleep t ≡ eqb (bit_at (get_or ws (word_of t) 0) (bit_of t)) 1
  asleep_is t there = says (word_count workers) (word_of t) (eqb (bit_at (get_or ws (word_of t) 0) (bit_of t)) 1) (in_words workers t there)

  searching_is : (b : ℕ) → b < word_count workers → (world_of workers lanes ws jobs P).searching b ≡ eqb (bit_at (get_or ws b 0) WORD_WORKERS) 1
  searching_is b there = says (word_count workers) b (eqb (bit_at (get_or ws b 0) WORD_WORKERS) 1) there

  -- as conditions on the word that a step finds
  is_asleep : (t : ℕ) → t < workers → bit_at (get_or ws (word_of t) 0) (bit_of t) ≡ 1 → (world_of workers lanes ws jobs P).asleep t ≡ true
  is_asleep t there on = asleep_is t there ∙ eq-eqb (bit_at (get_or ws (word_of t) 0) (bit_of t)) 1 on

  is_awake : (t : ℕ) → t < workers → bit_at (get_or ws (word_of t) 0) (bit_of t) ≢ 1 → (world_of workers lanes ws jobs P).asleep t ≡ false
  is_awake t there off = asleep_is t there ∙ ne_eqb (bit_at (get_or ws (word_of t) 0) (bit_of t)) 1 off

  -- a set bit of a word of sleepers is a worker's
  marked_asleep : (t : ℕ) → word_of t < word_count workers → bit_at (get_or ws (word_of t) 0) (bit_of t) ≡ 1 → (world_of workers lanes ws jobs P).asleep t ≡ true
  marked_asleep t inside on = says (word_count workers) (word_of t) (eqb (bit_at (get_or ws (word_of t) 0) (bit_of t)) 1) inside
      ∙ eq-eqb (bit_at (get_or ws (word_of t) 0) (bit_of t)) 1 on

  is_searched : (b : ℕ) → b < word_count workers → bit_at (get_or ws b 0) WORD_WORKERS ≡ 1 → (world_of workers lanes ws jobs P).searching b ≡ true
  is_searched b there on = searching_is b there ∙ eq-eqb (bit_at (get_or ws b 0) WORD_WORKERS) 1 on

  is_free : (b : ℕ) → b < word_count workers → bit_at (get_or ws b 0) WORD_WORKERS ≢ 1 → (world_of workers lanes ws jobs P).searching b ≡ false
  is_free b there off = searching_is b there ∙ ne_eqb (bit_at (get_or ws b 0) WORD_WORKERS) 1 off

  -- the searcher's bit alone changes
  seeks_world : (t y search : ℕ) (Q : ℕ → Phase) → t < workers → base workers ≤ length ws
      → Turns (get_or ws (word_of t) 0) y (bit_of t) (bit_at (get_or ws (word_of t) 0) (bit_of t)) search
      → world_of workers lanes (common.set ws (word_of t) y) jobs Q
      ≡ record (world_of workers lanes ws jobs P) { searching = set (world_of workers lanes ws jobs P).searching (word_of t) (eqb search 1); phase = Q }
  seeks_world t y search Q there long turns =
      word_world workers lanes ws jobs P Q t y (bit_at (get_or ws (word_of t) 0) (bit_of t)) search there long turns
      ∙ same_asleep (world_of workers lanes ws jobs P) Q (set (world_of workers lanes ws jobs P).searching (word_of t) (eqb search 1)) t
      (eqb (bit_at (get_or ws (word_of t) 0) (bit_of t)) 1) (asleep_is t there)

  -- a sleeper's bit alone changes
  marks_world : (t y on : ℕ) (Q : ℕ → Phase) → t < workers → base workers ≤ length ws
      → Turns (get_or ws (word_of t) 0) y (bit_of t) on (bit_at (get_or ws (word_of t) 0) WORD_WORKERS)
      → world_of workers lanes (common.set ws (word_of t) y) jobs Q
      ≡ record (world_of workers lanes ws jobs P) { asleep = set (world_of workers lanes ws jobs P).asleep t (eqb on 1); phase = Q }
  marks_world t y on Q there long turns =
      word_world workers lanes ws jobs P Q t y on (bit_at (get_or ws (word_of t) 0) WORD_WORKERS) there long turns
      ∙ same_searching (world_of workers lanes ws jobs P) Q (set (world_of workers lanes ws jobs P).asleep t (eqb on 1)) (word_of t)
      (eqb (bit_at (get_or ws (word_of t) 0) WORD_WORKERS) 1) (searching_is (word_of t) (in_words workers t there))

module _ (workers lanes : ℕ) (ws : List ℕ) (jobs : ℕ → ℕ) (P : ℕ → Phase)
    (k : IsSound (world_of workers lanes ws jobs P)) (long : base workers ≤ length ws) where
  -- ---- the lanes

  -- any word of a lane changes
  pub lane_kept : (i y : ℕ) → base workers ≤ i → IsSound (world_of workers lanes (common.set ws i y) jobs P)
  lane_kept i y above = subst IsSound (sym (above_world workers lanes ws jobs P P i y above)) k

  -- ---- words of sleepers

  pub claims : (t : ℕ) → t < workers → P t ≡ Idle → bit_at (get_or ws (word_of t) 0) WORD_WORKERS ≢ 1
      → IsSound (world_of workers lanes (common.set ws (word_of t) (claimed (get_or ws (word_of t) 0))) jobs (set P t Searching))
  claims t there is free = subst IsSound
      (sym (seeks_world workers lanes ws jobs P t (claimed (get_or ws (word_of t) 0)) 1 (set P t Searching) there long (claimed_turns (get_or ws (word_of t) 0) (bit_of t) (bit_low t))))
      (claim_sound (world_of workers lanes ws jobs P) k t is (is_free workers lanes ws jobs P (word_of t) (in_words workers t there) free))

  -- another searches
  pub claims_not : (t : ℕ) → t < workers → bit_at (get_or ws (word_of t) 0) WORD_WORKERS ≡ 1
      → IsSound (world_of workers lanes (common.set ws (word_of t) (claimed (get_or ws (word_of t) 0))) jobs P)
  claims_not t there on = subst IsSound
      (sym (seeks_world workers lanes ws jobs P t (claimed (get_or ws (word_of t) 0)) 1 P there long (claimed_turns (get_or ws (word_of t) 0) (bit_of t) (bit_low t))
      ∙ same_searching (world_of workers lanes ws jobs P) P (world_of workers lanes ws jobs P).asleep (word_of t) true (is_searched workers lanes ws jobs P (word_of t) (in_words workers t there) on)))
      k

  pub rests : (t : ℕ) → t < workers → P t ≡ Idle
      → IsSound (world_of workers lanes (common.set ws (word_of t) (rested (bit_of t) (get_or ws (word_of t) 0))) jobs (set P t (resting lanes 0)))
  rests t there is = subst IsSound
      (sym (marks_world workers lanes ws jobs P t (rested (bit_of t) (get_or ws (word_of t) 0)) 1 (set P t (resting lanes 0)) there long (rested_turns (get_or ws (word_of t) 0) (bit_of t) (bit_low t))))
      (rest_sound (world_of workers lanes ws jobs P) k t there is)

  -- the searcher's bit is set, and its own is not
  announced : (t : ℕ) → t < workers → P t ≡ Searching → bit_at (get_or ws (word_of t) 0) WORD_WORKERS ≡ 1
  announced t there is = is_one (bit_at (get_or ws (word_of t) 0) WORD_WORKERS)
      (sym (searching_is workers lanes ws jobs P (word_of t) (in_words workers t there))
      ∙ k.searchers.announced t (subst (λ r. IsSearcher r ((world_of workers lanes ws jobs P).asleep t)) (sym is) tt))
    where
      is_one : (n : ℕ) → eqb n 1 ≡ true → n ≡ 1
      is_one n e = eqb-true n 1 e

  not_rested : (t : ℕ) → t < workers → P t ≡ Searching → bit_at (get_or ws (word_of t) 0) (bit_of t) ≡ 0
  not_rested t there is = elim (cases_eq (bit_at (get_or ws (word_of t) 0) (bit_of t)) 1) [
    | inl on ↦ absurd (subst HasRested is (k.sleepers.rested t (is_asleep workers lanes ws jobs P t there on)))
    | inr off ↦ omega (arith, off, bit_at-lt (get_or ws (word_of t) 0) (bit_of t))
  ]

  pub lies_down : (t : ℕ) → t < workers → P t ≡ Searching
      → IsSound (world_of workers lanes (common.set ws (word_of t) (turned (bit_of t) (get_or ws (word_of t) 0))) jobs (set P t (resting lanes 0)))
  lies_down t there is = subst IsSound
      (sym (word_world workers lanes ws jobs P (set P t (resting lanes 0)) t (turned (bit_of t) (get_or ws (word_of t) 0)) 1 0 there long
      (turned_turns (get_or ws (word_of t) 0) (bit_of t) (bit_low t) (announced t there is) (not_rested t there is))))
      (lie_down_sound (world_of workers lanes ws jobs P) k t there is)

  pub leaves : (t : ℕ) → t < workers → P t ≡ Found
      → IsSound (world_of workers lanes (common.set ws (word_of t) (left (get_or ws (word_of t) 0))) jobs (set P t (looking lanes 0)))
  leaves t there is = subst IsSound
      (sym (seeks_world workers lanes ws jobs P t (left (get_or ws (word_of t) 0)) 0 (set P t (looking lanes 0)) there long (left_turns (get_or ws (word_of t) 0) (bit_of t) (bit_low t))))
      (leave_sound (world_of workers lanes ws jobs P) k t is)

  pub wakes : (t x : ℕ) → x < workers → P t ≡ Waking (word_of x)
      → bit_at (get_or ws (word_of x) 0) WORD_WORKERS ≢ 1 → bit_at (get_or ws (word_of x) 0) (bit_of x) ≡ 1
      → IsSound (world_of workers lanes (common.set ws (word_of x) (woken (bit_of x) (get_or ws (word_of x) 0))) jobs (set P t (Giving x)))
  wakes t x there is free on = subst IsSound
      (sym (word_world workers lanes ws jobs P (set P t (Giving x)) x (woken (bit_of x) (get_or ws (word_of x) 0)) 0 1 there long (woken_turns (get_or ws (word_of x) 0) (bit_of x) (bit_low x))))
      (wake_sound (world_of workers lanes ws jobs P) k t x (word_of x) is (is_free workers lanes ws jobs P (word_of x) (in_words workers x there) free) (is_asleep workers lanes ws jobs P x there on))

  pub comes_back : (t : ℕ) → t < workers → P t ≡ Returning → bit_at (get_or ws (word_of t) 0) WORD_WORKERS ≢ 1
      → IsSound (world_of workers lanes (common.set ws (word_of t) (woken (bit_of t) (get_or ws (word_of t) 0))) jobs (set P t Searching))
  comes_back t there is free = subst IsSound
      (sym (word_world workers lanes ws jobs P (set P t Searching) t (woken (bit_of t) (get_or ws (word_of t) 0)) 0 1 there long (woken_turns (get_or ws (word_of t) 0) (bit_of t) (bit_low t))))
      (return_sound (world_of workers lanes ws jobs P) k t is (is_free workers lanes ws jobs P (word_of t) (in_words workers t there) free))

  pub rises : (t : ℕ) → t < workers → P t ≡ Called → bit_at (get_or ws (word_of t) 0) (bit_of t) ≡ 1
      → IsSound (world_of workers lanes (common.set ws (word_of t) (risen (bit_of t) (get_or ws (word_of t) 0))) jobs (set P t Idle))
  rises t there is on = subst IsSound
      (sym (marks_world workers lanes ws jobs P t (risen (bit_of t) (get_or ws (word_of t) 0)) 0 (set P t Idle) there long (risen_turns (get_or ws (word_of t) 0) (bit_of t) (bit_low t))))
      (rise_sound (world_of workers lanes ws jobs P) k t is (is_asleep workers lanes ws jobs P t there on))

  -- it is the searcher
  pub rises_found : (t : ℕ) → t < workers → P t ≡ Called → bit_at (get_or ws (word_of t) 0) (bit_of t) ≢ 1
      → IsSound (world_of workers lanes (common.set ws (word_of t) (risen (bit_of t) (get_or ws (word_of t) 0))) jobs (set P t Found))
  rises_found t there is off = subst IsSound
      (sym (marks_world workers lanes ws jobs P t (risen (bit_of t) (get_or ws (word_of t) 0)) 0 (set P t Found) there long (risen_turns (get_or ws (word_of t) 0) (bit_of t) (bit_low t))
      ∙ same_asleep (world_of workers lanes ws jobs P) (set P t Found) (world_of workers lanes ws jobs P).searching t false (is_awake workers lanes ws jobs P t there off)))
      (rise_found_sound (world_of workers lanes ws jobs P) k t is (is_awake workers lanes ws jobs P t there off))

  -- ---- tokens and mailboxes

  pub gives : (t x : ℕ) → x < workers → P t ≡ Giving x
      → IsSound (world_of workers lanes (common.set ws (token_at workers x) 1) jobs (set P t Idle))
  gives t x there is = subst IsSound (sym (token_world workers lanes ws jobs P (set P t Idle) x 1 there long))
      (give_sound (world_of workers lanes ws jobs P) k t x is)

  pub waits : (t : ℕ) → t < workers → P t ≡ Parked
      → IsSound (world_of workers lanes (common.set ws (token_at workers t) 0) jobs (set P t Reading))
  waits t there is = subst IsSound (sym (token_world workers lanes ws jobs P (set P t Reading) t 0 there long))
      (wait_sound (world_of workers lanes ws jobs P) k t is)

  pub calls : (t x : ℕ) → x < workers → P t ≡ Idle
      → IsSound (world_of workers lanes (common.set ws (mail_at workers x) 1) jobs (set P t (Calling x)))
  calls t x there is = subst IsSound (sym (mail_world workers lanes ws jobs P (set P t (Calling x)) x 1 there long))
      (call_sound (world_of workers lanes ws jobs P) k t x is)

  pub answers : (t : ℕ) → t < workers → P t ≡ Idle
      → IsSound (world_of workers lanes (common.set ws (mail_at workers t) 0) jobs (set P t Idle))
  answers t there is = subst IsSound (sym (mail_world workers lanes ws jobs P (set P t Idle) t 0 there long))
      (answer_sound (world_of workers lanes ws jobs P) k t is)

  pub answers_found : (t : ℕ) → t < workers → P t ≡ Searching
      → IsSound (world_of workers lanes (common.set ws (mail_at workers t) 0) jobs (set P t Found))
  answers_found t there is = subst IsSound (sym (mail_world workers lanes ws jobs P (set P t Found) t 0 there long))
      (answer_found_sound (world_of workers lanes ws jobs P) k t is)

  -- ---- loads

  pub rings : (t x : ℕ) → P t ≡ Calling x → IsSound (world_of workers lanes ws jobs (set P t (Giving x)))
  rings t x is = ring_sound (world_of workers lanes ws jobs P) k t x is

  pub rings_not : (t x : ℕ) → x < workers → P t ≡ Calling x → bit_at (get_or ws (word_of x) 0) (bit_of x) ≢ 1
      → IsSound (world_of workers lanes ws jobs (set P t Idle))
  rings_not t x there is off = ring_awake_sound (world_of workers lanes ws jobs P) k t x is (is_awake workers lanes ws jobs P x there off)

  pub notices : (t b : ℕ) → b < word_count workers → P t ≡ Waking b → bit_at (get_or ws b 0) WORD_WORKERS ≡ 1
      → IsSound (world_of workers lanes ws jobs (set P t Idle))
  notices t b there is on = notice_searched_sound (world_of workers lanes ws jobs P) k t b is (is_searched workers lanes ws jobs P b there on)

  -- a set bit of a word is a worker's
  pub marked : (t : ℕ) → word_of t < word_count workers → bit_at (get_or ws (word_of t) 0) (bit_of t) ≡ 1 → t < workers
  marked t inside on = k.sleepers.sleeper t (marked_asleep workers lanes ws jobs P t inside on)

  -- nobody of the word sleeps
  pub notices_none : (t b : ℕ) → P t ≡ Waking b → get_or ws b 0 ≡ 0
      → IsSound (world_of workers lanes ws jobs (set P t (waking (word_count workers) (b + 1))))
  notices_none t b is none = notice_none_sound (world_of workers lanes ws jobs P) k t b is
      (λ s there word. is_awake workers lanes ws jobs P s there
      (λ on. omega (arith, on, ap (λ n. bit_at n (bit_of s)) (ap (λ j. get_or ws j 0) word ∙ none), bit_at-zero (bit_of s))))

  pub stays : (t : ℕ) → t < workers → P t ≡ Returning
      → (bit_at (get_or ws (word_of t) 0) WORD_WORKERS ≡ 1) ⊎ (bit_at (get_or ws (word_of t) 0) (bit_of t) ≢ 1)
      → IsSound (world_of workers lanes ws jobs (set P t Reading))
  stays t there is why = stay_sound (world_of workers lanes ws jobs P) k t is (elim why [
    | inl on ↦ inl (is_searched workers lanes ws jobs P (word_of t) (in_words workers t there) on)
    | inr off ↦ inr (is_awake workers lanes ws jobs P t there off)
  ])

  pub checks : (t : ℕ) → t < workers → P t ≡ Checking → bit_at (get_or ws (word_of t) 0) (bit_of t) ≡ 1
      → IsSound (world_of workers lanes ws jobs (set P t Parked))
  checks t there is on = park_sound (world_of workers lanes ws jobs P) k t is (is_asleep workers lanes ws jobs P t there on)

  pub checks_woken : (t : ℕ) → t < workers → P t ≡ Checking → bit_at (get_or ws (word_of t) 0) (bit_of t) ≢ 1
      → IsSound (world_of workers lanes ws jobs (set P t Searching))
  checks_woken t there is off = search_sound (world_of workers lanes ws jobs P) k t is (is_awake workers lanes ws jobs P t there off)

  pub reads_call : (t : ℕ) → P t ≡ Reading → IsSound (world_of workers lanes ws jobs (set P t Called))
  reads_call t is = read_call_sound (world_of workers lanes ws jobs P) k t is

  pub reads : (t : ℕ) → t < workers → P t ≡ Reading → get_or ws (mail_at workers t) 0 ≢ 1
      → IsSound (world_of workers lanes ws jobs (set P t Checking))
  reads t there is none = read_sound (world_of workers lanes ws jobs P) k t is
      (says workers t (eqb (get_or ws (mail_at workers t) 0) 1) there ∙ ne_eqb (get_or ws (mail_at workers t) 0) 1 none)
