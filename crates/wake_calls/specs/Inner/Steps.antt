-- What the steps of a seat say: of the step, the seat before, the number found and the seat after.
use Rattle.std.specs.Prelude.{◌≡◌, ◌≢◌, ℕ, ◌+◌, ◌<◌, List, [], ◌∷◌}
use Rattle.std.specs.Int.{bit_at}
use Rattle.atomic_table.specs.Table.{Me, Step}
use Rattle.wake_pool.specs.declared.layout.TheConstants.{WORD_WORKERS}
use Rattle.wake_pool.specs.declared.phase.WakePhase.{WakePhase as Phase}
use Rattle.wake_pool.specs.declared.phase.WakePhase.TheVariants.{Idle, Giving, Calling, Searching, Found, Reading, Called, Checking, Parked}
use Rattle.wake_pool.specs.Schedule.{waking, looking, resting}
use Rattle.wake_pool.specs.Words.{word_count, word_of, bit_of, token_at, mail_at}
use Rattle.wake_pool.specs.Inner.Bits.{woken}
use Rattle.wake_calls.specs.declared.deed.WakeDeed.{WakeDeed}
use Rattle.wake_calls.specs.declared.deed.WakeDeed.TheVariants.{Gave, RoseForCall, TookCall}
use Rattle.wake_calls.specs.declared.rule.ThreadRecord.{ThreadRecord}
use Rattle.wake_calls.specs.Thread.{moved, noting, number_of}

-- the first of a seat's threads
abbrev pub first_in : List ThreadRecord → ThreadRecord
first_in [] = record { number = 0; phase = Idle; workers = 0; lanes = 0 }
first_in (r ∷ rs) = r

-- the number of workers, and the thread that a seat's thread calls
abbrev pub workers_of : List ThreadRecord → ℕ
workers_of [] = 0
workers_of (r ∷ rs) = r.workers

abbrev pub called_in : Phase → ℕ
called_in (Calling x) = x
called_in _ = 0

abbrev pub to_of : List ThreadRecord → ℕ
to_of [] = 0
to_of (r ∷ rs) = called_in r.phase

module _ {V : Type 0} (threads : V → List ThreadRecord) (goes : Phase → V → V) where
  abbrev pub Sat : Type 0
  Sat = Me (Unit {0}) V

  abbrev pub Telling : Type 1
  Telling = Step (Unit {0}) → Sat → ℕ → Sat → Type 0

  -- the seat once its thread has gone on to a phase that depends on its record
  abbrev pub goes_by : (ThreadRecord → Phase) → Sat → Sat
  goes_by q m = moved goes (q (first_in (threads m.0))) m

  -- the seat's thread is in this phase now
  abbrev pub IsNow : Sat → Sat → Phase → Type 0
  IsNow m n q = n ≡ moved goes q m

  -- whether the word that was found has the searcher's bit, or that of the thread
  abbrev pub HasSearcher : ℕ → Type 0
  HasSearcher found = bit_at found WORD_WORKERS ≡ 1

  abbrev pub HasBit : Sat → ℕ → Type 0
  HasBit m found = bit_at found (bit_of (number_of (threads m.0))) ≡ 1

  abbrev pub claims_at : Telling
  claims_at st m found n =
      (HasSearcher found → n ≡ m)
      × ((HasSearcher found → ⊥) → IsNow m n Searching)

  -- a worker sets its bit
  abbrev pub rests_at : Telling
  rests_at st m found n = n ≡ goes_by (λ r. resting r.lanes 0) m

  -- the searcher is none any more
  abbrev pub leaves_at : Telling
  leaves_at st m found n = n ≡ goes_by (λ r. looking r.lanes 0) m

  abbrev pub notices_at : Telling
  notices_at st m found n =
      (HasSearcher found → IsNow m n Idle)
      × (found ≡ 0 → n ≡ goes_by (λ r. waking (word_count r.workers) (st.word + 1)) m)
      × ((HasSearcher found → ⊥) → found ≢ 0 → n ≡ m)
      × ((x : ℕ) → word_of x ≡ st.word → bit_at found (bit_of x) ≡ 1 → x < workers_of (threads m.0))

  -- the bit of x is cleared, if the word was what it was seen to be
  abbrev pub wakes_at : Telling
  wakes_at st m found n =
      (found ≡ st.first → (x : ℕ) → word_of x ≡ st.word → bit_at st.first (bit_of x) ≡ 1
      → st.second ≡ woken (bit_of x) st.first → IsNow m n (Giving x))
      × (found ≢ st.first → n ≡ m)

  abbrev pub stays_at : Telling
  stays_at st m found n =
      (HasSearcher found → IsNow m n Reading)
      × ((HasBit m found → ⊥) → IsNow m n Reading)
      × ((HasSearcher found → ⊥) → HasBit m found → n ≡ m)

  abbrev pub returns_at : Telling
  returns_at st m found n = (found ≡ st.first → IsNow m n Searching) × (found ≢ st.first → n ≡ m)

  abbrev pub reads_at : Telling
  reads_at st m found n = (found ≡ 1 → IsNow m n Called) × (found ≢ 1 → IsNow m n Checking)

  abbrev pub checks_at : Telling
  checks_at st m found n =
      (HasBit m found → IsNow m n Parked) × ((HasBit m found → ⊥) → IsNow m n Searching)

  abbrev pub waits_at : Telling
  waits_at st m found n = (found ≡ st.first → IsNow m n Reading) × (found ≢ st.first → n ≡ m)

  -- a call is put into a mailbox
  abbrev pub calls_at : Telling
  calls_at st m found n =
      (x : ℕ) → mail_at (workers_of (threads m.0)) x ≡ st.word → IsNow m n (Calling x)

  -- the caller looks at the bit of the thread that it called
  abbrev pub rings_at : Telling
  rings_at st m found n =
      (bit_at found (bit_of (to_of (threads m.0))) ≡ 1 → IsNow m n (Giving (to_of (threads m.0))))
      × ((bit_at found (bit_of (to_of (threads m.0))) ≡ 1 → ⊥) → IsNow m n Idle)

  -- ---- the steps that leave a note

  module _ (noted : WakeDeed → V → V) where
    -- the seat's thread is in this phase now, and has done this
    abbrev pub HasDone : Sat → Sat → Phase → WakeDeed → Type 0
    HasDone m n q d = n ≡ noting noted d (moved goes q m)

    -- the token is that of x
    abbrev pub gives_at : Telling
    gives_at st m found n =
        (x : ℕ) → token_at (workers_of (threads m.0)) x ≡ st.word → HasDone m n Idle (Gave x)

    abbrev pub rises_at : Telling
    rises_at st m found n =
        (HasBit m found → HasDone m n Idle RoseForCall)
        × ((HasBit m found → ⊥) → IsNow m n Found)

    -- an idle thread takes its call, and so does the searcher
    abbrev pub takes_call_at : Telling
    takes_call_at st m found n = n ≡ noting noted TookCall m

    abbrev pub finds_call_at : Telling
    finds_call_at st m found n = HasDone m n Found TookCall
