-- No job and no call waits while all threads that could serve it sleep.
use Rattle.std.specs.Prelude.{◌≡◌, ℕ, ◌<◌, ◌≤◌, ◌⊎◌, Bool, true, false}
use Rattle.wake_pool.specs.declared.phase.WakePhase.{WakePhase as Phase}
use Rattle.wake_pool.specs.declared.phase.WakePhase.TheVariants.{Idle, Waking, Giving, Calling, Searching, Found, Looking, Resting, Returning, Reading, Called, Checking, Parked}
use Rattle.wake_pool.specs.Schedule.{World}

-- A thread in this phase has set its bit, and has not seen it cleared.
abbrev pub HasRested : Phase → Type 0
HasRested (Resting l) = Unit {0}
HasRested Returning = Unit {0}
HasRested Reading = Unit {0}
HasRested Called = Unit {0}
HasRested Checking = Unit {0}
HasRested Parked = Unit {0}
HasRested _ = ⊥

-- A thread in this phase, whose bit is so, is the searcher of its word. It searches, or another has
-- cleared the bit that it had set, so that it will search.
abbrev pub IsSearcher : Phase → Bool → Type 0
IsSearcher Searching bit = Unit {0}
IsSearcher Found bit = Unit {0}
IsSearcher (Resting l) bit = bit ≡ false
IsSearcher Returning bit = bit ≡ false
IsSearcher Reading bit = bit ≡ false
IsSearcher Called bit = bit ≡ false
IsSearcher Checking bit = bit ≡ false
IsSearcher Parked bit = bit ≡ false
IsSearcher _ bit = ⊥

-- A thread in this phase has still to look at lane l. Or it has put or seen a job, and has not
-- looked at word b since.
abbrev pub HasToLook : Phase → ℕ → ℕ → Type 0
HasToLook (Waking c) l b = c ≤ b
HasToLook (Looking i) l b = i ≤ l
HasToLook (Resting i) l b = i ≤ l
HasToLook Returning l b = Unit {0}
HasToLook _ l b = ⊥

-- A thread in this phase, whose bit is so, is made the searcher while it parks.
abbrev pub IsWoken : Phase → Bool → Type 0
IsWoken Parked bit = bit ≡ false
IsWoken _ bit = ⊥

-- A thread in this phase has a call and its bit is set, and it looks at its mailbox no more before
-- it parks.
abbrev pub IsCalled : Phase → Bool → Bool → Type 0
IsCalled Checking bit mail = (bit ≡ true) × (mail ≡ true)
IsCalled Parked bit mail = (bit ≡ true) × (mail ≡ true)
IsCalled _ bit mail = ⊥

-- A thread in this phase gives thread t its token next.
abbrev pub GivesTo : Phase → ℕ → Type 0
GivesTo (Giving x) t = x ≡ t
GivesTo _ t = ⊥

-- The same, or it looks at the thread's bit next, after a call.
abbrev pub CallsTo : Phase → ℕ → Type 0
CallsTo (Giving x) t = x ≡ t
CallsTo (Calling x) t = x ≡ t
CallsTo _ t = ⊥

-- The thread makes no step of its own: it runs its code or a job, or is parked with no token.
abbrev pub IsStill : World → ℕ → Type 0
IsStill w s = (w.phase s ≡ Idle) ⊎ ((w.phase s ≡ Parked) × (w.token s ≡ false))

-- What holds after every list of acts.
pub record IsServed (w : World) : Type 0 where
  -- If a lane has a job and a worker is parked, some thread is a searcher, or has still to look at
  -- that lane. Or it has put or seen a job and not looked at the parked worker's word since.
  pub served : (t l : ℕ) → w.phase t ≡ Parked → l < w.lanes → 0 < w.jobs l
      → (s : ℕ) × (IsSearcher (w.phase s) (w.asleep s) ⊎ HasToLook (w.phase s) l (w.word t))
  -- a parked thread that is made the searcher has its token, or some thread gives it next
  pub woken : (t : ℕ) → IsWoken (w.phase t) (w.asleep t)
      → (w.token t ≡ true) ⊎ ((s : ℕ) × GivesTo (w.phase s) t)
  -- one that has a call has its token, or some thread gives it, perhaps after a look at its bit
  pub called : (t : ℕ) → IsCalled (w.phase t) (w.asleep t) (w.mail t)
      → (w.token t ≡ true) ⊎ ((s : ℕ) × CallsTo (w.phase s) t)
  -- the searcher's bit of a word is set exactly if one of its workers is the searcher
  pub searcher : (b : ℕ) → w.searching b ≡ true
      → (s : ℕ) × (w.word s ≡ b) × IsSearcher (w.phase s) (w.asleep s)
  pub announced : (s : ℕ) → IsSearcher (w.phase s) (w.asleep s) → w.searching (w.word s) ≡ true
  -- and a word has one searcher at most
  pub alone : (s t : ℕ) → IsSearcher (w.phase s) (w.asleep s) → IsSearcher (w.phase t) (w.asleep t)
      → w.word s ≡ w.word t → s ≡ t
  -- a bit is set only while its worker has set it and not seen it cleared
  pub rested : (t : ℕ) → w.asleep t ≡ true → HasRested (w.phase t)
  -- only a worker's bit is set
  pub sleeper : (t : ℕ) → w.asleep t ≡ true → t < w.workers
  -- So if no thread makes a step of its own and one is parked, no lane has a job ..
  pub no_job : ((s : ℕ) → IsStill w s) → (t l : ℕ) → w.phase t ≡ Parked → l < w.lanes
      → w.jobs l ≡ 0
  -- .. and the parked one has no call.
  pub no_call : ((s : ℕ) → IsStill w s) → (t : ℕ) → w.phase t ≡ Parked → w.mail t ≡ false
