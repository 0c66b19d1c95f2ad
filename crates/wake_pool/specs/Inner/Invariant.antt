-- What each act keeps, in three parts: the sleepers, the searchers and the lanes.
use Rattle.std.specs.Prelude.{◌≡◌, ℕ, ◌<◌, ◌⊎◌, Bool, true}
use Rattle.wake_pool.specs.declared.phase.WakePhase.{WakePhase as Phase}
use Rattle.wake_pool.specs.Schedule.{World}
use Rattle.wake_pool.specs.Law.{HasRested, IsSearcher, HasToLook, IsWoken, IsCalled, GivesTo, CallsTo}

-- n workers, with the bits B, the tokens K, the mailboxes M and the phases P
pub record Sleepers (n : ℕ) (B K M : ℕ → Bool) (P : ℕ → Phase) : Type 0 where
  pub rested : (t : ℕ) → B t ≡ true → HasRested (P t)
  pub sleeper : (t : ℕ) → B t ≡ true → t < n
  pub woken : (t : ℕ) → IsWoken (P t) (B t) → (K t ≡ true) ⊎ ((s : ℕ) × GivesTo (P s) t)
  pub called : (t : ℕ) → IsCalled (P t) (B t) (M t)
      → (K t ≡ true) ⊎ ((s : ℕ) × CallsTo (P s) t)

-- the word W of each worker, with the searchers' bits N
pub record Searchers (W : ℕ → ℕ) (N B : ℕ → Bool) (P : ℕ → Phase) : Type 0 where
  pub searcher : (b : ℕ) → N b ≡ true → (s : ℕ) × (W s ≡ b) × IsSearcher (P s) (B s)
  pub announced : (s : ℕ) → IsSearcher (P s) (B s) → N (W s) ≡ true
  pub alone : (s t : ℕ) → IsSearcher (P s) (B s) → IsSearcher (P t) (B t) → W s ≡ W t → s ≡ t

-- lanes with J jobs each
pub record Lookers (W : ℕ → ℕ) (lanes : ℕ) (J : ℕ → ℕ) (N B : ℕ → Bool) (P : ℕ → Phase) :
    Type 0 where
  pub looked : (t l : ℕ) → B t ≡ true → l < lanes → 0 < J l
      → ((b : ℕ) × (N b ≡ true)) ⊎ ((s : ℕ) × HasToLook (P s) l (W t))

-- The whole invariant.
pub record IsSound (w : World) : Type 0 where
  -- a worker's word is one of them
  pub in_words : (t : ℕ) → t < w.workers → w.word t < w.words
  pub sleepers : Sleepers w.workers w.asleep w.token w.mail w.phase
  pub searchers : Searchers w.word w.searching w.asleep w.phase
  pub lookers : Lookers w.word w.lanes w.jobs w.searching w.asleep w.phase
