-- A table that has a world of threads, whatever else is in it.
use Rattle.std.specs.Prelude.{◌≡◌, ℕ, ◌<◌, ◌≤◌, List, [], ◌∷◌, length, map, slice_set}
use mathlib.Core.Option.{some}
use lib.ListN.{get_elem?}
use Rattle.atomic_table.specs.Table.{State, stepped, keeps}
use Rattle.wake_pool.specs.declared.phase.WakePhase.{WakePhase as Phase}
use Rattle.wake_pool.specs.Schedule.{set}
use Rattle.wake_pool.specs.Inner.Invariant.{IsSound}
use Rattle.wake_pool.specs.Words.{base, world_of}
use Rattle.wake_calls.specs.declared.deed.WakeDeed.{WakeDeed}
use Rattle.wake_calls.specs.declared.rule.ThreadRecord.{ThreadRecord}

-- The record of a thread that goes on to this phase.
abbrev pub in_phase : Phase → ThreadRecord → ThreadRecord
in_phase q r = record { number = r.number; phase = q; workers = r.workers; lanes = r.lanes }

module _ {V : Type 0} (threads : V → List ThreadRecord) (goes : Phase → V → V)
    (noted : WakeDeed → V → V) where
  -- A state that meets the rule `holds` is a world of these workers and lanes.
  pub record IsPool (holds : State (Unit {0}) V → Type 0) (workers lanes : ℕ) (s : State (Unit {0}) V) :
      Type 0 where
    pub jobs : ℕ → ℕ
    pub phases : ℕ → Phase
    pub long : base workers ≤ length s.words
    pub sound : IsSound (world_of workers lanes s.words jobs phases)
    -- a thread's record is right
    pub tied : (id : ℕ) (v : V) (r : ThreadRecord)
        → get_elem? s.views id ≡ some v
        → threads v ≡ r ∷ []
        → (phases r.number ≡ r.phase) × (r.workers ≡ workers) × (r.lanes ≡ lanes)
    -- a step on a word below `base` keeps the rule if it keeps the world's invariant
    pub moves : (id : ℕ) (v : V) (r : ThreadRecord) (q : Phase) (i y : ℕ)
        → get_elem? s.views id ≡ some v
        → threads v ≡ r ∷ []
        → i < base workers
        → IsSound (world_of workers lanes (slice_set s.words i y) jobs (set phases r.number q))
        → holds (stepped s i y id [] (goes q v) keeps)
    -- and it may leave a note
    pub notes : (id : ℕ) (v : V) (r : ThreadRecord) (q : Phase) (d : WakeDeed) (i y : ℕ)
        → get_elem? s.views id ≡ some v
        → threads v ≡ r ∷ []
        → i < base workers
        → IsSound (world_of workers lanes (slice_set s.words i y) jobs (set phases r.number q))
        → holds (stepped s i y id [] (noted d (goes q v)) keeps)

  -- The law of a table's rule. A view's threads may go on to another phase.
  pub record PoolLaw {K : Type 0} (holds : K → State (Unit {0}) V → Type 0) (workers lanes : K → ℕ) :
      Type 0 where
    pub given : (q : Phase) (v : V) → threads (goes q v) ≡ map (in_phase q) (threads v)
    pub again : (p q : Phase) (v : V) → goes q (goes p v) ≡ goes q v
    pub same : (v : V) (r : ThreadRecord) → threads v ≡ r ∷ [] → goes r.phase v ≡ v
    -- a note changes no thread, and it stays
    pub unseen : (d : WakeDeed) (v : V) → threads (noted d v) ≡ threads v
    pub stays : (d : WakeDeed) (q : Phase) (v : V) → goes q (noted d v) ≡ noted d (goes q v)
    pub pool : (k : K) (s : State (Unit {0}) V)
        → holds k s
        → IsPool (holds k) (workers k) (lanes k) s
