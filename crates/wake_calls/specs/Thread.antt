-- What contracts say of a thread's seat.
use Rattle.std.specs.Prelude.{◌≡◌, ℕ, List, [], ◌∷◌}
use Rattle.atomic_table.specs.Table.{Me}
use Rattle.wake_pool.specs.declared.phase.WakePhase.{WakePhase as Phase}
use Rattle.wake_calls.specs.declared.deed.WakeDeed.{WakeDeed}
use Rattle.wake_calls.specs.declared.rule.ThreadRecord.{ThreadRecord}

-- The threads of a seat that has this one alone.
abbrev pub thread : ℕ → ℕ → ℕ → Phase → List ThreadRecord
thread number workers lanes phase =
    record { number = number; phase = phase; workers = workers; lanes = lanes } ∷ []

-- The seat once its thread has gone on to this phase. All else that the seat knows is as before.
abbrev pub moved : {V : Type 0} → (Phase → V → V) → Phase → Me (Unit {0}) V → Me (Unit {0}) V
moved goes q m = (goes q m.0, m.1)

-- The seat with one deed more. All else that it knows is as before.
abbrev pub noting : {V : Type 0} → (WakeDeed → V → V) → WakeDeed → Me (Unit {0}) V
    → Me (Unit {0}) V
noting noted d m = (noted d m.0, m.1)

-- The number of a seat's thread.
abbrev pub number_of : List ThreadRecord → ℕ
number_of [] = 0
number_of (r ∷ rs) = r.number

-- There is one thread, and it is in this phase.
abbrev pub IsIn : List ThreadRecord → ℕ → ℕ → Phase → Type 0
IsIn rs workers lanes phase = rs ≡ thread (number_of rs) workers lanes phase
