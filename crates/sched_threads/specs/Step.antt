-- What the steps of a seat do: the step, the seat before, the number found and the seat after.
use Rattle.std.specs.Prelude.{◌≡◌, ◌≢◌, ℕ, Some, None, [], ◌∷◌}
use Rattle.atomic_table.specs.Table.{Me, Step}
use Rattle.sched_threads.specs.declared.clocked.ClockedDesk.{ClockedDesk}
use Rattle.sched_threads.specs.declared.view.View.{View}
use Rattle.sched_threads.specs.View.{barred_view, blank_view, first_view, turn, view}

-- What a seat knows, and the desk if it has the turn.
abbrev pub Sat : Type 0
Sat = Me ClockedDesk View

-- The seat has made no turn yet, and has none.
abbrev pub IsIdle : Sat → Type 0
IsIdle m = m ≡ (blank_view, [])

-- The seat made no turn, and found that another one has it.
abbrev pub IsBarred : Sat → Type 0
IsBarred m = m ≡ (barred_view, [])

-- The seat has the turn, found the desk `x` and is to leave the desk `y`.
abbrev pub IsOut : Sat → ClockedDesk → ClockedDesk → Type 0
IsOut m x y = m ≡ (view [] (Some x), (0, y) ∷ [])

-- The step that makes a seat. If it finds that another seat has the turn, the seat is barred.
abbrev pub arrives : Step ClockedDesk → Sat → ℕ → Sat → Type 0
arrives st m number n = n ≡ (first_view number, [])

-- The step that takes the turn if it finds 0. Else the seat is barred.
abbrev pub enters : Step ClockedDesk → Sat → ℕ → Sat → Type 0
enters st m number n =
    (number ≡ 0 → (x : ClockedDesk) × IsOut n x x) × (number ≢ 0 → IsBarred n)

-- The seat ends its turn, and notes it.
abbrev pub leaves : Step ClockedDesk → Sat → ℕ → Sat → Type 0
leaves st m number n =
    (x y : ClockedDesk) → IsOut m x y → (at : ℕ) × (n ≡ (view (turn at x y ∷ []) None, []))
