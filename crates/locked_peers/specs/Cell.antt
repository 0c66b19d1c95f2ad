-- A cell: a value in the one slot of a table with one word, which is 1 while a seat has taken it.
use Rattle.std.specs.Prelude.{◌≡◌, ◌≢◌, ℕ, ◌<◌, ◌≤◌, Option, Some, None, [], ◌∷◌, length, slice_index, ◌==◌}
use mathlib.Core.Option.{some, none}
use lib.ListN.{get_elem?}
use prog.Atomic.{either}
use Rattle.atomic_table.specs.Table.{State, Me, Step, step, Allows, Seen}
use Rattle.ghost_history.specs.Sums.{total}

-- 1 if there is a value, else 0.
abbrev pub out_of : {S : Type 0} → Option S → ℕ
out_of (Some x) = 1
out_of None = 0

-- `found` is what a seat found if it has taken the value, and `members` counts a seat's records.
module _ {S V : Type 0} (found : V → Option S) (members : V → ℕ) where
  -- 1 if the seat has taken the value, else 0.
  abbrev pub is_out : V → ℕ
  is_out v = out_of (found v)

  -- The seat of members that are in no call: it has not taken the value.
  abbrev pub IsIdle : Me S V → Type 0
  IsIdle m = (m.1 ≡ []) × (found m.0 ≡ None) × (0 < members m.0)

  -- The invariant of a cell. The word says how many seats have taken the value. Each of these is a
  -- member's, and found a value that fits. The value in its slot fits too.
  pub record IsCell (Fits : S → Type 0) (s : State S V) : Type 0 where
    pub words : length s.words ≡ 1
    pub bit : slice_index s.words 0 ≤ 1
    pub out : total is_out s.views ≡ slice_index s.words 0
    pub home : slice_index s.words 0 ≡ 0 → (x : S) × (get_elem? s.homes 0 ≡ some (some x)) × Fits x
    pub taken : (id : ℕ) (v : V) (x : S) → get_elem? s.views id ≡ some v → found v ≡ Some x → Fits x
    pub taken_by : (id : ℕ) (v : V) → get_elem? s.views id ≡ some v → 0 < is_out v → 0 < members v

-- ---- a seat takes the value: its view holds it from then on, and it learns of it

module _ {S V : Type 0} (holding : V → S → V) (Learns : V → S → Type 0) where
  -- The seat has taken the value, its view holds it, and it has learned of it.
  abbrev pub Took : Me S V → Me S V → Type 0
  Took m n = (x : S) × (n ≡ (holding m.0 x, (0, x) ∷ [])) × Learns m.0 x

  -- The step that takes the value if it finds 0, and else changes nothing.
  abbrev pub takes_at_0 : Step S → Me S V → ℕ → Me S V → Type 0
  takes_at_0 st m number n = (number ≡ 0 → Took m n) × (number ≢ 0 → n ≡ m)

  -- The rule of a table with this number of slots allows the seat to try.
  abbrev pub MayTry : (State S V → Type 0) → ℕ → ℕ → Me S V → Type 0
  MayTry holds slots id m =
      Allows holds slots id m 0 (λ number. either (number == 0) 1 number)
      (takes_at_0 (step slots 0 0 1 none) m)

-- ---- the table has ended

-- What holds at the end of the table. The rule held when the seat had this view, and the value is
-- the one in the slot.
abbrev pub Leaves : {S V : Type 0} → (State S V → Type 0) → ℕ → V → S → Type 0
Leaves {S} {V} holds id v value =
    (s : State S V) × Seen holds id v s
    × ((x : S) → get_elem? s.homes 0 ≡ some (some x) → x ≡ value)
