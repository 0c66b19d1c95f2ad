-- The rule of the table that threads share. Its one word is 1 while a seat has the turn, and has
-- taken the desk.
use Rattle.std.specs.Prelude.{◌≡◌, ℕ, ◌≤◌, ◌⊎◌, Option, Some, None, List, [], ◌∷◌, length, slice_index}
use Rattle.std.specs.List.{AllByRecursion as Each}
use mathlib.Core.Option.{some}
use lib.ListN.{get_elem?}
use Rattle.atomic_table.specs.Table.{State}
use Rattle.ghost_history.specs.History.{Legal}
use Rattle.ghost_history.specs.Sums.{total}
use Rattle.sched_board.specs.Pool.{workers_of}
use Rattle.sched_law.specs.Team.{Deed}
use Rattle.sched_threads.specs.declared.clocked.ClockedDesk.{ClockedDesk}
use Rattle.sched_board.specs.declared.sizes.ThreadSizes.{ThreadSizes}
use Rattle.sched_board.specs.JobBoard.{FollowsAt, IsFresh}
use Rattle.sched_board.specs.declared.board.JobBoard.{JobBoard}
use Rattle.sched_threads.specs.declared.view.Turn.{Turn}
use Rattle.sched_threads.specs.declared.view.View.{View}

-- ---- the sequence of turns, the newest first

-- The desk after these turns.
abbrev pub last_desk : ClockedDesk → List Turn → ClockedDesk
last_desk first [] = first
last_desk first (turn ∷ turns) = turn.to

-- Some deeds lead from one board to another, and then decisions at this time.
abbrev pub HasDeeds : ℕ → JobBoard → JobBoard → Type 0
HasDeeds time x y = (own : List Deed) × FollowsAt time x own y

-- A turn from one desk to another: some deeds lead there. All decisions are made at the time of the
-- clock, which never goes back.
abbrev pub IsTurn : ClockedDesk → ClockedDesk → Type 0
IsTurn x y =
    HasDeeds y.clock x.desk.board y.desk.board
    × (workers_of y.desk.board.pool ≡ workers_of x.desk.board.pool) × (x.clock ≤ y.clock)

-- The turn may come next: it begins with the desk that the turns before it left.
abbrev pub MayTurn : ClockedDesk → List Turn → Turn → Type 0
MayTurn first turns turn =
    (turn.at ≡ length turns) × (turn.from ≡ last_desk first turns) × IsTurn turn.from turn.to

-- The sequence of turns may have happened.
abbrev pub AreTurns : ClockedDesk → List Turn → Type 0
AreTurns first = Legal (MayTurn first)

-- The turn is in the sequence.
abbrev pub IsIn : List Turn → Turn → Type 0
IsIn [] turn = ⊥
IsIn (here ∷ turns) turn = (turn ≡ here) ⊎ IsIn turns turn

-- ---- the rule

-- 1 if there is a desk, else 0.
abbrev pub out_of : Option ClockedDesk → ℕ
out_of (Some x) = 1
out_of None = 0

-- 1 if the seat has the turn, else 0.
abbrev pub is_out : View → ℕ
is_out v = out_of v.found

-- The word says how many seats have the turn. The desk in its slot is what the turns left, and so
-- is the desk that the seat with the turn found.
pub record IsHeld (x : ClockedDesk) (s : State ClockedDesk View) : Type 0 where
  pub words : length s.words ≡ 1
  pub bit : slice_index s.words 0 ≤ 1
  pub out : total is_out s.views ≡ slice_index s.words 0
  pub home : slice_index s.words 0 ≡ 0 → get_elem? s.homes 0 ≡ some (some x)
  pub taken : (id : ℕ) (v : View) (y : ClockedDesk) → get_elem? s.views id ≡ some v
      → v.found ≡ Some y → y ≡ x

-- Some sequence of turns leads to this table. Each turn that a view notes is in it, and there are
-- as many notes as turns.
pub record Keeps (sizes : ThreadSizes) (s : State ClockedDesk View) : Type 0 where
  pub first : ClockedDesk
  pub fresh : IsFresh sizes first.desk.board
  pub early : first.clock ≡ 0
  pub turns : List Turn
  pub legal : AreTurns first turns
  pub notes : (id : ℕ) (v : View) → get_elem? s.views id ≡ some v → Each (IsIn turns) v.notes
  pub counted : total (λ (v : View). length v.notes) s.views ≡ length turns
  pub held : IsHeld (last_desk first turns) s
