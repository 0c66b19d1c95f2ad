-- What calls on a shared scheduler do: each makes one turn.
use Rattle.std.specs.Prelude.{max, ◌≡◌, ◌≢◌, ℕ, ◌<◌, ◌⊎◌, Option, Result, Some, None, Ok, Err, [], ◌∷◌, IfSome, IfNone}
use Rattle.sched_board.specs.Pool.{worker_in, workers_of}
use Rattle.sched_board.specs.declared.serving.Served.{Served}
use Rattle.sched_board.specs.declared.serving.WorkerStage.TheVariants.{Asked as Waits, Has as Works}
use Rattle.sched_board.specs.declared.board.JobBoard.{JobBoard}
use Rattle.sched_threads.specs.declared.chair.Chair.TheVariants.{Free, Out, Asked, Has}
use Rattle.sched_threads.specs.declared.desk.WrongState.{WrongState}
use Rattle.sched_threads.specs.declared.threads.Threads.{Threads}
use Rattle.sched_threads.specs.declared.view.Turn.{Turn}
use Rattle.sched_threads.specs.declared.clocked.ClockedDesk.{ClockedDesk}
use Rattle.sched_threads.specs.Desk.{DeskData, HasOtherChairs, HasUnseen, IsSameDesk, chair_of, stage_of, stage_to_end}
use Rattle.sched_threads.specs.Handle.{table_of}
use Rattle.sched_threads.specs.Seats.{SeatOf}
use Rattle.sched_threads.specs.Step.{IsBarred}
use Rattle.sched_threads.specs.Turns.{IsServing, IsStopping, Moves}
use Rattle.sched_threads.specs.View.{view}

-- The thread noted this turn, and no other.
abbrev pub Notes : SeatOf → Turn → Type 0
Notes receipt turn = receipt.me ≡ (view (turn ∷ []) None, [])

-- The thread is at the table of this scheduler. It made a turn with this property, from one desk to
-- another.
abbrev pub MadeTurn : Threads → SeatOf → (ClockedDesk → ClockedDesk → Type 0) → Type 0
MadeTurn threads receipt Does =
    (receipt.table_id ≡ table_of threads.turns)
    × ((turn : Turn) × Notes receipt turn × Does turn.from turn.to)

-- The thread is at the table of this scheduler. It made no turn, and found that another thread had
-- it.
abbrev pub WasBarred : Threads → SeatOf → Type 0
WasBarred threads receipt = (receipt.table_id ≡ table_of threads.turns) × IsBarred receipt.me

-- The turn has this property of the two desks, at the later of this time and that of the clock. The
-- clock shows that time then.
abbrev pub Timed : ℕ → (ℕ → DeskData → DeskData → Type 0) → ClockedDesk → ClockedDesk → Type 0
Timed now Does x y =
    Does (max now x.clock) x.desk y.desk × (y.clock ≡ max now x.clock)

-- The turn has this property of the two desks. The clock shows the same time.
abbrev pub Untimed : (DeskData → DeskData → Type 0) → ClockedDesk → ClockedDesk → Type 0
Untimed Does x y = Does x.desk y.desk × (y.clock ≡ x.clock)

-- The same property of the boards of two desks. What is known of the workers' threads is the same.
-- Each worker does the same, or got a job for which it waited.
abbrev pub OnBoards : (JobBoard → JobBoard → Type 0) → DeskData → DeskData → Type 0
OnBoards Does x y =
    Does x.board y.board × (y.chairs ≡ x.chairs) × Moves None x.board y.board

-- What a worker gets that asks for its next job.
abbrev pub IsNextAnswer : ℕ → ℕ → Result Served WrongState → DeskData → DeskData → Type 0
IsNextAnswer now u (Ok served) x y =
    IsServing now (stage_of (chair_of x u)) u served x.board y.board
    × IfSome served.start (λ start. chair_of y u ≡ Has)
    × IfNone served.start (chair_of y u ≡ Asked) × HasOtherChairs x y u
    × Moves (Some u) x.board y.board
IsNextAnswer now u (Err why) x y = (chair_of x u ≡ Free) × IsSameDesk x y

-- What a thread gets that asks to be a worker.
abbrev pub IsSitAnswer : Option ℕ → DeskData → DeskData → Type 0
IsSitAnswer (Some u) x y =
    (y.board ≡ x.board) × (u < workers_of y.board.pool) × (chair_of x u ≡ Free)
    × (chair_of y u ≡ Out) × HasOtherChairs x y u
IsSitAnswer None x y =
    ((u : ℕ) → u < workers_of x.board.pool → chair_of x u ≢ Free) × IsSameDesk x y

-- What a worker gets that is to wait no longer.
abbrev pub IsGiveUpAnswer : ℕ → ℕ → Result Served WrongState → DeskData → DeskData → Type 0
IsGiveUpAnswer now u (Ok served) x y =
    (chair_of x u ≡ Asked) × IsStopping now Waits u served x.board y.board
    × IfSome served.start (λ start. chair_of y u ≡ Has)
    × IfNone served.start (chair_of y u ≡ Out) × HasOtherChairs x y u
    × Moves (Some u) x.board y.board
IsGiveUpAnswer now u (Err why) x y = (chair_of x u ≢ Asked) × IsSameDesk x y

-- What a worker gets whose job ends.
abbrev pub IsDoneAnswer : ℕ → ℕ → Result Served WrongState → DeskData → DeskData → Type 0
IsDoneAnswer now u (Ok served) x y =
    (chair_of x u ≡ Has) × IsStopping now Works u served x.board y.board
    × (chair_of y u ≡ Out) × HasOtherChairs x y u
    × Moves (Some u) x.board y.board
IsDoneAnswer now u (Err why) x y = (chair_of x u ≢ Has) × IsSameDesk x y

-- What a thread gets that is to be its worker no longer.
abbrev pub IsRiseAnswer : ℕ → ℕ → Result Served WrongState → DeskData → DeskData → Type 0
IsRiseAnswer now u (Ok served) x y =
    (chair_of x u ≢ Free) × (HasUnseen x u → ⊥)
    × IsStopping now (stage_of (chair_of x u)) u served x.board y.board
    × (served.start ≡ None) × (chair_of y u ≡ Free) × HasOtherChairs x y u
    × Moves (Some u) x.board y.board
IsRiseAnswer now u (Err why) x y = ((chair_of x u ≡ Free) ⊎ HasUnseen x u) × IsSameDesk x y

-- What is answered when the thread of a worker is gone.
abbrev pub IsLoseAnswer : ℕ → ℕ → Result Served WrongState → DeskData → DeskData → Type 0
IsLoseAnswer now u (Ok served) x y =
    (chair_of x u ≢ Free)
    × IsStopping now (stage_to_end (chair_of x u) (worker_in x.board.pool u)) u served x.board y.board
    × (served.start ≡ None) × (chair_of y u ≡ Free) × HasOtherChairs x y u
    × Moves (Some u) x.board y.board
IsLoseAnswer now u (Err why) x y = (chair_of x u ≡ Free) × IsSameDesk x y
