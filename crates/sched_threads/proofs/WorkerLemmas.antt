-- What calls of workers answer, and the turns that they make.
use Rattle.std.proofs.Common.{◌≡◌, ◌≢◌, ℕ, ◌<◌, ◌≤◌, ◌⊎◌, max, Option, Some, None, Result, Ok, Err, IfOk, IfErr, IfSome, IfNone, List, length, sym, refl, ap, subst, arith}
use Rattle.std.proofs.Math.Nat.{le-max_right}
use Rattle.sched_board.specs.declared.workers.PoolWorker.{PoolWorker}
use Rattle.sched_board.specs.Pool.{worker_in, workers_of}
use Rattle.sched_board.specs.declared.board.JobBoard.{JobBoard}
use Rattle.sched_board.specs.declared.serving.WorkerStage.{WorkerStage}
use Rattle.sched_board.specs.declared.serving.WorkerStage.TheVariants.{Asked as Waits, Has as Works}
use Rattle.sched_board.specs.declared.serving.Served.{Served}
use Rattle.sched_board.specs.Served.{deeds_of, deeds_to_stop}
use Rattle.sched_threads.specs.declared.chair.Chair.TheVariants.{Free, Out, Asked, Has}
use Rattle.sched_threads.specs.declared.desk.WrongState.{WrongState}
use Rattle.sched_threads.specs.declared.clocked.ClockedDesk.{ClockedDesk}
use Rattle.sched_threads.specs.Desk.{DeskData, HasOtherChairs, HasUnseen, IsSameDesk, chair_of, stage_of, stage_to_end}
use Rattle.sched_threads.specs.Turns.{IsServing, IsStopping, Moves}
use Rattle.sched_threads.specs.Calls.{IsDoneAnswer, IsGiveUpAnswer, IsLoseAnswer, IsNextAnswer, IsRiseAnswer, IsSitAnswer, Timed, Untimed}
use Rattle.sched_threads.specs.Rule.{HasDeeds, IsTurn}
use Rattle.sched_threads.proofs.AnswerLemmas.{deeds_none, deeds_unchanged}

-- ---- answers to workers

pub next_answer : (now : ℕ) (u : ℕ) (answer : Result Served WrongState) (x y : DeskData)
    → IfOk answer (λ served. IsServing now (stage_of (chair_of x u)) u served x.board y.board)
    → IfOk answer (λ served. IfSome served.start (λ start. chair_of y u ≡ Has))
    → IfOk answer (λ served. IfNone served.start (chair_of y u ≡ Asked))
    → IfOk answer (λ served. HasOtherChairs x y u)
    → IfOk answer (λ served. Moves (Some u) x.board y.board)
    → IfErr answer (λ why. chair_of x u ≡ Free)
    → IfErr answer (λ why. IsSameDesk x y)
    → IsNextAnswer now u answer x y
next_answer now u (Ok served) x y serving has asked others moves wrong same = (serving, has, asked, others, moves)
next_answer now u (Err why) x y serving has asked others moves wrong same = (wrong, same)

pub give_up_answer : (now : ℕ) (u : ℕ) (answer : Result Served WrongState) (x y : DeskData)
    → IfOk answer (λ served. chair_of x u ≡ Asked)
    → IfOk answer (λ served. IsStopping now Waits u served x.board y.board)
    → IfOk answer (λ served. IfSome served.start (λ start. chair_of y u ≡ Has))
    → IfOk answer (λ served. IfNone served.start (chair_of y u ≡ Out))
    → IfOk answer (λ served. HasOtherChairs x y u)
    → IfOk answer (λ served. Moves (Some u) x.board y.board)
    → IfErr answer (λ why. chair_of x u ≢ Asked)
    → IfErr answer (λ why. IsSameDesk x y)
    → IsGiveUpAnswer now u answer x y
give_up_answer now u (Ok served) x y asked stopped has out others moves wrong same = (asked, stopped, has, out, others, moves)
give_up_answer now u (Err why) x y asked stopped has out others moves wrong same = (wrong, same)

pub done_answer : (now : ℕ) (u : ℕ) (answer : Result Served WrongState) (x y : DeskData)
    → IfOk answer (λ served. chair_of x u ≡ Has)
    → IfOk answer (λ served. IsStopping now Works u served x.board y.board)
    → IfOk answer (λ served. chair_of y u ≡ Out)
    → IfOk answer (λ served. HasOtherChairs x y u)
    → IfOk answer (λ served. Moves (Some u) x.board y.board)
    → IfErr answer (λ why. chair_of x u ≢ Has)
    → IfErr answer (λ why. IsSameDesk x y)
    → IsDoneAnswer now u answer x y
done_answer now u (Ok served) x y had stopped out others moves wrong same = (had, stopped, out, others, moves)
done_answer now u (Err why) x y had stopped out others moves wrong same = (wrong, same)

pub rise_answer : (now : ℕ) (u : ℕ) (answer : Result Served WrongState) (x y : DeskData)
    → IfOk answer (λ served. chair_of x u ≢ Free)
    → IfOk answer (λ served. HasUnseen x u → ⊥)
    → IfOk answer (λ served. IsStopping now (stage_of (chair_of x u)) u served x.board y.board)
    → IfOk answer (λ served. served.start ≡ None)
    → IfOk answer (λ served. chair_of y u ≡ Free)
    → IfOk answer (λ served. HasOtherChairs x y u)
    → IfOk answer (λ served. Moves (Some u) x.board y.board)
    → IfErr answer (λ why. (chair_of x u ≡ Free) ⊎ HasUnseen x u)
    → IfErr answer (λ why. IsSameDesk x y)
    → IsRiseAnswer now u answer x y
rise_answer now u (Ok served) x y sat seen stopped no_job free others moves wrong same = (sat, seen, stopped, no_job, free, others, moves)
rise_answer now u (Err why) x y sat seen stopped no_job free others moves wrong same = (wrong, same)

pub lose_answer : (now : ℕ) (u : ℕ) (answer : Result Served WrongState) (x y : DeskData)
    → IfOk answer (λ served. chair_of x u ≢ Free)
    → IfOk answer (λ served. IsStopping now (stage_to_end (chair_of x u) (worker_in x.board.pool u)) u served x.board y.board)
    → IfOk answer (λ served. served.start ≡ None)
    → IfOk answer (λ served. chair_of y u ≡ Free)
    → IfOk answer (λ served. HasOtherChairs x y u)
    → IfOk answer (λ served. Moves (Some u) x.board y.board)
    → IfErr answer (λ why. chair_of x u ≡ Free)
    → IfErr answer (λ why. IsSameDesk x y)
    → IsLoseAnswer now u answer x y
lose_answer now u (Ok served) x y sat stopped no_job free others moves wrong same = (sat, stopped, no_job, free, others, moves)
lose_answer now u (Err why) x y sat stopped no_job free others moves wrong same = (wrong, same)

pub sit_answer : (answer : Option ℕ) (x y : DeskData)
    → y.board ≡ x.board
    → IfSome answer (λ u. u < workers_of y.board.pool)
    → IfSome answer (λ u. chair_of x u ≡ Free)
    → IfSome answer (λ u. chair_of y u ≡ Out)
    → IfSome answer (HasOtherChairs x y)
    → IfNone answer ((u : ℕ) → u < workers_of x.board.pool → chair_of x u ≢ Free)
    → IfNone answer (IsSameDesk x y)
    → IsSitAnswer answer x y
sit_answer (Some u) x y board inside free here others none same = (board, inside, free, here, others)
sit_answer None x y board inside free here others none same = (none, same)

-- ---- turns of workers

-- Some deeds lead from one desk to another, and then decisions at this time.
abbrev pub DeskTurn : ℕ → DeskData → DeskData → Type 0
DeskTurn time x y =
    HasDeeds time x.board y.board × (workers_of y.board.pool ≡ workers_of x.board.pool)

counted_same : (x y : DeskData) → IsSameDesk x y → workers_of y.board.pool ≡ workers_of x.board.pool
counted_same x y same = ap (λ (ws : List PoolWorker). length ws) same.0.1

pub turn_same : (time : ℕ) (x y : DeskData) → IsSameDesk x y → DeskTurn time x y
turn_same time x y same = (deeds_unchanged time x.board y.board same.0, counted_same x y same)

pub next_turn : (now u : ℕ) (answer : Result Served WrongState) (x y : DeskData)
    → IsNextAnswer now u answer x y
    → DeskTurn now x y
next_turn now u (Ok served) x y is = ((deeds_of (stage_of (chair_of x u)) u, is.0.follows), is.4.1)
next_turn now u (Err why) x y is = turn_same now x y is.1

pub sit_turn : (time : ℕ) (x y : DeskData) → y.board ≡ x.board → DeskTurn time x y
sit_turn time x y same = (deeds_none time x.board y.board same, ap (λ (b : JobBoard). workers_of b.pool) same)

pub stop_turn : (now : ℕ) (u : ℕ) (answer : Result Served WrongState) (stage : WorkerStage) (x y : DeskData)
    → IfOk answer (λ served. IsStopping now stage u served x.board y.board)
    → IfOk answer (λ served. Moves (Some u) x.board y.board)
    → IfErr answer (λ why. IsSameDesk x y)
    → DeskTurn now x y
stop_turn now u (Ok served) stage x y stopped moves same =
    ((deeds_to_stop stage (worker_in x.board.pool u) u, stopped.follows), moves.1)
stop_turn now u (Err why) stage x y stopped moves same = turn_same now x y same

-- A turn that only reads.
pub read_turn : (time : ℕ) (x y : DeskData) → y ≡ x → DeskTurn time x y
read_turn time x y same = sit_turn time x y (ap (λ (d : DeskData). d.board) same)

-- ---- turns with a clock

pub timed_turn : (now time : ℕ) (x : ClockedDesk) (y : DeskData)
    → time ≡ max now x.clock
    → DeskTurn time x.desk y
    → IsTurn x (record { desk = y; clock = time })
timed_turn now time x y is turn =
    (turn.0, turn.1, subst (λ (t : ℕ). x.clock ≤ t) (sym is) (le-max_right now x.clock))

pub timed : (now time : ℕ) (x : ClockedDesk) (y : DeskData) (Does : ℕ → DeskData → DeskData → Type 0)
    → time ≡ max now x.clock
    → Does time x.desk y
    → Timed now Does x (record { desk = y; clock = time })
timed now time x y Does is does = (subst (λ (t : ℕ). Does t x.desk y) is does, is)

pub untimed_turn : (x : ClockedDesk) (y : DeskData)
    → DeskTurn x.clock x.desk y
    → IsTurn x (record { desk = y; clock = x.clock })
untimed_turn x y turn = (turn.0, turn.1, omega arith)

pub untimed : (x : ClockedDesk) (y : DeskData) (Does : DeskData → DeskData → Type 0)
    → Does x.desk y
    → Untimed Does x (record { desk = y; clock = x.clock })
untimed x y Does does = (does, refl)
