-- What calls answer by which a shared scheduler is emptied, and the turns of each answer.
use denote.Enum.Bare.{sameb}
use Rattle.std.proofs.Common.{true≢false, ◌≡◌, ℕ, Bool, true, false, IsTrue, IsFalse, Option, Result, Ok, Err, refl}
use Rattle.sched_board.specs.declared.board.JobBoard.{JobBoard}
use Rattle.sched_board.specs.contracts.board.BoardPhase.{the_type}
use Rattle.sched_board.specs.declared.board.BoardPhase.{BoardPhase}
use Rattle.sched_board.specs.declared.board.BoardPhase.TheVariants.{Open, Closing, Stopped}
use Rattle.sched_board.specs.declared.calls.RestJob.{RestJob}
use Rattle.sched_board.specs.JobBoard.{is_closed}
use Rattle.sched_threads.specs.declared.desk.WrongState.{WrongState}
use Rattle.sched_threads.specs.Desk.{DeskData}
use Rattle.sched_threads.specs.EndCalls.{IsGivenBack, IsUnused, IsUsed, SaysUse}
use Rattle.sched_threads.proofs.AnswerLemmas.{deeds_none, deeds_rest}
use Rattle.sched_threads.specs.Rule.{HasDeeds}

pub deeds_given : (time : ℕ) (from : ℕ) (answer : Result (Option RestJob) WrongState) (x y : JobBoard)
    → IsGivenBack from answer x y
    → HasDeeds time x y
deeds_given time from (Ok rest) x y is = deeds_rest time from rest x y is.1
deeds_given time from (Err why) x y is = deeds_none time x y is.1

pub says_use : (answer : Bool) (x : DeskData) → (IsTrue answer → IsUsed x) → (IsFalse answer → IsUnused x) → SaysUse answer x
says_use true x used unused = used refl
says_use false x used unused = unused refl

-- A board in which jobs may not come is closed.
pub closed_of : (phase : BoardPhase) → sameb the_type phase Open ≡ false → is_closed phase ≡ true
closed_of Open differs = absurd (true≢false differs)
closed_of Closing differs = refl
closed_of Stopped differs = refl
