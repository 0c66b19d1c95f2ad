-- What a caller in C knows of the turn that its call made.
use Rattle.std.specs.Prelude.{◌≡◌, ◌⊎◌}
use Rattle.sched_threads.specs.declared.threads.Threads.{Threads}
use Rattle.sched_threads.specs.Calls.{MadeTurn, WasBarred}
use Rattle.sched_threads.specs.declared.clocked.ClockedDesk.{ClockedDesk}
use Rattle.sched_threads.specs.Seats.{SeatOf}
use Rattle.cubejobs_sched.specs.declared.answer.SchedAnswer.{SchedAnswer}
use Rattle.cubejobs_sched.specs.declared.codes.TheConstants.{NOT_NOW}
use Rattle.cubejobs_sched.specs.declared.handle.Handle.{Handle}
use Rattle.cubejobs_sched.specs.Answers.{refusal}
use Rattle.cubejobs_sched.specs.Handle.{OnThreads, owner_of, receipt_of}

-- The receipt notes a turn of the scheduler with this property. The caller sees what it answered.
abbrev pub Made : {A B : Type 0} → Threads → SeatOf → (A → ClockedDesk → ClockedDesk → Type 0) → (A → B) → B → Type 0
Made {A} {B} threads receipt Does says result =
    (answer : A) × MadeTurn threads receipt (Does answer) × (result ≡ says answer)

-- The same, or the receipt notes that another thread had the turn, and the caller sees that.
abbrev pub MadeOr : {A B : Type 0} → B → Threads → SeatOf → (A → ClockedDesk → ClockedDesk → Type 0) → (A → B) → B → Type 0
MadeOr barred threads receipt Does says result =
    ((result ≡ barred) × WasBarred threads receipt) ⊎ Made threads receipt Does says result

-- The same, where the caller sees `NOT_NOW`.
abbrev pub MayTurn : {A : Type 0} → Threads → SeatOf → (A → ClockedDesk → ClockedDesk → Type 0) → (A → SchedAnswer) → SchedAnswer → Type 0
MayTurn threads receipt Does says result = MadeOr (refusal NOT_NOW) threads receipt Does says result

-- The same of the scheduler of a handle, and of the receipt that the handle keeps.
abbrev pub MadeAt : {A B : Type 0} → Handle → B → (A → ClockedDesk → ClockedDesk → Type 0) → (A → B) → B → Type 0
MadeAt handle barred Does says result =
    OnThreads (λ threads. MadeOr barred threads (receipt_of handle) Does says result) (owner_of handle)

-- The same, where the caller sees `NOT_NOW`.
abbrev pub MayMake : {A : Type 0} → Handle → (A → ClockedDesk → ClockedDesk → Type 0) → (A → SchedAnswer) → SchedAnswer → Type 0
MayMake handle Does says result = MadeAt handle (refusal NOT_NOW) Does says result
