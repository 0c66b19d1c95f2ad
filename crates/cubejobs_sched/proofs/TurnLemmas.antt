-- The turn of a call, as its caller sees it.
use Rattle.std.proofs.Common.{◌≡◌, Bool, true, false, IsTrue, IsFalse, true≢false, Option, Some, None, inl, inr, sym, subst}
use Rattle.sched_threads.specs.declared.threads.Threads.{Threads}
use Rattle.sched_threads.specs.Calls.{MadeTurn, Untimed, WasBarred}
use Rattle.sched_threads.specs.declared.clocked.ClockedDesk.{ClockedDesk}
use Rattle.sched_threads.specs.EndCalls.{LooksForUse}
use Rattle.sched_threads.specs.Seats.{SeatOf}
use Rattle.cubejobs_sched.specs.declared.ownership.Ownership.{Ownership}
use Rattle.cubejobs_sched.specs.Ends.{SawUnused, SawUse}
use Rattle.cubejobs_sched.specs.Handle.{HasThreads, OnThreads}
use Rattle.cubejobs_sched.specs.Turns.{MadeOr}

pub made : {A B : Type 0} (nothing : B) (threads : Threads) (receipt : SeatOf) (Does : A → ClockedDesk → ClockedDesk → Type 0) (says : A → B) (result : B) (answer : A)
    → MadeTurn threads receipt (Does answer)
    → result ≡ says answer
    → MadeOr nothing threads receipt Does says result
made nothing threads receipt Does says result answer turn is = inr (answer, turn, is)

pub barred : {A B : Type 0} (nothing : B) (threads : Threads) (receipt : SeatOf) (Does : A → ClockedDesk → ClockedDesk → Type 0) (says : A → B) (result : B)
    → WasBarred threads receipt
    → result ≡ nothing
    → MadeOr nothing threads receipt Does says result
barred nothing threads receipt Does says result seen is = inl (is, seen)

-- What is true of a scheduler is true of the one that the handle has.
pub on_threads : (owner : Option Ownership) (threads : Threads) (P : Threads → Type 0)
    → HasThreads owner threads
    → P threads
    → OnThreads P owner
on_threads None threads P has p = absurd has
on_threads (Some own) threads P has p = subst P (sym has) p

-- The handle keeps the receipt of the call.
pub kept : {A B : Type 0} (nothing : B) (owner : Option Ownership) (threads : Threads) (receipt held : SeatOf) (Does : A → ClockedDesk → ClockedDesk → Type 0) (says : A → B) (result : B)
    → HasThreads owner threads
    → held ≡ receipt
    → MadeOr nothing threads receipt Does says result
    → OnThreads (λ t. MadeOr nothing t held Does says result) owner
kept nothing owner threads receipt held Does says result has same done =
    on_threads owner threads (λ t. MadeOr nothing t held Does says result) has
    (subst (λ (r : SeatOf). MadeOr nothing threads r Does says result) (sym same) done)

-- ---- turns that looked for use

pub saw_use : (used : Bool) (threads : Threads) (receipt : SeatOf)
    → MadeTurn threads receipt (Untimed (LooksForUse used))
    → IsTrue used
    → SawUse threads receipt
saw_use true threads receipt turn is = inl turn
saw_use false threads receipt turn is = absurd (true≢false (sym is))

pub saw_unused : (used : Bool) (threads : Threads) (receipt : SeatOf)
    → MadeTurn threads receipt (Untimed (LooksForUse used))
    → IsFalse used
    → SawUnused threads receipt
saw_unused true threads receipt turn is = absurd (true≢false is)
saw_unused false threads receipt turn is = turn
