-- What a contract sees of a handle.
use Rattle.std.specs.Prelude.{◌≡◌, Option, Some, None}
use Rattle.sched_threads.specs.declared.threads.Threads.{Threads}
use Rattle.sched_threads.specs.HiddenReceipts.{seat_in}
use Rattle.sched_threads.specs.Seats.{SeatOf}
use Rattle.cubejobs_sched.specs.declared.handle.Handle.{Handle}
use Rattle.cubejobs_sched.specs.declared.ownership.Ownership.{Ownership}
use Rattle.cubejobs_sched.specs.OwnerIn.{owner_in}
use Rattle.cubejobs_sched.specs.Ownership.{threads_owned}

-- The owner of the scheduler of a handle, if it is open.
abbrev pub owner_of : Handle → Option Ownership
owner_of handle = owner_in handle.at.content

-- The receipt of the last call that tried to make a turn.
abbrev pub receipt_of : Handle → SeatOf
receipt_of handle = seat_in handle.receipt

-- The handle is open, and its scheduler has this property.
abbrev pub OnThreads : (Threads → Type 0) → Option Ownership → Type 0
OnThreads P (Some owner) = P (threads_owned owner)
OnThreads P None = ⊥

-- The handle has this scheduler.
abbrev pub HasThreads : Option Ownership → Threads → Type 0
HasThreads owner threads = OnThreads (λ own. own ≡ threads) owner
