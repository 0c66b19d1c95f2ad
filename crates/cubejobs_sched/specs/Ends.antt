-- How a scheduler begins and ends.
use Rattle.std.specs.Prelude.{◌≡◌, ◌⊎◌, true, false, Option, Some, None}
use Rattle.sched_board.specs.declared.sizes.ThreadSizes.{ThreadSizes}
use Rattle.sched_threads.specs.declared.threads.Threads.{Threads}
use Rattle.sched_threads.specs.Calls.{MadeTurn, Untimed, WasBarred}
use Rattle.sched_threads.specs.EndCalls.{LooksForUse}
use Rattle.sched_threads.specs.Handle.{sizes_of}
use Rattle.sched_threads.specs.Seats.{SeatOf}
use Rattle.cubejobs_sched.specs.declared.options.SchedOptions.{SchedOptions}
use Rattle.cubejobs_sched.specs.declared.ownership.Ownership.{Ownership}
use Rattle.cubejobs_sched.specs.Handle.{HasThreads, OnThreads}
use Rattle.cubejobs_sched.specs.Ownership.{IsSoleOwner}

-- The sizes that are asked for.
abbrev pub sizes_in : SchedOptions → ThreadSizes
sizes_in options = record { dim = options.dim; jobs = options.jobs; patience = options.patience; workers = options.workers }

-- There is a scheduler of these sizes. It began without jobs, and no thread was a worker.
abbrev pub IsNew : SchedOptions → Option Ownership → Type 0
IsNew options = OnThreads (λ threads. sizes_of threads.turns ≡ sizes_in options)

-- Both own a scheduler, and it is the same.
abbrev pub IsSameOwned : Option Ownership → Option Ownership → Type 0
IsSameOwned one other = OnThreads (HasThreads other) one

-- No other handle owns the scheduler.
abbrev pub IsSole : Option Ownership → Type 0
IsSole (Some owner) = IsSoleOwner owner
IsSole None = ⊥

-- The receipt notes a turn of the scheduler, which saw that no thread is a worker, and that no job
-- waits or runs.
abbrev pub SawUnused : Threads → SeatOf → Type 0
SawUnused threads receipt = MadeTurn threads receipt (Untimed (LooksForUse false))

-- The receipt notes a turn of the scheduler, which saw that a thread is a worker, or that a job
-- waits or runs. Or it notes that another thread had the turn.
abbrev pub SawUse : Threads → SeatOf → Type 0
SawUse threads receipt = MadeTurn threads receipt (Untimed (LooksForUse true)) ⊎ WasBarred threads receipt
