-- A scheduler, and its owner.
use Rattle.std.specs.Prelude.{⊤}
use Rattle.std.specs.Arc.{arc_value}
use Rattle.sched_threads.specs.declared.threads.Threads.{Threads}
use Rattle.cubejobs_sched.specs.declared.ownership.Ownership.{Ownership}
use Rattle.cubejobs_sched.specs.declared.ownership.Ownership.TheVariants.{Shared, Sole}

-- The scheduler that it owns.
abbrev pub threads_owned : Ownership → Threads
threads_owned (Shared threads) = arc_value threads
threads_owned (Sole threads) = threads

-- No other handle owns it.
abbrev pub IsSoleOwner : Ownership → Type 0
IsSoleOwner (Shared threads) = ⊥
IsSoleOwner (Sole threads) = ⊤
