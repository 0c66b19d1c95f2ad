-- What a worker does at the moment, by what it has done or by where it is between two calls.
use Rattle.std.specs.Prelude.{Bool, true, false}
use Rattle.wake_pool.specs.declared.phase.WakePhase.{WakePhase as Phase}
use Rattle.wake_pool.specs.declared.phase.WakePhase.TheVariants.{Idle, Searching, Found, Returning, Reading, Parked}
use Rattle.wake_pool.specs.Schedule.{waking}
use Rattle.wake_pool.specs.Words.{word_count}
use Rattle.lanes.specs.declared.sizes.Plan.{Plan}
use Rattle.lanes.specs.declared.takes.Taken.{Taken}
use Rattle.lanes.specs.declared.takes.Taken.TheVariants.{Job, Empty, Lost, Ended}
use Rattle.lanes.specs.declared.rounds.TakenAny.{TakenAny}
use Rattle.lanes.specs.declared.rounds.TakenAny.TheVariants.{AnyJob, NoJob, AllEnded}
use Rattle.lanes.specs.declared.finder.At.{At}
use Rattle.lanes.specs.declared.finder.At.TheVariants.{Idle as AtIdle, Waking as AtWaking, Searching as AtSearching, HasWork as AtWork, Returning as AtReturning, Reading as AtReading, Parked as AtParked}

-- A worker takes jobs as an idle one, or as the searcher.
abbrev pub ready_phase : Bool → Phase
ready_phase true = Searching
ready_phase false = Idle

-- The same once it has taken a job.
abbrev pub done_phase : Bool → Phase
done_phase true = Found
done_phase false = Idle

-- Its phase after a take in one lane, by whether it was the searcher.
abbrev pub taken_phase : Bool → Taken → Phase
taken_phase searches (Job job left) = done_phase searches
taken_phase searches Empty = ready_phase searches
taken_phase searches Lost = ready_phase searches
taken_phase searches Ended = ready_phase searches

-- The same after a round of all lanes.
abbrev pub round_phase : Bool → TakenAny → Phase
round_phase searches (AnyJob lane job left) = done_phase searches
round_phase searches NoJob = ready_phase searches
round_phase searches AllEnded = ready_phase searches

-- What a worker does at the moment that is at this place between two calls.
abbrev pub phase_of : Plan → At → Phase
phase_of plan AtIdle = Idle
phase_of plan (AtWaking word) = waking (word_count plan.sleepers) word
phase_of plan AtSearching = Searching
phase_of plan AtWork = Found
phase_of plan AtReturning = Returning
phase_of plan AtReading = Reading
phase_of plan AtParked = Parked

-- It does not park.
abbrev pub IsAwake : At → Type 0
IsAwake AtIdle = Unit {0}
IsAwake (AtWaking word) = Unit {0}
IsAwake AtSearching = Unit {0}
IsAwake AtWork = Unit {0}
IsAwake AtReturning = Unit {0}
IsAwake AtReading = Unit {0}
IsAwake AtParked = ⊥

-- It is idle, or has still to look whether another is to be woken.
abbrev pub IsFree : At → Type 0
IsFree AtIdle = Unit {0}
IsFree (AtWaking word) = Unit {0}
IsFree AtSearching = ⊥
IsFree AtWork = ⊥
IsFree AtReturning = ⊥
IsFree AtReading = ⊥
IsFree AtParked = ⊥
