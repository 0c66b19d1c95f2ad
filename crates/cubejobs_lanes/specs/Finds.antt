-- What the answers of the calls say by which workers sleep and wake each other.
use Rattle.std.specs.Prelude.{ℕ, Option, Some, None}
use Rattle.lanes.specs.declared.finder.Found.{Found}
use Rattle.lanes.specs.declared.finder.Found.TheVariants.{Job, Ended, Park, Again}
use Rattle.wake_calls.specs.declared.waking.Wake.{Wake as WakeOutcome}
use Rattle.wake_calls.specs.declared.waking.Wake.TheVariants as wake
use Rattle.cubejobs_lanes.specs.declared.codes.TheConstants.{AGAIN, DONE, ENDED, NO_WORKER, NOBODY, PARK}
use Rattle.cubejobs_lanes.specs.declared.find_answer.FindAnswer.{FindAnswer}
use Rattle.cubejobs_lanes.specs.declared.find_answer.WakeAnswer.{WakeAnswer}

-- The number of a worker that was given its token, or the number that names none.
abbrev pub woken_number : Option ℕ → ℕ
woken_number (Some number) = number
woken_number None = NO_WORKER

-- An answer with this code, this worker to be woken, and no job.
abbrev pub no_find : ℕ → ℕ → FindAnswer
no_find code woken = record { code = code; lane = 0; dim = 0; woken = woken; seq = 0; payload = 0; left = 0 }

-- The answer of a call that found this, with this worker to be woken.
abbrev pub find_answer : Found → ℕ → FindAnswer
find_answer (Job lane j left) woken = record { code = DONE; lane = lane; dim = j.dim; woken = woken; seq = j.seq; payload = j.payload; left = left }
find_answer Ended woken = no_find ENDED woken
find_answer Park woken = no_find PARK woken
find_answer Again woken = no_find AGAIN woken

-- The answer of a wake.
abbrev pub wake_answer : WakeOutcome → WakeAnswer
wake_answer (wake.Worker number) = record { code = DONE; worker = number }
wake_answer wake.Nobody = record { code = NOBODY; worker = 0 }
wake_answer (wake.Again left) = record { code = AGAIN; worker = 0 }
