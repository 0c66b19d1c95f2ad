-- What the answers say.
use Rattle.std.specs.Prelude.{ℕ}
use Rattle.lanes.specs.declared.submits.Submitted.{Submitted}
use Rattle.lanes.specs.declared.submits.Submitted.TheVariants.{Accepted, Full, Closed, Spent}
use Rattle.lanes.specs.declared.record.LaneJob.{LaneJob}
use Rattle.lanes.specs.declared.rounds.Looked.{Looked}
use Rattle.lanes.specs.declared.rounds.Looked.TheVariants.{Jobs, NoneLeft, AllTaken}
use Rattle.lanes.specs.declared.rounds.TakenAny.{TakenAny}
use Rattle.lanes.specs.declared.rounds.TakenAny.TheVariants.{AnyJob, NoJob, AllEnded}
use Rattle.lanes.specs.declared.takes.Taken.{Taken}
use Rattle.lanes.specs.declared.takes.Taken.TheVariants.{Job, Empty, Lost, Ended}
use Rattle.cubejobs_lanes.specs.declared.answers.SubmitAnswer.{SubmitAnswer}
use Rattle.cubejobs_lanes.specs.declared.answers.JobAnswer.{JobAnswer}
use Rattle.cubejobs_lanes.specs.declared.answers.LookAnswer.{LookAnswer}
use Rattle.cubejobs_lanes.specs.declared.codes.TheConstants.{CLOSED, DONE, EMPTY, ENDED, FULL, LOST, SPENT}

-- The answer of a submit.
abbrev pub submit_answer : Submitted → SubmitAnswer
submit_answer (Accepted seq) = record { code = DONE; seq = seq }
submit_answer Full = record { code = FULL; seq = 0 }
submit_answer Closed = record { code = CLOSED; seq = 0 }
submit_answer Spent = record { code = SPENT; seq = 0 }

-- An answer with this code and no job.
abbrev pub no_job : ℕ → JobAnswer
no_job code = record { code = code; lane = 0; dim = 0; seq = 0; payload = 0; left = 0 }

-- An answer with this job of a lane, and the number of jobs after it.
abbrev pub job_answer : ℕ → LaneJob → ℕ → JobAnswer
job_answer lane j left = record { code = DONE; lane = lane; dim = j.dim; seq = j.seq; payload = j.payload; left = left }

-- The answer of a take from this lane.
abbrev pub take_answer : ℕ → Taken → JobAnswer
take_answer lane (Job j left) = job_answer lane j left
take_answer lane Empty = no_job EMPTY
take_answer lane Lost = no_job LOST
take_answer lane Ended = no_job ENDED

-- The answer of a take from any lane.
abbrev pub any_answer : TakenAny → JobAnswer
any_answer (AnyJob lane j left) = job_answer lane j left
any_answer NoJob = no_job EMPTY
any_answer AllEnded = no_job ENDED

-- The answer of a look.
abbrev pub look_answer : Looked → LookAnswer
look_answer (Jobs n) = record { code = DONE; jobs = n }
look_answer NoneLeft = record { code = EMPTY; jobs = 0 }
look_answer AllTaken = record { code = ENDED; jobs = 0 }
