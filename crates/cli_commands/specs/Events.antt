-- The events of the jobs of a file, and the rows that list them.
use Rattle.std.specs.Prelude.{◌≡◌, ℕ, Bool, true, List, [], Option, Result, Ok, Err, map, IsPermutation}
use Rattle.std.specs.List.{All}
use Rattle.std.specs.Io.KnownBytes.{Appends}
use Rattle.job_types.specs.Job.{JobData}
use Rattle.job_types.specs.Reply.{ReplyData}
use Rattle.dispatcher.specs.Reply.{answered, IsRight}
use Rattle.job_events.specs.Events.{AreEvents, event_fields}
use Rattle.job_events.specs.declared.event.JobEvent.{JobEvent}
use Rattle.dispatcher_threads.specs.declared.running.RunEnd.{RunEnd}
use Rattle.jobs_csv.specs.declared.fault.Fault.{Fault}
use Rattle.jobs_csv.specs.Jobs.{parse_jobs}
use Rattle.jobs_csv.specs.PlaceRows.{place_columns}
use Rattle.jobs_csv.specs.Text.{file_text}
use Rattle.cli_args.specs.declared.invocation.Invocation.{Invocation}
use Rattle.cli_args.specs.declared.invocation.Invocation.TheVariants as invocation
use Rattle.cli_commands.specs.JobIds.{with_ids}
use Rattle.cli_commands.specs.declared.file_run.FileRun.{FileRun}
use Rattle.cli_commands.specs.declared.shop.AnswerError.{AnswerError}

-- The file is good, and these are the events of its jobs. They are those of one right reply to each
-- job, under the job's id.
pub record AreEventsOf (n : ℕ) (parse : Result (List JobData) Fault)
    (events : List JobEvent) : Type 0 where
  pub jobs : List JobData
  pub replies : List ReplyData
  pub good : parse ≡ Ok jobs
  pub same : IsPermutation (with_ids jobs) (map answered replies)
  pub right : All (IsRight n) replies
  pub are_events : AreEvents replies events

-- `AreEventsOf` the jobs that a command reads. The commands that run no jobs have no events.
abbrev pub HasEvents : Invocation → List ℕ → List JobEvent → Type 0
HasEvents (invocation.Run shop) bytes events =
    AreEventsOf shop.sizes.dim (parse_jobs shop.sizes.dim bytes) events
HasEvents (invocation.RunLong shop) bytes events =
    AreEventsOf shop.sizes.dim (parse_jobs shop.sizes.dim bytes) events
HasEvents (invocation.Report shop) bytes events =
    AreEventsOf shop.sizes.dim (parse_jobs shop.sizes.dim bytes) events
HasEvents (invocation.Place n) bytes events = events ≡ []
HasEvents (invocation.Replay n stations) bytes events = events ≡ []

-- The text of the rows of all events of a command on these bytes was written after what the file
-- held.
abbrev pub WritesEvents : Invocation → List ℕ → Option (List ℕ) → Option (List ℕ) → Type 0
WritesEvents invocation bytes old new =
    (events : List JobEvent) × HasEvents invocation bytes events
    × Appends old new (file_text place_columns event_fields events)

-- The run without its events, or the error.
abbrev pub run_in : {M : Type 0}
    → Result (FileRun M) (AnswerError M)
    → Result (RunEnd M) (AnswerError M)
run_in (Ok run) = Ok run.end
run_in (Err error) = Err error

-- If the events of a command on these bytes go to a file, they are written.
abbrev pub IsSunk : Bool → (List JobEvent → Type 0) → Invocation → List ℕ → Type 0
IsSunk has_file writes invocation bytes =
    has_file ≡ true → (events : List JobEvent) × HasEvents invocation bytes events × writes events
