-- What a call of the program does, by its words: which command, its answer, and how it ends.
use Rattle.std.specs.Prelude.{◌≡◌, ◌≢◌, ◌⊎◌, ◌++◌, ◌∷◌, [], ℕ, Bool, true, false, List, codes, Option, None, Some, Result, Ok, Err, IfSome, is_some, option_map, string_bytes, ⊤}
use Rattle.std.specs.Io.KnownBytes.{Appends}
use Rattle.clap.specs.Words.{Text}
use Rattle.jobs_csv.specs.declared.fault.Fault.{Fault}
use Rattle.jobs_csv.specs.declared.fault.FaultKind.TheVariants as what
use Rattle.jobs_csv.specs.Fault.{fault_text, is_refusal, status_of}
use Rattle.jobs_csv.specs.Jobs.{parse_jobs}
use Rattle.jobs_csv.specs.Place.{parse_commands}
use Rattle.jobs_csv.specs.PlaceRows.{place_columns, place_fields}
use Rattle.jobs_csv.specs.ReplayRows.{replay_columns, replay_fields}
use Rattle.jobs_csv.specs.ReportRows.{report_columns, report_fields}
use Rattle.jobs_csv.specs.Replies.{reply_columns, reply_fields}
use Rattle.jobs_csv.specs.Schedule.{parse_schedule}
use Rattle.jobs_csv.specs.Text.{file_text}
use Rattle.jobs_csv.specs.ValueRows.{values_text}
use Rattle.cli_args.specs.declared.invocation.Invocation.{Invocation}
use Rattle.cli_args.specs.declared.invocation.Request.{Request}
use Rattle.cli_args.specs.declared.invocation.Invocation.TheVariants as invocation
use Rattle.cli_args.specs.CommandLine.{AsksFor, AsksForHelp, IsBadCommandLine}
use Rattle.cli_commands.specs.declared.program.Ending.{Ending}
use Rattle.cli_commands.specs.declared.program.Ending.TheVariants.{Done, Rejected, Failed, FileFailed}
use Rattle.cli_commands.specs.Answer.{IsAnswer, IsCommandFault, IsMetBeforeWriting, IsRunFault}
use Rattle.cli_commands.specs.Events.{WritesEvents}
use Rattle.cli_commands.specs.Place.{ArePlaced}
use Rattle.cli_commands.specs.Replay.{AreReplayed}
use Rattle.cli_commands.specs.Replies.{AreReplies}
use Rattle.cli_commands.specs.Report.{AreReportRows}
use Rattle.atomic_file.specs.FileFault.{file_fault_text}
use Rattle.atomic_file.specs.Store.{KeepsFiles, KeepsOthers, begun_by, held_by}
use Rattle.atomic_file.specs.declared.file_fault.FileFault.{FileFault}
use Rattle.atomic_file.specs.declared.file_fault.FileSide.{FileSide}
use Rattle.atomic_file.specs.declared.file_fault.FileSide.TheVariants.{Input, Output, Events}

-- `IsAnswer` for each of the four commands. Jobs are answered by their replies, by the values of
-- these or by totals, commands by the first fit, and a schedule by its events.
abbrev pub IsAnswerTo : Invocation
    → List ℕ
    → Option (List ℕ)
    → Option (List ℕ)
    → Result (Unit {0}) Fault
    → Type 0
IsAnswerTo (invocation.Run shop) bytes old new result =
    IsAnswer (parse_jobs shop.sizes.dim bytes) (AreReplies shop.sizes.dim)
    (file_text reply_columns reply_fields) old new result
IsAnswerTo (invocation.RunLong shop) bytes old new result =
    IsAnswer (parse_jobs shop.sizes.dim bytes) (AreReplies shop.sizes.dim) values_text old new result
IsAnswerTo (invocation.Report shop) bytes old new result =
    IsAnswer (parse_jobs shop.sizes.dim bytes) (AreReportRows shop.sizes.dim)
    (file_text report_columns report_fields) old new result
IsAnswerTo (invocation.Place n) bytes old new result =
    IsAnswer (parse_commands n bytes) (ArePlaced n) (file_text place_columns place_fields) old new
    result
IsAnswerTo (invocation.Replay n stations) bytes old new result =
    IsAnswer (parse_schedule bytes) (AreReplayed n stations)
    (file_text replay_columns replay_fields) old new result

-- The fault is one that a command may have, by the counts of failed calls of the reader and of the
-- writer, before and after.
abbrev pub IsFaultOf : ℕ → ℕ → ℕ → ℕ → Invocation → Fault → Type 0
IsFaultOf read_before read_after write_before write_after (invocation.Run shop) fault =
    IsRunFault read_before read_after write_before write_after fault
IsFaultOf read_before read_after write_before write_after (invocation.RunLong shop) fault =
    IsRunFault read_before read_after write_before write_after fault
IsFaultOf read_before read_after write_before write_after (invocation.Report shop) fault =
    IsRunFault read_before read_after write_before write_after fault
IsFaultOf read_before read_after write_before write_after invocation fault =
    IsCommandFault read_before read_after write_before write_after fault

-- The name of the file that a request reads, if it names one.
abbrev pub input_of : Request → Option Text
input_of request = option_map string_bytes request.files.input

-- The name of the file that a request writes, if it names one.
abbrev pub output_of : Request → Option Text
output_of request = option_map string_bytes request.files.output

-- The name of the file of a request's events, if it names one.
abbrev pub events_of : Request → Option Text
events_of request = option_map string_bytes request.files.events

-- The file name for this side, if there is one, among those of the input, the output and the
-- events.
abbrev pub name_of : Option Text → Option Text → Option Text → FileSide → Option Text
name_of input output events Input = input
name_of input output events Output = output
name_of input output events Events = events

-- Whether there is a file name for this side.
abbrev pub names : Option Text → Option Text → Option Text → FileSide → Bool
names input output events side = is_some (name_of input output events side)

-- The line that reports that a file could not be opened or replaced: the fault, and the file's
-- name.
abbrev pub file_line : Option Text → FileFault → List ℕ
file_line None fault = file_fault_text fault ++ 10 ∷ []
file_line (Some name) fault = file_fault_text fault ++ codes ": " ++ name ++ 10 ∷ []

-- The fault is one that a request may have, by the counts of failed calls of the reader and of the
-- writer. If the request names a file to read, the counts of reads are the file's. If it names one
-- to write, also for the events, those of writes may be the file's.
pub record IsFaultIn (read_before read_after write_before write_after : ℕ)
    (input output events : Option Text) (invocation : Invocation) (fault : Fault) : Type 0 where
  pub reads : ℕ × ℕ
  pub writes : ℕ × ℕ
  pub of_reader : input ≡ None → reads ≡ (read_before, read_after)
  pub of_writer : output ≡ None → events ≡ None → writes ≡ (write_before, write_after)
  pub is : IsFaultOf reads.0 reads.1 writes.0 writes.1 invocation fault

-- The words ask for a request, and this is its result on the bytes that it reads, if they are
-- known. What is read, and what the output holds before and after, depend on the files that the
-- request names.
abbrev pub IsResultOf : List Text
    → (Option Text → Option (List ℕ))
    → (Option Text → Option (List ℕ))
    → (Option Text → Option (List ℕ))
    → Result (Unit {0}) Fault
    → Type 0
IsResultOf words read old new result =
    (request : Request) × AsksFor words request
    × IfSome (read (input_of request))
    (λ bytes. IsAnswerTo request.invocation bytes (old (output_of request))
    (new (output_of request)) result)

-- The words ask for a request, and it failed with this fault, which is its result. The fault is one
-- that the request may have.
abbrev pub IsFailureOf : List Text
    → (Option Text → Option (List ℕ))
    → (Option Text → Option (List ℕ))
    → (Option Text → Option (List ℕ))
    → (Option Text → Option Text → Option Text → Invocation → Fault → Type 0)
    → Fault
    → Type 0
IsFailureOf words read old new may_fail fault =
    (request : Request) × AsksFor words request
    × IfSome (read (input_of request))
    (λ bytes. IsAnswerTo request.invocation bytes (old (output_of request))
    (new (output_of request)) (Err fault))
    × may_fail (input_of request) (output_of request) (events_of request) request.invocation fault

-- The words ask for a request with a file of this side.
abbrev pub AsksForFile : List Text → FileSide → Type 0
AsksForFile words side =
    (request : Request) × AsksFor words request
    × (names (input_of request) (output_of request) (events_of request) side ≡ true)

-- A fault that is reported is one line, the fault's text, added to what was written before.
abbrev pub ReportsFault : Ending → Option (List ℕ) → Option (List ℕ) → Type 0
ReportsFault ending old new =
    (fault : Fault) → ending ≡ Failed fault true → Appends old new (fault_text fault ++ 10 ∷ [])

-- A fault of a file that is reported is one line, that of a file that the words name, added to what
-- was written before.
abbrev pub ReportsFileFault : List Text → Ending → Option (List ℕ) → Option (List ℕ) → Type 0
ReportsFileFault words ending old new =
    (fault : FileFault) → ending ≡ FileFailed fault true → (request : Request)
    × AsksFor words request × Appends old new
    (file_line (name_of (input_of request) (output_of request) (events_of request) fault.side)
    fault)

-- The call ended before it wrote on standard output. The command line was bad, or a fault was met
-- before the first row. Or a file other than that of the events could not be used.
abbrev pub EndsBeforeWriting : Ending → Type 0
EndsBeforeWriting Done = ⊥
EndsBeforeWriting Rejected = ⊤
EndsBeforeWriting (Failed fault is_reported) = IsMetBeforeWriting fault
EndsBeforeWriting (FileFailed fault is_reported) = fault.side ≢ Events

-- What is known of each file stays the same, except of the output and of the file of the events.
abbrev pub KeepsUnwritten : Option Text
    → Option Text
    → (Text → Option (List ℕ))
    → (Text → Option (List ℕ))
    → Type 0
KeepsUnwritten output events old new =
    (file : Text) → output ≢ Some file → events ≢ Some file → new file ≡ old file

-- What is known of each file stays the same, except of those that the words name to be written.
abbrev pub WritesOnlyNamed : List Text
    → (Text → Option (List ℕ))
    → (Text → Option (List ℕ))
    → Type 0
WritesOnlyNamed words old new =
    KeepsFiles old new
    ⊎ ((request : Request) × AsksFor words request
    × KeepsUnwritten (output_of request) (events_of request) old new)

-- The words ask for a request. Its file of the events, if it names one, was written after the bytes
-- of a fresh file. It holds all events of the request, if the bytes that are read are known.
abbrev pub HoldsEvents : List Text
    → (Option Text → Option (List ℕ))
    → Option (List ℕ)
    → (Text → Option (List ℕ))
    → Type 0
HoldsEvents words read fresh files =
    (request : Request) × AsksFor words request
    × IfSome (events_of request) (λ name. IfSome (read (input_of request))
    (λ bytes. WritesEvents request.invocation bytes fresh (files name)))

-- The words ask for a request that has done all but to put the file of its events in place. Its
-- output is whole, and what is known of each other file stays the same.
pub record HasOutputAlone (words : List Text) (read begun held : Option Text → Option (List ℕ))
    (old new : Text → Option (List ℕ)) : Type 0 where
  pub request : Request
  pub asked : AsksFor words request
  pub answered : IfSome (read (input_of request))
      (λ bytes. IsAnswerTo request.invocation bytes (begun (output_of request))
      (held (output_of request)) (Ok tt))
  pub others : KeepsOthers (output_of request) old new

-- The call ended for the file of the events, which could not be begun or put in place.
abbrev pub EndsForEvents : Ending → Type 0
EndsForEvents (FileFailed fault is_reported) = fault.side ≡ Events
EndsForEvents ending = ⊥

-- How a call of the program on these words ends. `Done`: the command that they ask for is done, or
-- help was asked for. `Rejected`: the command line is bad. `Failed`: the command failed, or memory
-- ran out, or the help could not be written. `FileFailed`: a file that they name could not be
-- opened or replaced. What is read, and what the output holds, is that of the files that the words
-- name, or of the standard streams.
abbrev pub EndsBy : List Text
    → (Option Text → Option (List ℕ))
    → (Option Text → Option (List ℕ))
    → (Option Text → Option (List ℕ))
    → (Option Text → Option Text → Option Text → Invocation → Fault → Type 0)
    → Ending
    → Type 0
EndsBy words read old new may_fail Done = IsResultOf words read old new (Ok tt) ⊎ AsksForHelp words
EndsBy words read old new may_fail Rejected = IsBadCommandLine words
EndsBy words read old new may_fail (Failed fault is_reported) =
    IsFailureOf words read old new may_fail fault
    ⊎ (is_refusal fault.what ≡ false) × ((fault.what ≡ what.OutOfMemory) ⊎ AsksForHelp words)
EndsBy words read old new may_fail (FileFailed fault is_reported) = AsksForFile words fault.side

-- The request may show a line of progress: it is a `run` or `report` that is not quiet.
abbrev pub ShowsProgress : Invocation → Type 0
ShowsProgress (invocation.Run shop) = shop.is_quiet ≡ false
ShowsProgress (invocation.RunLong shop) = shop.is_quiet ≡ false
ShowsProgress (invocation.Report shop) = shop.is_quiet ≡ false
ShowsProgress invocation = ⊥

-- The words ask for a request that may show a line of progress.
abbrev pub AsksForProgress : List Text → Type 0
AsksForProgress words =
    (request : Request) × AsksFor words request × ShowsProgress request.invocation

-- The call failed since its input is refused.
abbrev pub IsRefused : Ending → Type 0
IsRefused (Failed fault is_reported) = is_refusal fault.what ≡ true
IsRefused ending = ⊥

-- The words ask for a request that reads standard input.
abbrev pub AsksForInput : List Text → Type 0
AsksForInput words = (request : Request) × AsksFor words request × (request.files.input ≡ None)

-- The words ask for help, or for a request that writes standard output.
abbrev pub AsksForOutput : List Text → Type 0
AsksForOutput words =
    AsksForHelp words ⊎ ((request : Request) × AsksFor words request
    × (request.files.output ≡ None))

-- What a call of the program on these words did to the files, by what it read and by how it ended.
-- `fresh` is known of a fresh temporary file. The writer's bytes are known before and after, and
-- whether it is untouched.
pub record LeavesFiles (words : List Text) (read : Option Text → Option (List ℕ))
    (fresh out_old out_new : Option (List ℕ)) (old new : Text → Option (List ℕ))
    (is_untouched : Type 0) (end : Ending) : Type 0 where
  pub events : end ≡ Done → HoldsEvents words read fresh new ⊎ AsksForHelp words
  pub others : WritesOnlyNamed words old new
  pub kept : (end ≡ Done) ⊎ KeepsFiles old new ⊎ EndsForEvents end
  pub late : EndsForEvents end → KeepsFiles old new × is_untouched
      ⊎ HasOutputAlone words read (begun_by fresh out_old) (held_by new out_new) old new
  pub untouched : EndsBeforeWriting end → is_untouched

-- The exit status of a call that ends so.
abbrev pub exit_status : Ending → ℕ
exit_status Done = 0
exit_status Rejected = 2
exit_status (Failed fault is_reported) = status_of fault.what
exit_status (FileFailed fault is_reported) = 3
