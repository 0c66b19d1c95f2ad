-- The result of a request, and what it did to the files.
use Rattle.std.specs.Prelude.{◌≡◌, ◌⊎◌, ℕ, true, List, Option, Some, Result, Ok, Err, IfErr, IfSome, OnOk, ⊤}
use Rattle.clap.specs.Words.{Text}
use Rattle.jobs_csv.specs.declared.fault.Fault.{Fault}
use Rattle.cli_args.specs.declared.invocation.Invocation.{Invocation}
use Rattle.cli_commands.specs.declared.files.CommandError.{CommandError}
use Rattle.cli_commands.specs.declared.files.CommandError.TheVariants as error
use Rattle.cli_commands.specs.Answer.{IsMetBeforeWriting}
use Rattle.cli_commands.specs.Events.{WritesEvents}
use Rattle.cli_commands.specs.Program.{IsAnswerTo, IsFaultIn, KeepsUnwritten, names}
use Rattle.atomic_file.specs.Store.{KeepsFiles, KeepsOthers, begun_by, held_by}
use Rattle.atomic_file.specs.declared.file_fault.FileFault.{FileFault}
use Rattle.atomic_file.specs.declared.file_fault.FileSide.TheVariants.{Output, Events}

-- If the request stopped for a fault, this holds of the fault.
abbrev pub IfFault : CommandError → (Fault → Type 0) → Type 0
IfFault (error.Fault fault) P = P fault
IfFault (error.File fault) P = ⊤

-- The request stopped before the first row was written: for a fault that is met then, or for a
-- file.
abbrev pub StopsBeforeWriting : CommandError → Type 0
StopsBeforeWriting (error.Fault fault) = IsMetBeforeWriting fault
StopsBeforeWriting (error.File fault) = ⊤

-- If the request stopped for a file, this holds of the file's fault.
abbrev pub IfFile : CommandError → (FileFault → Type 0) → Type 0
IfFile (error.Fault fault) P = ⊤
IfFile (error.File fault) P = P fault

-- If the bytes that are read are known, the request is answered, or a fault is its answer. This
-- says nothing of a request that stopped for a file.
abbrev pub EndsIn : Invocation
    → Option (List ℕ)
    → Option (List ℕ)
    → Option (List ℕ)
    → Result (Unit {0}) CommandError
    → Type 0
EndsIn invocation read old new (Ok done) =
    IfSome read (λ b. IsAnswerTo invocation b old new (Ok done))
EndsIn invocation read old new (Err (error.Fault fault)) =
    IfSome read (λ b. IsAnswerTo invocation b old new (Err fault))
EndsIn invocation read old new (Err (error.File fault)) = ⊤

-- The result of a request that reads the file `input` and writes the file `output`, or a reader and
-- a writer if it names none. The file `events` is not yet in place. The arguments say what is known
-- of a fresh temporary file, and of the store's files before and after. Then follow the bytes that
-- are read, what the writer holds before and after, and the counts of failed calls of both.
pub record IsOutcome (fresh : Option (List ℕ)) (store_old store_new : List ℕ → Option (List ℕ))
    (read writer_old writer_new : Option (List ℕ))
    (read_before read_after write_before write_after : ℕ) (input output events : Option Text)
    (invocation : Invocation) (result : Result (Unit {0}) CommandError) : Type 0 where
  pub answered : EndsIn invocation read (begun_by fresh writer_old output)
      (held_by store_new writer_new output) result
  pub failed : IfErr result (λ s. IfFault s (IsFaultIn read_before read_after write_before
      write_after input output events invocation))
  pub side : IfErr result (λ s. IfFile s (λ file. names input output events file.side ≡ true))
  pub others : KeepsOthers output store_old store_new
  pub kept : IfErr result (λ s. KeepsFiles store_old store_new)

-- The end of a temporary file with these bytes, by the answer of a command. It became the file of
-- this name, or no file changed, and the result says why.
abbrev pub IsSettled : Option (List ℕ)
    → (List ℕ → Option (List ℕ))
    → (List ℕ → Option (List ℕ))
    → List ℕ
    → Result (Unit {0}) Fault
    → Result (Unit {0}) CommandError
    → Type 0
IsSettled temp_file old new name (Err fault) result =
    (result ≡ Err (error.Fault fault)) × KeepsFiles old new
IsSettled temp_file old new name (Ok done) (Ok put) =
    (new name ≡ temp_file) × KeepsOthers (Some name) old new
IsSettled temp_file old new name (Ok done) (Err (error.Fault fault)) = ⊥
IsSettled temp_file old new name (Ok done) (Err (error.File fault)) =
    (fault.side ≡ Output) × KeepsFiles old new

-- The end of the temporary file of the events, by the result of all else. It became the file of
-- this name, or no file changed, and the result says why.
abbrev pub AreEventsSettled : Option (List ℕ)
    → (List ℕ → Option (List ℕ))
    → (List ℕ → Option (List ℕ))
    → List ℕ
    → Result (Unit {0}) CommandError
    → Result (Unit {0}) CommandError
    → Type 0
AreEventsSettled temp_file old new name (Err error) result =
    (result ≡ Err error) × KeepsFiles old new
AreEventsSettled temp_file old new name (Ok done) (Ok put) =
    (new name ≡ temp_file) × KeepsOthers (Some name) old new
AreEventsSettled temp_file old new name (Ok done) (Err (error.Fault fault)) = ⊥
AreEventsSettled temp_file old new name (Ok done) (Err (error.File fault)) =
    (fault.side ≡ Events) × KeepsFiles old new

-- The request stopped for the file of the events.
abbrev pub StopsForEvents : CommandError → Type 0
StopsForEvents (error.Fault fault) = ⊥
StopsForEvents (error.File fault) = fault.side ≡ Events

-- The output is whole, and what is known of each other file stays the same.
abbrev pub IsOutputAlone : (List ℕ → Option (List ℕ))
    → (List ℕ → Option (List ℕ))
    → Option (List ℕ)
    → Option (List ℕ)
    → Option (List ℕ)
    → Option Text
    → Invocation
    → Type 0
IsOutputAlone store_old store_new read begun held output invocation =
    IfSome read (λ b. IsAnswerTo invocation b begun held (Ok tt))
    × KeepsOthers output store_old store_new

-- The result of a request, as in `IsOutcome`, once the file `events` is in place.
pub record IsWholeOutcome (fresh : Option (List ℕ))
    (store_old store_new : List ℕ → Option (List ℕ))
    (read writer_old writer_new : Option (List ℕ))
    (read_before read_after write_before write_after : ℕ) (input output events : Option Text)
    (invocation : Invocation) (result : Result (Unit {0}) CommandError) : Type 0 where
  pub answered : EndsIn invocation read (begun_by fresh writer_old output)
      (held_by store_new writer_new output) result
  pub failed : IfErr result (λ s. IfFault s (IsFaultIn read_before read_after write_before
      write_after input output events invocation))
  pub side : IfErr result (λ s. IfFile s (λ file. names input output events file.side ≡ true))
  pub others : KeepsUnwritten output events store_old store_new
  pub kept : IfErr result (λ s. KeepsFiles store_old store_new ⊎ StopsForEvents s)
  pub written : OnOk result (IfSome events (λ name. IfSome read
      (λ b. WritesEvents invocation b fresh (store_new name))))
