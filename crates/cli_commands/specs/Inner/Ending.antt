-- How a call of the program ends, by the request of its words or by the error that `clap` gives for
-- them.
use Rattle.std.specs.Prelude.{◌≡◌, ◌≢◌, ◌⊎◌, ℕ, Bool, true, false, List, Option, Result, Ok, Err, IfSome}
use Rattle.clap.specs.declared.error.kind.ErrorKind.{ErrorKind}
use Rattle.clap.specs.declared.error.kind.ErrorKind.TheVariants.{DisplayHelp, DisplayVersion, OutOfMemory}
use Rattle.jobs_csv.specs.Fault.{is_refusal}
use Rattle.jobs_csv.specs.declared.fault.Fault.{Fault}
use Rattle.jobs_csv.specs.declared.fault.FaultKind.TheVariants as what
use Rattle.cli_args.specs.declared.invocation.Invocation.{Invocation}
use Rattle.cli_commands.specs.declared.files.CommandError.{CommandError}
use Rattle.cli_commands.specs.declared.files.CommandError.TheVariants as error
use Rattle.cli_commands.specs.declared.program.Ending.{Ending}
use Rattle.cli_commands.specs.declared.program.Ending.TheVariants.{Done, Rejected, Failed, FileFailed}
use Rattle.cli_commands.specs.Program.{IsAnswerTo}
use Rattle.atomic_file.specs.declared.file_fault.FileSide.{FileSide}

-- How a call ends after a request. The request is answered, or it failed with a fault that it may
-- have, which is its answer too. Or a file of one of these sides could not be opened or replaced.
abbrev pub EndsAfter : Invocation
    → Option (List ℕ)
    → Option (List ℕ)
    → Option (List ℕ)
    → (Fault → Type 0)
    → (FileSide → Bool)
    → Ending
    → Type 0
EndsAfter invocation bytes old new may_fail names Done =
    IfSome bytes (λ b. IsAnswerTo invocation b old new (Ok tt))
EndsAfter invocation bytes old new may_fail names Rejected = ⊥
EndsAfter invocation bytes old new may_fail names (Failed fault is_reported) =
    IfSome bytes (λ b. IsAnswerTo invocation b old new (Err fault)) × may_fail fault
EndsAfter invocation bytes old new may_fail names (FileFailed fault is_reported) =
    names fault.side ≡ true

-- How a call ends, by the result of its request.
abbrev pub EndsWith : Result (Unit {0}) CommandError → Ending → Type 0
EndsWith (Ok done) end = end ≡ Done
EndsWith (Err (error.Fault fault)) end = (is_reported : Bool) × (end ≡ Failed fault is_reported)
EndsWith (Err (error.File fault)) end = (is_reported : Bool) × (end ≡ FileFailed fault is_reported)

-- An error of this kind shows the help or the version.
abbrev pub IsShown : ErrorKind → Type 0
IsShown kind = (kind ≡ DisplayHelp) ⊎ (kind ≡ DisplayVersion)

-- How a call ends if the words have an error of this kind. The error is shown, or it rejects the
-- words, or memory ran out, or it could not be written.
abbrev pub EndsOn : ErrorKind → Ending → Type 0
EndsOn kind Done = IsShown kind
EndsOn kind Rejected = (kind ≢ DisplayHelp) × (kind ≢ DisplayVersion) × (kind ≢ OutOfMemory)
EndsOn kind (Failed fault is_reported) =
    (is_refusal fault.what ≡ false) × ((fault.what ≡ what.OutOfMemory) ⊎ IsShown kind)
EndsOn kind (FileFailed fault is_reported) = ⊥
