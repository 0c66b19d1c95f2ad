-- The fault of a run of a file, and what is known of a command whose events may be written.
use Rattle.std.specs.Prelude.{◌≡◌, ℕ, Bool, false, Option, Some, None, Result, Ok, Err}
use Rattle.jobs_csv.specs.declared.fault.Fault.{Fault}
use Rattle.cli_args.specs.declared.invocation.Invocation.{Invocation}
use Rattle.cli_commands.specs.Program.{IsFaultOf}
use Rattle.cli_commands.specs.declared.file_run.FileRun.{FileRun}
use Rattle.cli_commands.specs.declared.shop.AnswerError.{AnswerError}

-- The fault that was returned instead of a run of a file, if there is one.
abbrev pub fault_of_run : {M : Type 0} → Result (FileRun M) (AnswerError M) → Option Fault
fault_of_run (Ok run) = None
fault_of_run (Err error) = Some error.fault

-- There is a run, and this holds of it.
abbrev pub IfRan : {M : Type 0}
    → Result (FileRun M) (AnswerError M)
    → (FileRun M → Type 0)
    → Type 0
IfRan (Ok run) P = P run
IfRan (Err error) P = ⊥

-- The fault is one that a command may have, by the counts of failed calls. If its events go to a
-- file, the counts of writes may be the file's.
abbrev pub IsFaultBeside : Bool → ℕ → ℕ → ℕ → ℕ → Invocation → Fault → Type 0
IsFaultBeside has_file read_before read_after write_before write_after invocation fault =
    (writes : ℕ × ℕ) × (has_file ≡ false → writes ≡ (write_before, write_after))
    × IsFaultOf read_before read_after writes.0 writes.1 invocation fault
