-- Which faults are the input's, how a fault is reported, and when a device is to blame.
use Rattle.std.specs.Prelude.{◌≡◌, ◌⊎◌, ℕ, ◌-◌, ◌^◌, ◌==◌, ◌||◌, ◌++◌, List, nat_lt, codes, Bool, true, false, if◌then◌else◌}
use Rattle.std.specs.Fmt.{decimal}
use Rattle.job_types.specs.declared.request.JobRefused.TheVariants as why
use Rattle.jobs_csv.specs.declared.fault.Fault.{Fault}
use Rattle.jobs_csv.specs.declared.fault.FaultKind.{FaultKind}
use Rattle.jobs_csv.specs.declared.fault.FaultKind.TheVariants as what

-- Whether the input is refused. Otherwise a device failed, memory ran out, or a lane has no number
-- left.
abbrev pub is_refusal : FaultKind → Bool
is_refusal what.Read = false
is_refusal what.Write = false
is_refusal what.OutOfMemory = false
is_refusal what.Spent = false
is_refusal _ = true

-- The exit status of a program that reports the fault: 1 if the input is refused, else 3.
abbrev pub status_of : FaultKind → ℕ
status_of kind = if is_refusal kind then 1 else 3

-- The first word of the error message: `refused` or `failed`.
abbrev pub outcome_text : FaultKind → List ℕ
outcome_text kind = if is_refusal kind then codes "refused" else codes "failed"

-- The name of the kind, and for a job the reason.
abbrev pub kind_text : FaultKind → List ℕ
kind_text what.Fields = codes "Fields"
kind_text what.Number = codes "Number"
kind_text what.Word = codes "Word"
kind_text (what.Job why.Empty) = codes "Job Empty"
kind_text (what.Job why.TooLarge) = codes "Job TooLarge"
kind_text (what.Job why.BadRoot) = codes "Job BadRoot"
kind_text (what.Job why.OutOfMemory) = codes "Job OutOfMemory"
kind_text what.Read = codes "Read"
kind_text what.Write = codes "Write"
kind_text what.OutOfMemory = codes "OutOfMemory"
kind_text what.TooMany = codes "TooMany"
kind_text what.Spent = codes "Spent"

-- The error message, without the line feed. It has `refused` or `failed`, the number of the record,
-- and the name of the kind.
abbrev pub fault_text : Fault → List ℕ
fault_text fault =
    outcome_text fault.what ++ codes ": record " ++ decimal fault.row ++ codes ": "
    ++ kind_text fault.what

-- A device's count of failed calls rose, or was at its end before the call.
abbrev pub has_failed : ℕ → ℕ → Bool
has_failed before after = nat_lt before after || (before == 2 ^ 64 - 1)

-- The fault of a call that failed: the device's if the device has failed, else out of memory. Its
-- record is 0.
abbrev pub attribute : FaultKind → ℕ → ℕ → Fault
attribute device before after =
    record { row = 0; what = if has_failed before after then device else what.OutOfMemory }

-- The input is refused, or the fault is that of a call that read it, by `attribute`.
abbrev pub IsInputFault : ℕ → ℕ → Fault → Type 0
IsInputFault before after fault =
    (is_refusal fault.what ≡ true) ⊎ (fault ≡ attribute what.Read before after)
