-- The reasons for errors of the system, and the error message of a file's fault.
use Rattle.std.specs.Prelude.{ℕ, ◌++◌, List, codes}
use Rattle.std_io.specs.declared.io.kind.ErrorKind.{ErrorKind}
use Rattle.std_io.specs.declared.io.kind.ErrorKind.TheVariants as kind
use Rattle.atomic_file.specs.declared.file_fault.FileFault.{FileFault}
use Rattle.atomic_file.specs.declared.file_fault.FileReason.{FileReason}
use Rattle.atomic_file.specs.declared.file_fault.FileReason.TheVariants as why
use Rattle.atomic_file.specs.declared.file_fault.FileSide.{FileSide}
use Rattle.atomic_file.specs.declared.file_fault.FileSide.TheVariants as side

-- The reason for an error of the system, by the kind of the error.
abbrev pub reason_of : ErrorKind → FileReason
reason_of kind.NotFound = why.Missing
reason_of kind.NotADirectory = why.Missing
reason_of kind.IsADirectory = why.Folder
reason_of kind.PermissionDenied = why.Denied
reason_of kind.ReadOnlyFilesystem = why.Denied
reason_of kind.OutOfMemory = why.OutOfMemory
reason_of _ = why.Other

-- The name of a reason, as in an error message.
abbrev pub reason_text : FileReason → List ℕ
reason_text why.Missing = codes "Missing"
reason_text why.Folder = codes "Folder"
reason_text why.Denied = codes "Denied"
reason_text why.Special = codes "Special"
reason_text why.OutOfMemory = codes "OutOfMemory"
reason_text why.Other = codes "Other"

-- The name of a side, as in an error message.
abbrev pub side_text : FileSide → List ℕ
side_text side.Input = codes "input"
side_text side.Output = codes "output"
side_text side.Events = codes "events"

-- The error message of a file's fault, without the line feed: `failed`, the side and the reason.
abbrev pub file_fault_text : FileFault → List ℕ
file_fault_text fault =
    codes "failed: " ++ side_text fault.side ++ codes ": " ++ reason_text fault.reason
