-- How a call of `messages` ends, by its words.
use Rattle.std.specs.Prelude.{◌≡◌, ◌≢◌, ◌⊎◌, ℕ, List, Option, None, Some}
use Rattle.std.specs.Io.KnownBytes.{Appends}
use Rattle.clap.specs.Words.{App, IsAmong, Text, fault_of}
use Rattle.clap.specs.declared.error.kind.ErrorKind.{ErrorKind}
use Rattle.clap.specs.declared.error.kind.ErrorKind.TheVariants.{DisplayHelp, DisplayVersion}
use Rattle.collectives.specs.declared.shape.Shape.{Shape}
use Rattle.jobs_csv.specs.Text.{file_text}
use Rattle.jobs_csv.specs.declared.fault.Fault.{Fault}
use Rattle.jobs_csv.specs.declared.fault.FaultKind.TheVariants as what
use Rattle.cli_tools.specs.MessageRows.{message_columns, message_fields}
use Rattle.cli_tools.specs.Listing.{AreMessages, IsRoot}
use Rattle.cli_tools.specs.declared.rows.MessageRow.{MessageRow}
use Rattle.cli_args.specs.MessagesLine.{AsksForMessages, messages_app}
use Rattle.cli_args.specs.declared.messages_line.MessagesOptions.{MessagesOptions}
use Rattle.cli_tools.specs.declared.ending.ToolEnding.{ToolEnding}
use Rattle.cli_tools.specs.declared.ending.ToolEnding.TheVariants.{Done, Refused, Rejected, Failed, FileFailed}

-- The words ask for the help or the version.
abbrev pub AsksForHelp : App → List Text → Type 0
AsksForHelp app words =
    IsAmong DisplayHelp (fault_of app words) ⊎ IsAmong DisplayVersion (fault_of app words)

-- The words are a bad command line: `clap` finds something wrong with them.
abbrev pub IsBadLine : App → List Text → Type 0
IsBadLine app words =
    (kind : ErrorKind) × IsAmong kind (fault_of app words) × (kind ≢ DisplayHelp)
    × (kind ≢ DisplayVersion)

-- The options have no shape, or a root that the collective cannot have.
abbrev pub AreNone : MessagesOptions → Type 0
AreNone asked =
    (asked.shape ≡ None)
    ⊎ ((shape : Shape) × (asked.shape ≡ Some shape) × (IsRoot shape asked.dim asked.root → ⊥))

-- The rows of all messages of the collective of these options are written.
pub record AreWritten (asked : MessagesOptions) (old new : Option (List ℕ)) : Type 0 where
  pub shape : Shape
  pub is_shape : asked.shape ≡ Some shape
  pub root : IsRoot shape asked.dim asked.root
  pub rows : List MessageRow
  pub messages : AreMessages shape asked.dim asked.root rows
  pub written : Appends old new (file_text message_columns message_fields rows)

-- How a call on these words ends. `Done`: the messages that they ask for are written, or help is
-- shown. `Rejected`: the command line is bad, or no collective has the options. `Failed`: writing
-- failed with the given fault, or memory ran out.
abbrev pub EndsMessages : List Text
    → Option (List ℕ)
    → Option (List ℕ)
    → Fault
    → ToolEnding
    → Type 0
EndsMessages words old new unwritten Done =
    AsksForHelp messages_app words
    ⊎ ((asked : MessagesOptions) × AsksForMessages words asked × AreWritten asked old new)
EndsMessages words old new unwritten Refused = ⊥
EndsMessages words old new unwritten Rejected =
    IsBadLine messages_app words
    ⊎ ((asked : MessagesOptions) × AsksForMessages words asked × AreNone asked)
EndsMessages words old new unwritten (Failed fault) =
    (fault ≡ unwritten) ⊎ (fault ≡ record { row = 0; what = what.OutOfMemory })
EndsMessages words old new unwritten (FileFailed fault) = ⊥
