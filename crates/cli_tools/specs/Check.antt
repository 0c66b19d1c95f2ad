-- How a call of `check` ends, by its words.
use Rattle.std.specs.Prelude.{◌≡◌, ◌⊎◌, ℕ, ◌≤◌, List, Option, Some, Result, Ok, option_map, string_bytes}
use Rattle.clap.specs.Words.{Text}
use Rattle.atomic_file.specs.declared.file_fault.FileSide.TheVariants.{Input}
use Rattle.jobs_csv.specs.Refusals.{ListsCommands, ListsJobs, ListsLines}
use Rattle.jobs_csv.specs.declared.fault.Fault.{Fault}
use Rattle.jobs_csv.specs.declared.fault.FaultKind.TheVariants as what
use Rattle.cli_args.specs.CheckLine.{AsksForCheck, check_app}
use Rattle.cli_args.specs.declared.check_line.CheckOptions.{CheckOptions}
use Rattle.cli_args.specs.declared.check_line.Checked.{Checked}
use Rattle.cli_args.specs.declared.check_line.Checked.TheVariants.{Run, Place, Replay}
use Rattle.cli_tools.specs.Messages.{AsksForHelp, IsBadLine}
use Rattle.cli_tools.specs.declared.ending.ToolEnding.{ToolEnding}
use Rattle.cli_tools.specs.declared.ending.ToolEnding.TheVariants.{Done, Refused, Rejected, Failed, FileFailed}

-- The refused records of an input of this kind are listed and counted, if the result is a count.
abbrev pub IsListing : Checked
    → Option (List ℕ)
    → Option (List ℕ)
    → Option (List ℕ)
    → Result ℕ Fault
    → Type 0
IsListing (Run n) bytes old new result = ListsJobs n bytes old new result
IsListing (Place n) bytes old new result = ListsCommands n bytes old new result
IsListing Replay bytes old new result = ListsLines bytes old new result

-- The name of the file to read, if there is one.
abbrev pub input_of : CheckOptions → Option Text
input_of asked = option_map string_bytes asked.input

-- The words ask for a listing, and this is the number of records that it lists. What is read
-- depends on the file that they name.
pub record IsListed (words : List Text) (read : Option Text → Option (List ℕ))
    (old new : Option (List ℕ)) (count : ℕ) : Type 0 where
  pub asked : CheckOptions
  pub asks : AsksForCheck words asked
  pub lists : IsListing asked.checked (read (input_of asked)) old new (Ok count)

-- How a call on these words ends. `Done`: no record of the input is refused, or help is shown.
-- `Refused`: one is. `Rejected`: the command line is bad. `Failed`: reading or writing failed, or
-- memory ran out. `FileFailed`: the file that they name could not be opened.
abbrev pub EndsCheck : List Text
    → (Option Text → Option (List ℕ))
    → Option (List ℕ)
    → Option (List ℕ)
    → ToolEnding
    → Type 0
EndsCheck words read old new Done = AsksForHelp check_app words ⊎ IsListed words read old new 0
EndsCheck words read old new Refused = (count : ℕ) × (1 ≤ count) × IsListed words read old new count
EndsCheck words read old new Rejected = IsBadLine check_app words
EndsCheck words read old new (Failed fault) =
    (fault.what ≡ what.Read) ⊎ (fault.what ≡ what.Write) ⊎ (fault.what ≡ what.OutOfMemory)
EndsCheck words read old new (FileFailed fault) =
    (fault.side ≡ Input) × ((asked : CheckOptions) × (name : Text) × AsksForCheck words asked
    × (input_of asked ≡ Some name))
