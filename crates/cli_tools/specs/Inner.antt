-- How a call ends if its words have an error, or after a listing.
use Rattle.std.specs.Prelude.{◌≡◌, ◌≢◌, ◌⊎◌, ℕ, ◌≤◌, List, Ok, Option}
use Rattle.clap.specs.declared.error.kind.ErrorKind.{ErrorKind}
use Rattle.clap.specs.declared.error.kind.ErrorKind.TheVariants.{DisplayHelp, DisplayVersion, OutOfMemory}
use Rattle.jobs_csv.specs.declared.fault.Fault.{Fault}
use Rattle.jobs_csv.specs.declared.fault.FaultKind.TheVariants as what
use Rattle.cli_args.specs.declared.check_line.Checked.{Checked}
use Rattle.cli_tools.specs.Check.{IsListing}
use Rattle.cli_tools.specs.declared.ending.ToolEnding.{ToolEnding}
use Rattle.cli_tools.specs.declared.ending.ToolEnding.TheVariants.{Done, Refused, Rejected, Failed, FileFailed}

-- An error of this kind is shown, or it rejects the words, or memory ran out. If it could not be
-- written, the fault is the given one.
abbrev pub IsExplained : ErrorKind → Fault → ToolEnding → Type 0
IsExplained kind unwritten Done = (kind ≡ DisplayHelp) ⊎ (kind ≡ DisplayVersion)
IsExplained kind unwritten Refused = ⊥
IsExplained kind unwritten Rejected =
    (kind ≢ DisplayHelp) × (kind ≢ DisplayVersion) × (kind ≢ OutOfMemory)
IsExplained kind unwritten (Failed fault) =
    (fault ≡ unwritten) ⊎ (fault ≡ record { row = 0; what = what.OutOfMemory })
IsExplained kind unwritten (FileFailed fault) = ⊥

-- A listing ended so. It lists no record, or some, or reading or writing failed, or memory ran out.
abbrev pub IsListingEnd : Checked
    → Option (List ℕ)
    → Option (List ℕ)
    → Option (List ℕ)
    → ToolEnding
    → Type 0
IsListingEnd checked bytes old new Done = IsListing checked bytes old new (Ok 0)
IsListingEnd checked bytes old new Refused =
    (count : ℕ) × (1 ≤ count) × IsListing checked bytes old new (Ok count)
IsListingEnd checked bytes old new Rejected = ⊥
IsListingEnd checked bytes old new (Failed fault) =
    (fault.what ≡ what.Read) ⊎ (fault.what ≡ what.Write) ⊎ (fault.what ≡ what.OutOfMemory)
IsListingEnd checked bytes old new (FileFailed fault) = ⊥
