-- What the words of a command line of `check` ask for. The first word is the command's name.
use Rattle.std.specs.Prelude.{◌≡◌, ◌≤◌, true, List, [], Option, Some, ⊤, codes, option_map, string_bytes}
use Rattle.clap.specs.Words.{App, Row, Text, fault_of, first_of, new_app, subcommand_of, with_rule, with_subcommand}
use Rattle.cube_shape.specs.declared.limits.TheConstants.{MAX_DIM}
use Rattle.cli_args.specs.CommandLine.{HasOptionValue, dim_rule, file_named, file_rule, versioned_app}
use Rattle.cli_args.specs.declared.check_line.CheckOptions.{CheckOptions}
use Rattle.cli_args.specs.declared.check_line.Checked.{Checked}
use Rattle.cli_args.specs.declared.check_line.Checked.TheVariants.{Run, Place, Replay}

-- The dimension is at most `MAX_DIM`.
abbrev pub IsWithin : Checked → Type 0
IsWithin (Run n) = n ≤ MAX_DIM
IsWithin (Place n) = n ≤ MAX_DIM
IsWithin Replay = ⊤

-- The command without its kinds of input. It has a version, and requires one of them.
abbrev pub bare_check : App
bare_check = record {
  top = record (new_app (codes "check")).top { subcommand_required = true; has_version = true };
  subs = [];
}

-- The command for an input that depends on the dimension of the machine.
abbrev pub sized_app : Text → App
sized_app name = with_rule (with_rule (versioned_app name) dim_rule) file_rule

-- The command as `clap` sees it: one subcommand for each kind of input.
abbrev pub check_app : App
check_app =
    with_subcommand (with_subcommand (with_subcommand bare_check (sized_app (codes "run")).top)
    (sized_app (codes "place")).top) (with_rule (versioned_app (codes "replay")) file_rule).top

-- The word for a kind of input.
abbrev pub name_of : Checked → Text
name_of (Run n) = codes "run"
name_of (Place n) = codes "place"
name_of Replay = codes "replay"

-- The dimension is that of the option.
abbrev pub HasDim : List Row → Checked → Type 0
HasDim options (Run n) = HasOptionValue options (codes "dim") n
HasDim options (Place n) = HasOptionValue options (codes "dim") n
HasDim options Replay = ⊤

-- The words ask for this. `clap` finds nothing wrong with them. They name the kind of input, its
-- option has the dimension, and the operand names the file.
abbrev pub AsksForCheck : List Text → CheckOptions → Type 0
AsksForCheck words asked =
    (fault_of check_app words ≡ []) ×
    ((options : List Row) × (subcommand_of check_app words ≡ Some (name_of asked.checked, options))
    × HasDim options asked.checked
    × (option_map string_bytes asked.input ≡ file_named (first_of (codes "file") options)))
