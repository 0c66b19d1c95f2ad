-- What the words of a command line of `messages` ask for. The first word is the command's name.
use Rattle.std.specs.Prelude.{◌≡◌, true, List, [], ◌∷◌, Option, None, Some, bytes_eq, codes, if◌then◌else◌}
use Rattle.clap.specs.Words.{App, Row, Rule, Text, fault_of, first_of, matches_of, new_rule, with_rule}
use Rattle.clap.specs.declared.builder.value_parser.ValueParser.TheVariants.{Unsigned}
use Rattle.collectives.specs.declared.shape.Shape.{Shape}
use Rattle.collectives.specs.declared.shape.Shape.TheVariants.{Broadcast, Reduce, AllReduce, Scan}
use Rattle.cli_args.specs.CommandLine.{HasOptionValue, dim_rule, versioned_app}
use Rattle.cli_args.specs.declared.messages_line.MessagesOptions.{MessagesOptions}

-- The required option `--shape S`.
abbrev pub shape_rule : Rule
shape_rule =
    record (new_rule (codes "shape")) {
      long = Some (codes "shape");
      value_names = 1;
      required = true;
    }

-- The option `--root R`, a number. The default is 0.
abbrev pub root_rule : Rule
root_rule =
    record (new_rule (codes "root")) {
      long = Some (codes "root");
      value_names = 1;
      defaults = codes "0" ∷ [];
      parser = Some (Unsigned 0 18446744073709551615);
    }

-- The command as `clap` sees it.
abbrev pub messages_app : App
messages_app =
    with_rule (with_rule (with_rule (versioned_app (codes "messages")) shape_rule) dim_rule)
    root_rule

-- The shape of the collective of this name. Both scans have the same messages.
abbrev pub shape_of : Text → Option Shape
shape_of name =
    if bytes_eq name (codes "broadcast") then Some Broadcast
    else if bytes_eq name (codes "reduce") then Some Reduce
    else if bytes_eq name (codes "allreduce") then Some AllReduce
    else if bytes_eq name (codes "scan") then Some Scan
    else if bytes_eq name (codes "exscan") then Some Scan
    else None

-- The shape is that of the option's word.
abbrev pub HasShape : List Row → Option Shape → Type 0
HasShape options shape =
    (name : Text) × (first_of (codes "shape") options ≡ Some name) × (shape ≡ shape_of name)

-- The shape and the numbers are those of the options.
abbrev pub HasOptions : List Row → MessagesOptions → Type 0
HasOptions options asked =
    HasShape options asked.shape × HasOptionValue options (codes "dim") asked.dim
    × HasOptionValue options (codes "root") asked.root

-- The words ask for these options: `clap` finds nothing wrong with them.
abbrev pub AsksForMessages : List Text → MessagesOptions → Type 0
AsksForMessages words asked =
    (fault_of messages_app words ≡ []) × HasOptions (matches_of messages_app words) asked
