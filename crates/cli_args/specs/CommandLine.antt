-- What the words of a command line ask for: `clap` reads them by the options of the program.
use Rattle.std.specs.Prelude.{◌≡◌, ◌≢◌, ◌⊎◌, ℕ, ◌≤◌, Bool, true, false, List, [], ◌∷◌, Option, None, Some, bytes_eq, codes, option_map, pos, string_bytes, if◌then◌else◌, ◌&&◌, not}
use Rattle.std.specs.Str.Parse.{digits_value, without_leading_plus}
use Rattle.clap.specs.Words.{App, IsAmong, Row, Rule, Shape, Text, fault_of, first_of, new_app, new_rule, one_of, subcommand_of, with_rule, with_subcommand}
use Rattle.clap.specs.declared.builder.action.ArgAction.TheVariants.{SetTrue}
use Rattle.clap.specs.declared.builder.value_parser.ValueParser.TheVariants.{Signed}
use Rattle.clap.specs.declared.error.kind.ErrorKind.{ErrorKind}
use Rattle.clap.specs.declared.error.kind.ErrorKind.TheVariants.{ArgumentConflict, DisplayHelp, DisplayVersion}
use Rattle.cube_shape.specs.declared.limits.TheConstants.{MAX_CAPACITY, MAX_DIM, MAX_DISPATCHERS, MAX_STATIONS}
use Rattle.dispatcher.specs.declared.opening.ShopSizes.{ShopSizes}
use Rattle.cli_args.specs.declared.invocation.FileNames.{FileNames}
use Rattle.cli_args.specs.declared.invocation.Invocation.{Invocation}
use Rattle.cli_args.specs.declared.invocation.Request.{Request}
use Rattle.cli_args.specs.declared.invocation.ShopOptions.{ShopOptions}
use Rattle.cli_args.specs.declared.invocation.Invocation.TheVariants.{Run, RunLong, Report, Place, Replay}

-- The sizes are within their limits. The dimension is at most `MAX_DIM`, there are 1 to
-- `MAX_DISPATCHERS` workers, and the capacity of the queue is from 1 to `MAX_CAPACITY`.
abbrev pub AreShopSizes : ShopSizes → Type 0
AreShopSizes sizes =
    (sizes.dim ≤ MAX_DIM) × (1 ≤ sizes.dispatchers) × (sizes.dispatchers ≤ MAX_DISPATCHERS)
    × (1 ≤ sizes.capacity) × (sizes.capacity ≤ MAX_CAPACITY)

-- The sizes of the command are within their limits. The dimension is at most `MAX_DIM`, and the
-- number of stations is from 1 to `MAX_STATIONS`.
abbrev pub IsWithinLimits : Invocation → Type 0
IsWithinLimits (Run shop) = AreShopSizes shop.sizes
IsWithinLimits (RunLong shop) = AreShopSizes shop.sizes
IsWithinLimits (Report shop) = AreShopSizes shop.sizes
IsWithinLimits (Place n) = n ≤ MAX_DIM
IsWithinLimits (Replay n stations) = (n ≤ MAX_DIM) × (1 ≤ stations) × (stations ≤ MAX_STATIONS)

-- The required option `--dim N` or `-n N`, a number from 0 to `MAX_DIM`.
abbrev pub dim_rule : Rule
dim_rule =
    record (new_rule (codes "dim")) {
      short = Some 110;
      long = Some (codes "dim");
      value_names = 1;
      required = true;
      parser = Some (Signed (pos 0) (pos MAX_DIM));
    }

-- The required option `--stations S`, a number from 1 to `MAX_STATIONS`.
abbrev pub stations_rule : Rule
stations_rule =
    record (new_rule (codes "stations")) {
      long = Some (codes "stations");
      value_names = 1;
      required = true;
      parser = Some
          (Signed (pos 1) (pos MAX_STATIONS));
    }

-- The option `--dispatchers D`, a number from 1 to `MAX_DISPATCHERS`. The default is 2.
abbrev pub dispatchers_rule : Rule
dispatchers_rule =
    record (new_rule (codes "dispatchers")) {
      long = Some (codes "dispatchers");
      value_names = 1;
      defaults = codes "2" ∷ [];
      parser = Some
          (Signed (pos 1) (pos MAX_DISPATCHERS));
    }

-- The option `--capacity C`, a number from 1 to `MAX_CAPACITY`. The default is 16.
abbrev pub capacity_rule : Rule
capacity_rule =
    record (new_rule (codes "capacity")) {
      long = Some (codes "capacity");
      value_names = 1;
      defaults = codes "16" ∷ [];
      parser = Some
          (Signed (pos 1) (pos MAX_CAPACITY));
    }

-- The operand `FILE`.
abbrev pub file_rule : Rule
file_rule = record (new_rule (codes "file")) { value_names = 1 }

-- The option `--output FILE` or `-o FILE`.
abbrev pub output_rule : Rule
output_rule =
    record (new_rule (codes "output")) {
      short = Some 111;
      long = Some (codes "output");
      value_names = 1;
    }

-- The flag `--quiet` or `-q`.
abbrev pub quiet_rule : Rule
quiet_rule =
    record (new_rule (codes "quiet")) {
      short = Some 113;
      long = Some (codes "quiet");
      action = Some SetTrue;
    }

-- The flag `--long`.
abbrev pub long_rule : Rule
long_rule =
    record (new_rule (codes "long")) {
      long = Some (codes "long");
      action = Some SetTrue;
    }

-- The option `--events FILE`.
abbrev pub events_rule : Rule
events_rule =
    record (new_rule (codes "events")) {
      long = Some (codes "events");
      value_names = 1;
    }

-- A command that has a version.
abbrev pub versioned_app : Text → App
versioned_app name = record { top = record (new_app name).top { has_version = true }; subs = [] }

-- A command on a machine of some dimension, which reads a file and writes one.
abbrev pub command_app : Text → App
command_app name =
    with_rule (with_rule (with_rule (versioned_app name) dim_rule) file_rule) output_rule

-- A command that runs jobs. It has the number of workers, the capacity of the queue, the flag for
-- no progress, and the file of the events.
abbrev pub shop_app : Text → App
shop_app name =
    with_rule (with_rule (with_rule (with_rule (command_app name) dispatchers_rule) capacity_rule)
    quiet_rule) events_rule

-- The command `run`, which also has the flag for a row for each value.
abbrev pub run_app : App
run_app = with_rule (shop_app (codes "run")) long_rule

-- The program without its commands. It has a version, and requires one of its commands.
abbrev pub bare_program : Shape
bare_program =
    record (new_app (codes "cubejobs")).top { subcommand_required = true; has_version = true }

-- A program with the names of the commands `check` and `messages`. Both have command lines of their
-- own, which are not read here.
abbrev pub with_tools : App → App
with_tools app =
    with_subcommand (with_subcommand app (versioned_app (codes "check")).top)
    (versioned_app (codes "messages")).top

-- The program as `clap` sees it: its four commands with their options, and the names of two more.
abbrev pub program_app : App
program_app =
    with_tools (with_subcommand (with_subcommand (with_subcommand
    (with_subcommand (record { top = bare_program; subs = [] })
    run_app.top) (shop_app (codes "report")).top)
    (command_app (codes "place")).top) (with_rule (command_app (codes "replay")) stations_rule).top)

-- The option has this number, in digits, by the words or by its default.
abbrev pub HasOptionValue : List Row → Text → ℕ → Type 0
HasOptionValue options name n =
    (text : Text) × (one_of name options ≡ Some text)
    × (n ≡ digits_value 10 (without_leading_plus text))

-- The flag is set, or it is not. If it is not given, `clap` finds the text `false`.
abbrev pub HasFlag : List Row → Text → Bool → Type 0
HasFlag options name is_set =
    one_of name options ≡ Some (if is_set then codes "true" else codes "false")

-- The numbers and the flag of a command that runs jobs are those of the options.
abbrev pub HasShopOptions : List Row → ShopOptions → Type 0
HasShopOptions options shop =
    HasOptionValue options (codes "dim") shop.sizes.dim
    × HasOptionValue options (codes "dispatchers") shop.sizes.dispatchers
    × HasOptionValue options (codes "capacity") shop.sizes.capacity
    × HasFlag options (codes "quiet") shop.is_quiet

-- The numbers of the request are those of the options.
abbrev pub HasOptionValues : List Row → Invocation → Type 0
HasOptionValues options (Run shop) =
    HasShopOptions options shop × HasFlag options (codes "long") false
HasOptionValues options (RunLong shop) =
    HasShopOptions options shop × HasFlag options (codes "long") true
HasOptionValues options (Report shop) = HasShopOptions options shop
HasOptionValues options (Place n) = HasOptionValue options (codes "dim") n
HasOptionValues options (Replay n stations) =
    HasOptionValue options (codes "dim") n × HasOptionValue options (codes "stations") stations

-- The file that a word names. There is none if the word is `-`, or if there is no word.
abbrev pub file_named : Option Text → Option Text
file_named None = None
file_named (Some word) = if bytes_eq word (codes "-") then None else Some word

-- The files are those that the operand and the options `--output` and `--events` name.
abbrev pub HasFileNames : List Row → FileNames → Type 0
HasFileNames options files =
    (option_map string_bytes files.input ≡ file_named (first_of (codes "file") options))
    × (option_map string_bytes files.output ≡ file_named (first_of (codes "output") options))
    × (option_map string_bytes files.events ≡ first_of (codes "events") options)

-- Whether the events, if there are any, have a file of their own. It is not the output, and its
-- name is not `-`, as that of a standard stream.
abbrev pub are_apart : Option Text → Option Text → Bool
are_apart output None = true
are_apart None (Some events) = not (bytes_eq events (codes "-"))
are_apart (Some output) (Some events) =
    not (bytes_eq events (codes "-")) && not (bytes_eq output events)

-- What is wrong with the files that a command names: the events have no file of their own.
abbrev pub file_faults : Option (Text × List Row) → List ErrorKind
file_faults None = []
file_faults (Some (command, options)) =
    if are_apart (file_named (first_of (codes "output") options))
    (first_of (codes "events") options) then [] else ArgumentConflict ∷ []

-- The first list, or the second one if the first is empty.
abbrev pub first_faults : List ErrorKind → List ErrorKind → List ErrorKind
first_faults [] others = others
first_faults (kind ∷ kinds) others = kind ∷ kinds

-- What is wrong with the words: what `clap` finds, or else what is wrong with the files.
abbrev pub faults_of : List Text → List ErrorKind
faults_of words =
    first_faults (fault_of program_app words) (file_faults (subcommand_of program_app words))

-- The word for the command of a request.
abbrev pub command_of : Invocation → Text
command_of (Run shop) = codes "run"
command_of (RunLong shop) = codes "run"
command_of (Report shop) = codes "report"
command_of (Place n) = codes "place"
command_of (Replay n stations) = codes "replay"

-- The words ask for this request. Nothing is wrong with them. They name the command, its options
-- have the numbers, and the operand, `--output` and `--events` name its files.
abbrev pub AsksFor : List Text → Request → Type 0
AsksFor words request =
    (faults_of words ≡ []) ×
    ((options : List Row) × (subcommand_of program_app words
    ≡ Some (command_of request.invocation, options)) × HasOptionValues options request.invocation
    × HasFileNames options request.files)

-- The words ask for the help or the version.
abbrev pub AsksForHelp : List Text → Type 0
AsksForHelp words =
    IsAmong DisplayHelp (faults_of words) ⊎ IsAmong DisplayVersion (faults_of words)

-- The words are a bad command line: something is wrong with them.
abbrev pub IsBadCommandLine : List Text → Type 0
IsBadCommandLine words =
    (kind : ErrorKind) × IsAmong kind (faults_of words) × (kind ≢ DisplayHelp)
    × (kind ≢ DisplayVersion)
