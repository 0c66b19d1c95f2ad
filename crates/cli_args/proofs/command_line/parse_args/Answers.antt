use Rattle.std.proofs.Common.{◌≡◌, false, true, List, [], ap, sym, subst, ◌∙◌, map, option_map, string_bytes, rules}
use Rattle.clap.specs.Words.{App, HasKind, Text, app_of, fault_of, is_simple, is_simple_and_free, subcommand_of, subcommand_rows_of}
use Rattle.cli_args.specs.CommandLine.{command_of, file_faults, program_app}
use Rattle.cli_args.proofs.CommandLineLemmas.{no_file_of_its_own, own_file, program_is_free, program_is_simple, still_wrong}
use Rattle.cli_args.proofs.command_line.parse_args.Goals as goal

pub returns-in-Err-clause-fails : goal.returns-in-Err-clause-fails
returns-in-Err-clause-fails c =
    let words : List Text = map string_bytes c.args.words.now in
    let is : app_of c.in_ok-program.program ≡ program_app = c.in_ok-program.ensures in
    still_wrong c.in-Err.error (fault_of program_app words) (file_faults (subcommand_of program_app words))
    (subst (λ (a : App). HasKind (fault_of a words) c.in-Err.error) is (c.in-Err.ensures.kinds (ap is_simple_and_free is ∙ program_is_free)))

pub returns-clause-asked : goal.returns-clause-asked
returns-clause-asked c =
    let words : List Text = map string_bytes c.args.words.now in
    let is : app_of c.in_ok-program.program ≡ program_app = c.in_ok-program.ensures in
    let good : fault_of program_app words ≡ [] = subst (λ (a : App). fault_of a words ≡ []) is (c.in-Ok.ensures.kinds (ap is_simple_and_free is ∙ program_is_free)) in
    let (options, rows, values, files) = c.in-Some.ensures.asked in
    let entered : subcommand_rows_of c.in-Ok.matches ≡ subcommand_of program_app words = subst (λ (a : App). subcommand_rows_of c.in-Ok.matches ≡ subcommand_of a words) is ((c.in-Ok.ensures.matches (ap is_simple is ∙ program_is_simple)).1) in
    let own = own_file words options (command_of c.in-Some.request.invocation) (option_map string_bytes c.in-Some.request.files.output) (option_map string_bytes c.in-Some.request.files.events)
    true (subcommand_of program_app words) good (sym entered ∙ rows) files.1 files.2 (search rules) in
    (own, (options, sym entered ∙ rows, values, files))

pub returns-clause-fails : goal.returns-clause-fails
returns-clause-fails c =
    let words : List Text = map string_bytes c.args.words.now in
    let is : app_of c.in_ok-program.program ≡ program_app = c.in_ok-program.ensures in
    let good : fault_of program_app words ≡ [] = subst (λ (a : App). fault_of a words ≡ []) is (c.in-Ok.ensures.kinds (ap is_simple_and_free is ∙ program_is_free)) in
    let (options, rows, values, files) = c.in-Some.ensures.asked in
    let entered : subcommand_rows_of c.in-Ok.matches ≡ subcommand_of program_app words = subst (λ (a : App). subcommand_rows_of c.in-Ok.matches ≡ subcommand_of a words) is ((c.in-Ok.ensures.matches (ap is_simple is ∙ program_is_simple)).1) in
    own_file words options (command_of c.in-Some.request.invocation) (option_map string_bytes c.in-Some.request.files.output) (option_map string_bytes c.in-Some.request.files.events)
    true (subcommand_of program_app words) good (sym entered ∙ rows) files.1 files.2 (search rules)

pub returns-then-not-are_apart-clause-fails : goal.returns-then-not-are_apart-clause-fails
returns-then-not-are_apart-clause-fails c =
    let words : List Text = map string_bytes c.args.words.now in
    let is : app_of c.in_ok-program.program ≡ program_app = c.in_ok-program.ensures in
    let good : fault_of program_app words ≡ [] = subst (λ (a : App). fault_of a words ≡ []) is (c.in-Ok.ensures.kinds (ap is_simple_and_free is ∙ program_is_free)) in
    let (options, rows, values, files) = c.in-Some.ensures.asked in
    let entered : subcommand_rows_of c.in-Ok.matches ≡ subcommand_of program_app words = subst (λ (a : App). subcommand_rows_of c.in-Ok.matches ≡ subcommand_of a words) is ((c.in-Ok.ensures.matches (ap is_simple is ∙ program_is_simple)).1) in
    no_file_of_its_own c.no_own_file.result _
    (own_file words options (command_of c.in-Some.request.invocation) (option_map string_bytes c.in-Some.request.files.output) (option_map string_bytes c.in-Some.request.files.events)
    false (subcommand_of program_app words) good (sym entered ∙ rows) files.1 files.2 (search rules)) c.no_own_file.ensures
