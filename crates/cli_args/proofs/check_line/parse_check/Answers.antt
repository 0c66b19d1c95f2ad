use Rattle.std.proofs.Common.{◌≡◌, List, [], ap, sym, subst, ◌∙◌, map, string_bytes}
use Rattle.clap.specs.Words.{App, HasKind, Text, app_of, fault_of, is_simple, is_simple_and_free, subcommand_of, subcommand_rows_of}
use Rattle.cli_args.specs.CheckLine.{check_app}
use Rattle.cli_args.proofs.ToolLemmas.{check_is_free, check_is_simple}
use Rattle.cli_args.proofs.check_line.parse_check.Goals as goal

pub returns-in-Err-clause-fails : goal.returns-in-Err-clause-fails
returns-in-Err-clause-fails c =
    let is : app_of c.in_ok-command.command ≡ check_app = c.in_ok-command.ensures in
    subst (λ (a : App). HasKind (fault_of a (map string_bytes c.args.words.now)) c.in-Err.error) is (c.in-Err.ensures.kinds (ap is_simple_and_free is ∙ check_is_free))

pub returns-clause-asked : goal.returns-clause-asked
returns-clause-asked c =
    let words : List Text = map string_bytes c.args.words.now in
    let is : app_of c.in_ok-command.command ≡ check_app = c.in_ok-command.ensures in
    let good : fault_of check_app words ≡ [] = subst (λ (a : App). fault_of a words ≡ []) is (c.in-Ok.ensures.kinds (ap is_simple_and_free is ∙ check_is_free)) in
    let (options, rows, dim, file) = c.in-Some.ensures.asked in
    let entered : subcommand_rows_of c.in-Ok.matches ≡ subcommand_of check_app words = subst (λ (a : App). subcommand_rows_of c.in-Ok.matches ≡ subcommand_of a words) is ((c.in-Ok.ensures.matches (ap is_simple is ∙ check_is_simple)).1) in
    (good, (options, sym entered ∙ rows, dim, file))

pub returns-clause-fails : goal.returns-clause-fails
returns-clause-fails c =
    let words : List Text = map string_bytes c.args.words.now in
    let is : app_of c.in_ok-command.command ≡ check_app = c.in_ok-command.ensures in
    subst (λ (a : App). fault_of a words ≡ []) is (c.in-Ok.ensures.kinds (ap is_simple_and_free is ∙ check_is_free))
