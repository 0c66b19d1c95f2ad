use Rattle.std.proofs.Common.{◌≡◌, List, [], ap, subst, ◌∙◌, map, string_bytes}
use Rattle.clap.specs.Words.{App, HasKind, Row, Text, app_of, fault_of, found_of, is_simple, is_simple_and_free, matches_of, rows_of}
use Rattle.cli_args.specs.MessagesLine.{HasOptions, messages_app}
use Rattle.cli_args.proofs.ToolLemmas.{messages_is_free, messages_is_simple}
use Rattle.cli_args.proofs.messages_line.parse_messages.Goals as goal

pub returns-in-Err-clause-fails : goal.returns-in-Err-clause-fails
returns-in-Err-clause-fails c =
    let is : app_of c.in_ok-command.command ≡ messages_app = c.in_ok-command.ensures in
    subst (λ (a : App). HasKind (fault_of a (map string_bytes c.args.words.now)) c.in-Err.error) is (c.in-Err.ensures.kinds (ap is_simple_and_free is ∙ messages_is_free))

pub returns-clause-asked : goal.returns-clause-asked
returns-clause-asked c =
    let words : List Text = map string_bytes c.args.words.now in
    let is : app_of c.in_ok-command.command ≡ messages_app = c.in_ok-command.ensures in
    let good : fault_of messages_app words ≡ [] = subst (λ (a : App). fault_of a words ≡ []) is (c.in-Ok.ensures.kinds (ap is_simple_and_free is ∙ messages_is_free)) in
    let found : rows_of (found_of c.in-Ok.matches) ≡ matches_of messages_app words = subst (λ (a : App). rows_of (found_of c.in-Ok.matches) ≡ matches_of a words) is ((c.in-Ok.ensures.matches (ap is_simple is ∙ messages_is_simple)).0) in
    (good, subst (λ (options : List Row). HasOptions options c.in-Some.options) found c.in-Some.ensures.options)

pub returns-clause-fails : goal.returns-clause-fails
returns-clause-fails c =
    let words : List Text = map string_bytes c.args.words.now in
    let is : app_of c.in_ok-command.command ≡ messages_app = c.in_ok-command.ensures in
    subst (λ (a : App). fault_of a words ≡ []) is (c.in-Ok.ensures.kinds (ap is_simple_and_free is ∙ messages_is_free))
