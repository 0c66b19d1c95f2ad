use Rattle.std.proofs.Common.{ap, ap₂, ◌∙◌}
use Rattle.std.proofs.lemmas.Result.{IfOk-weaker}
use Rattle.clap.specs.Words.{App, app_of, with_subcommand}
use Rattle.cli_args.proofs.command_line.with_tools.Goals as goal

pub returns : goal.returns
returns c =
    let check = c.in_ok-check.ensures in
    let messages = c.in_ok-messages.ensures in
    let with_check = c.in_ok-with_check.ensures.shape check.local ∙ ap (λ (top : _). with_subcommand (app_of c.args.program) top) (ap (λ (a : App). a.top) check.app) in
    IfOk-weaker c.subcommand-2.result _ _ (λ program adds. adds.shape messages.local ∙ ap₂ with_subcommand with_check (ap (λ (a : App). a.top) messages.app)) c.subcommand-2.ensures
