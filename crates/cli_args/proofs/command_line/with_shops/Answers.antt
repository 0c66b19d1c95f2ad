use Rattle.std.proofs.Common.{ap, ap₂, ◌∙◌}
use Rattle.std.proofs.lemmas.Result.{IfOk-weaker}
use Rattle.clap.specs.Words.{App, with_subcommand}
use Rattle.cli_args.proofs.command_line.with_shops.Goals as goal

pub returns : goal.returns
returns c =
    let run = c.in_ok-run.ensures in
    let report = c.in_ok-report.ensures in
    let with_run = c.in_ok-program.ensures.shape run.local ∙ ap₂ with_subcommand c.bare_program.ensures (ap (λ (a : App). a.top) run.app) in
    IfOk-weaker c.subcommand-2.result _ _ (λ program adds. adds.shape report.local ∙ ap₂ with_subcommand with_run (ap (λ (a : App). a.top) report.app)) c.subcommand-2.ensures
