use Rattle.std.proofs.Common.{ap, ap₂, ◌∙◌}
use Rattle.std.proofs.lemmas.Result.{IfOk-weaker}
use Rattle.clap.specs.Words.{App, with_subcommand}
use Rattle.cli_args.specs.CommandLine.{with_tools}
use Rattle.cli_args.proofs.command_line.program.Goals as goal

pub returns : goal.returns
returns c =
    let place = c.in_ok-place.ensures in
    let replay = c.in_ok-replay.ensures in
    let with_place = c.in_ok-program.ensures.shape place.local ∙ ap₂ with_subcommand c.in_ok-shops.ensures (ap (λ (a : App). a.top) place.app) in
    let files = c.in_ok-files.ensures.shape replay.local ∙ ap₂ with_subcommand with_place (ap (λ (a : App). a.top) replay.app) in
    IfOk-weaker c.with_tools.result _ _ (λ program all. all ∙ ap with_tools files) c.with_tools.ensures
