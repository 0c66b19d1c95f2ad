use Rattle.std.proofs.Common.{ap, ap₂, ◌∙◌}
use Rattle.std.proofs.lemmas.Result.{IfOk-weaker}
use Rattle.clap.specs.Words.{App, with_subcommand}
use Rattle.cli_args.proofs.check_line.command.Goals as goal

pub returns : goal.returns
returns c =
    let run = c.in_ok-run.ensures in
    let place = c.in_ok-place.ensures in
    let replay = c.in_ok-replay.ensures in
    let with_run = c.in_ok-with_run.ensures.shape run.local ∙ ap₂ with_subcommand c.in_ok-bare.ensures (ap (λ (a : App). a.top) run.app) in
    let with_place = c.in_ok-with_place.ensures.shape place.local ∙ ap₂ with_subcommand with_run (ap (λ (a : App). a.top) place.app) in
    IfOk-weaker c.subcommand-3.result _ _ (λ program adds. adds.shape replay.local ∙ ap₂ with_subcommand with_place (ap (λ (a : App). a.top) replay.app)) c.subcommand-3.ensures
