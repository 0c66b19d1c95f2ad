use Rattle.std.proofs.Common.{◌||◌, ap₂, ◌∙◌}
use Rattle.std.proofs.lemmas.Result.{IfOk-weaker}
use Rattle.clap.specs.Words.{with_rule}
use Rattle.cli_args.proofs.check_line.replay.Goals as goal

pub returns-clause-app : goal.returns-clause-app
returns-clause-app c =
    let file = c.file_argument.ensures in
    IfOk-weaker c.arg.result _ _ (λ command adds. adds.shape file.local ∙ ap₂ with_rule c.in_ok-kind.ensures.app file.rule) c.arg.ensures

pub returns-clause-local : goal.returns-clause-local
returns-clause-local c =
    IfOk-weaker c.arg.result _ _ (λ command adds. adds.globals ∙ ap₂ ◌||◌ c.in_ok-kind.ensures.local c.file_argument.ensures.local) c.arg.ensures
