use Rattle.std.proofs.Common.{◌||◌, ap₂, ◌∙◌}
use Rattle.std.proofs.lemmas.Result.{IfOk-weaker}
use Rattle.clap.specs.Words.{with_rule}
use Rattle.cli_args.proofs.check_line.sized.Goals as goal

pub returns-clause-app : goal.returns-clause-app
returns-clause-app c =
    let dim = c.dim_option.ensures in
    let file = c.file_argument.ensures in
    let with_dim = c.in_ok-arg.ensures.shape dim.local ∙ ap₂ with_rule c.in_ok-kind.ensures.app dim.rule in
    IfOk-weaker c.arg-2.result _ _ (λ command adds. adds.shape file.local ∙ ap₂ with_rule with_dim file.rule) c.arg-2.ensures

pub returns-clause-local : goal.returns-clause-local
returns-clause-local c =
    let with_dim = c.in_ok-arg.ensures.globals ∙ ap₂ ◌||◌ c.in_ok-kind.ensures.local c.dim_option.ensures.local in
    IfOk-weaker c.arg-2.result _ _ (λ command adds. adds.globals ∙ ap₂ ◌||◌ with_dim c.file_argument.ensures.local) c.arg-2.ensures
