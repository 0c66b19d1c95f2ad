use Rattle.std.proofs.Common.{◌≡◌, false, ◌||◌, ap₂, ◌∙◌, rules}
use Rattle.std.proofs.lemmas.Result.{IfOk-weaker}
use Rattle.clap.specs.Words.{app_of, with_rule}
use Rattle.clap.specs.declared.builder.command.Command.TheViews.{out-Command}
use Rattle.cli_args.specs.CommandLine.{versioned_app}
use Rattle.cli_args.proofs.command_line.command.Goals as goal

pub returns-clause-app : goal.returns-clause-app
returns-clause-app c =
    let dim = c.dim_option.ensures in
    let file = c.file_argument.ensures in
    let output = c.output_option.ensures in
    let plain : app_of c.after_help.result ≡ versioned_app c.args.name.now = search rules in
    let with_dim = c.in_ok-arg.ensures.shape dim.local ∙ ap₂ with_rule plain dim.rule in
    let with_file = c.in_ok-arg-2.ensures.shape file.local ∙ ap₂ with_rule with_dim file.rule in
    IfOk-weaker c.arg-3.result _ _ (λ command adds. adds.shape output.local ∙ ap₂ with_rule with_file output.rule) c.arg-3.ensures

pub returns-clause-local : goal.returns-clause-local
returns-clause-local c =
    let plain : (out-Command c.after_help.result).has_globals ≡ false = search rules in
    let with_dim = c.in_ok-arg.ensures.globals ∙ ap₂ ◌||◌ plain c.dim_option.ensures.local in
    let with_file = c.in_ok-arg-2.ensures.globals ∙ ap₂ ◌||◌ with_dim c.file_argument.ensures.local in
    IfOk-weaker c.arg-3.result _ _ (λ command adds. adds.globals ∙ ap₂ ◌||◌ with_file c.output_option.ensures.local) c.arg-3.ensures
