use Rattle.std.proofs.Common.{◌≡◌, codes, ap₂, ◌∙◌, rules}
use Rattle.std.proofs.lemmas.Result.{IfOk-weaker}
use Rattle.clap.specs.Words.{app_of, with_rule}
use Rattle.cli_args.specs.CommandLine.{versioned_app}
use Rattle.cli_args.proofs.messages_line.command.Goals as goal

pub returns : goal.returns
returns c =
    let shape = c.shape_option.ensures in
    let dim = c.dim_option.ensures in
    let root = c.root_option.ensures in
    let plain : app_of c.after_help.result ≡ versioned_app (codes "messages") = search rules in
    let with_shape = c.in_ok-arg.ensures.shape shape.local ∙ ap₂ with_rule plain shape.rule in
    let with_dim = c.in_ok-arg-2.ensures.shape dim.local ∙ ap₂ with_rule with_shape dim.rule in
    IfOk-weaker c.arg-3.result _ _ (λ command adds. adds.shape root.local ∙ ap₂ with_rule with_dim root.rule) c.arg-3.ensures
