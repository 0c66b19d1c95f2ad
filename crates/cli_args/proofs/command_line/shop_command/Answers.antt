use Rattle.std.proofs.Common.{◌||◌, ap₂, ◌∙◌}
use Rattle.std.proofs.lemmas.Result.{IfOk-weaker}
use Rattle.clap.specs.Words.{with_rule}
use Rattle.cli_args.proofs.command_line.shop_command.Goals as goal

pub returns-clause-app : goal.returns-clause-app
returns-clause-app c =
    let dispatchers = c.dispatchers_option.ensures in
    let capacity = c.capacity_option.ensures in
    let quiet = c.quiet_option.ensures in
    let with_dispatchers = c.in_ok-arg.ensures.shape dispatchers.local ∙ ap₂ with_rule c.in_ok-shop.ensures.app dispatchers.rule in
    let with_capacity = c.in_ok-arg-2.ensures.shape capacity.local ∙ ap₂ with_rule with_dispatchers capacity.rule in
    let events = c.events_option.ensures in
    let with_quiet = c.in_ok-arg-3.ensures.shape quiet.local ∙ ap₂ with_rule with_capacity quiet.rule in
    IfOk-weaker c.arg-4.result _ _ (λ command adds. adds.shape events.local ∙ ap₂ with_rule with_quiet events.rule) c.arg-4.ensures

pub returns-clause-local : goal.returns-clause-local
returns-clause-local c =
    let with_dispatchers = c.in_ok-arg.ensures.globals ∙ ap₂ ◌||◌ c.in_ok-shop.ensures.local c.dispatchers_option.ensures.local in
    let with_capacity = c.in_ok-arg-2.ensures.globals ∙ ap₂ ◌||◌ with_dispatchers c.capacity_option.ensures.local in
    let with_quiet = c.in_ok-arg-3.ensures.globals ∙ ap₂ ◌||◌ with_capacity c.quiet_option.ensures.local in
    IfOk-weaker c.arg-4.result _ _ (λ command adds. adds.globals ∙ ap₂ ◌||◌ with_quiet c.events_option.ensures.local) c.arg-4.ensures
