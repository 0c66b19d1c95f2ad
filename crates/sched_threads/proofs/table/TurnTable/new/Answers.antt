use Rattle.std.proofs.Common.{refl, List, [], ◌∷◌, ◌++◌, ap, ◌∙◌, sym, subst}
use Rattle.atomic_table.specs.Table.{opening}
use Rattle.sched_threads.specs.declared.clocked.ClockedDesk.{ClockedDesk}
use Rattle.sched_threads.specs.Rule.{Keeps}
use Rattle.sched_threads.specs.View.{blank_view}
use Rattle.sched_threads.proofs.StepLemmas.{opens_table}
use Rattle.sched_threads.proofs.table.TurnTable.new.Goals as goal

pub new-made-requires : goal.new-made-requires
new-made-requires c =
    let items = c.in_ok-push.ensures.items ∙ ap (λ (l : List ClockedDesk). l ++ (record { desk = c.args.desk; clock = 0 }) ∷ []) c.new-slots.ensures.items in
    subst (λ (l : List ClockedDesk). Keeps c.args.sizes.now (opening (0 ∷ []) l blank_view)) (sym items) (opens_table _ _ c.requires.fresh refl)
