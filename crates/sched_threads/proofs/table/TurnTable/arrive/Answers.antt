use Rattle.std.proofs.Common.{ℕ, [], ap, ◌∙◌, arith}
use Rattle.sched_threads.specs.View.{blank_view, first_view}
use Rattle.sched_threads.proofs.StepLemmas.{arrives_step, enters_step}
use Rattle.sched_threads.proofs.table.TurnTable.arrive.Goals as goal

pub load_new_seat-found-requires : goal.load_new_seat-found-requires
load_new_seat-found-requires c = (omega (arith, c.args.self.now.sized.0), arrives_step _ _ (blank_view, []))

pub compare_exchange-requires : goal.compare_exchange-requires
compare_exchange-requires c =
    let made = c.load_new_seat-found.ensures in (
      made.0,
      omega (arith, c.args.self.now.sized.0),
      enters_step _ _ _ _ (made.2 ∙ ap (λ (n : ℕ). (first_view n, [])) c.if-found-eq0.true),
    )

pub returns-then-compare_exchange-eq0-clause-took :
    goal.returns-then-compare_exchange-eq0-clause-took
returns-then-compare_exchange-eq0-clause-took c = c.compare_exchange.ensures.2.0 c.if-compare_exchange-eq0.true
