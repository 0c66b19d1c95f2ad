use Rattle.std.proofs.Common.{List, ap, ◌∙◌}
use Rattle.ghost_history.specs.Lists.{rest_of}
use Rattle.wake_calls.specs.declared.rule.ThreadRecord.{ThreadRecord}
use Rattle.tests_lanes.specs.Inner.Rule.{threads_in}
use Rattle.tests_lanes.specs.Inner.Steps.{Sat}
use Rattle.tests_lanes.proofs.DropLemmas.{rest_drop}
use Rattle.tests_lanes.proofs.board_tests.skips.Goals as goal

pub loop-preserved : goal.loop-preserved
loop-preserved c = (
  c.deal-seat.ensures.table ∙ c.loop.invariant.0,
  ap (λ (m : Sat). threads_in m.0) c.deal-seat.ensures.left
      ∙ ap (λ (rs : List ThreadRecord). rest_of rs) c.loop.invariant.1
      ∙ rest_drop c.loop.counter (threads_in c.args.seats.now.me.0),
)
