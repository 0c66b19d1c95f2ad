use Rattle.std.proofs.Common.{◌≡◌, drop}
use Rattle.tests_lanes.specs.Inner.Rule.{threads_in}
use Rattle.tests_lanes.proofs.board_tests.skips.Given as goal

abbrev pub invariant-loop : goal.invariant-loop
invariant-loop l =
    (l.seats.table_id ≡ l.fn.seats.table_id) × (threads_in l.seats.me.0 ≡ drop l.counter (threads_in l.fn.seats.me.0))
