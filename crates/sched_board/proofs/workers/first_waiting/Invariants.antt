-- No worker so far waits.
use Rattle.std.proofs.Common.{◌≤◌}
use Rattle.sched_board.specs.Workers.{none_waits_in}
use Rattle.sched_board.proofs.workers.first_waiting.Given as goal

abbrev pub invariant-loop-number : goal.invariant-loop-number
invariant-loop-number l = record {
  from : l.from ≤ l.number;
  none : none_waits_in l.workers l.from l.number;
}
