-- No job waits in the slots that were passed.
use Rattle.std.proofs.Common.{ℕ, ◌-◌, ◌<◌, ◌≤◌}
use Rattle.sched_core.specs.Shows.{slots_of}
use Rattle.sched_board.specs.Served.{WaitsIn}
use Rattle.sched_board.proofs.board.JobBoard.waiting_from.Given as goal

abbrev pub invariant-loop-slot : goal.invariant-loop-slot
invariant-loop-slot l = record {
  after : l.from ≤ l.start;
  passed : (u : ℕ) → l.from ≤ u → u < l.start → WaitsIn l.self.pool.core u → ⊥;
}

abbrev pub decreases-loop-slot : goal.decreases-loop-slot
decreases-loop-slot l = slots_of l.self.pool.core - l.start
