-- No slot so far has a job.
use Rattle.std.proofs.Common.{ℕ, ◌≤◌, ◌<◌}
use Rattle.sched_jobs.specs.Slots.{IsPresent, place_in}
use Rattle.sched_jobs.proofs.slots.next_present.Given as goal

abbrev pub invariant-loop-slot : goal.invariant-loop-slot
invariant-loop-slot l = record {
  from : l.from ≤ l.slot;
  none : (u : ℕ) → l.from ≤ u → u < l.slot → IsPresent (place_in l.slots u) → ⊥;
}
