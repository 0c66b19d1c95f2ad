-- The count so far is that of the lines so far.
use Rattle.std.proofs.Common.{ℕ, ◌*◌, ◌^◌, ◌≤◌, Option, Some}
use Rattle.alloc_bits.specs.Count.{IsCount}
use Rattle.sched_jobs.specs.Lines.{AreLines}
use Rattle.sched_jobs.specs.Inner.Numbers.{HasKeyFrom, HasNumbers}
use Rattle.sched_jobs.proofs.counts.total.Given as goal

abbrev pub invariant-loop-at : goal.invariant-loop-at
invariant-loop-at l = record {
  from : l.first ≤ l.at;
  bound : l.at ≤ l.end;
  few : l.count ≤ l.at * 2 ^ 32;
  count : (line : ℕ → Option ℕ) (next : ℕ) → AreLines l.nodes l.queues line → HasNumbers l.nodes line next → IsCount (HasKeyFrom l.nodes line l.first l.at (Some l.bound)) next l.count;
}
