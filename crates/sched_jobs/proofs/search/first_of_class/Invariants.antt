-- The best so far is the first of the dimensions so far.
use Rattle.std.proofs.Common.{ℕ, ◌≤◌, ◌<◌, Option, IfSome, length}
use Rattle.sched_jobs.specs.Lines.{AreLines}
use Rattle.sched_jobs.specs.Inner.Search.{IsFitBelow, IsLeast}
use Rattle.sched_jobs.proofs.search.first_of_class.Given as goal

abbrev pub invariant-loop-dim : goal.invariant-loop-dim
invariant-loop-dim l = record {
  bound : l.dim ≤ l.past;
  inside : IfSome l.best (λ u. u < length l.nodes);
  least : (line : ℕ → Option ℕ) → AreLines l.nodes l.queues line → IsLeast l.nodes (IsFitBelow l.nodes line l.wanted l.class l.dim) l.best;
}
