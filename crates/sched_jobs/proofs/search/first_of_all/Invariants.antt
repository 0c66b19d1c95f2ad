-- No slot of the classes so far is wanted.
use Rattle.std.proofs.Common.{ℕ, ◌≤◌, ◌<◌, Option}
use Rattle.sched_jobs.specs.declared.lines.TheConstants.{CLASSES}
use Rattle.sched_jobs.specs.Lines.{ShowsLines}
use Rattle.sched_jobs.specs.Inner.Search.{IsFitIn}
use Rattle.sched_jobs.proofs.search.first_of_all.Given as goal

abbrev pub invariant-loop-class : goal.invariant-loop-class
invariant-loop-class l = record {
  bound : l.class ≤ CLASSES;
  none : (line : ℕ → Option ℕ) → ShowsLines l.nodes l.queues l.counts line → (before u : ℕ) → before < l.class → IsFitIn l.nodes line l.wanted before u → ⊥;
}
