-- The count so far is that of the classes so far.
use Rattle.std.proofs.Common.{ℕ, ◌+◌, ◌*◌, ◌^◌, ◌≤◌, List, Option, None}
use Rattle.cube_shape.specs.declared.limits.TheConstants.{MAX_BITMAP_DIM}
use Rattle.alloc_bits.specs.Count.{IsCount}
use Rattle.sched_jobs.specs.declared.nodes.QueueNode.{QueueNode as NodeData}
use Rattle.sched_jobs.specs.declared.queues.Queue.{Queue as QueueData}
use Rattle.sched_jobs.specs.Lines.{ShowsLines}
use Rattle.sched_jobs.specs.Inner.Numbers.{HasKeyFrom, HasNumbers}
use Rattle.sched_jobs.proofs.counts.total_of_classes.Given as goal

abbrev pub invariant-loop-class : goal.invariant-loop-class
invariant-loop-class l = record {
  bound : l.class ≤ l.end;
  few : l.count ≤ l.class * 2 ^ 32;
  count : (nodes : List NodeData) (queues : List QueueData) (line : ℕ → Option ℕ) (next : ℕ) → ShowsLines nodes queues l.counts line → HasNumbers nodes line next
      → IsCount (HasKeyFrom nodes line 0 (l.class * (MAX_BITMAP_DIM + 1)) None) next l.count;
}
