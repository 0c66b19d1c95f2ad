-- The way down so far leads to the node.
use Rattle.std.proofs.Common.{◌≡◌, ℕ, ◌+◌, ◌≤◌}
use Rattle.cube_shape.specs.declared.region.Region.{Region}
use Rattle.cube_shape.specs.Node.{IsNodeOf}
use Rattle.cube_shape.specs.Region.{block}
use Rattle.fit_tree.specs.Rooms.{IsNode}
use Rattle.sched_law.specs.State.{Sched}
use Rattle.sched_law.specs.Policy.{HasUsable}
use Rattle.sched_blocks.specs.Shows.{Shows}
use Rattle.sched_blocks.proofs.PartLemmas.{GoesTo}
use Rattle.sched_blocks.proofs.blocks.Blocks.choose.Given as goal

abbrev pub invariant-loop : goal.invariant-loop
invariant-loop l = record {
  ends : l.end ≡ l.self.dim;
  bound : l.counter ≤ l.end;
  level : (d : ℕ) → d + l.counter ≡ l.end + l.k → IsNode l.self.dim d l.node;
  goes : (w : Sched) (part : Region) → Shows w l.self → HasUsable w l.k → IsNodeOf l.self.dim l.node part → GoesTo w l.k (block w.dim 0) part;
}
