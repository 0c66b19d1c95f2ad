-- A step goes to a child, as far as to the dimension.
use Rattle.std.proofs.Common.{◌≡◌, suc, ◌+◌, ◌-◌, ◌<◌, ap, subst, arith}
use Rattle.cube_shape.specs.Node.{IsNodeOf}
use Rattle.fit_tree.specs.Rooms.{IsNode}
use Rattle.fit_tree.proofs.NodeLemmas.{IsNode-root}
use Rattle.sched_law.specs.Policy as policy
use Rattle.sched_blocks.specs.Layout.{Layout}
use Rattle.sched_blocks.proofs.ChildLemmas.{child_level, inner_node, part_of, way_starts}
use Rattle.sched_blocks.proofs.blocks.Blocks.choose.Goals as goal

pub loop-init : goal.loop-init
loop-init c =
    let dims : c.self.inside.dim ≡ c.args.self.now.dim = ap (λ (b : Layout). b.dim) c.self.view_is in
    record {
      ends = dims;
      bound = omega (arith, dims, c.requires);
      level = λ d sum.
          let same : c.args.self.now.dim ≡ d = omega (arith, sum, dims) in
          subst (λ e. IsNode c.args.self.now.dim e 1) same (IsNode-root c.args.self.now.dim);
      goes = λ w part shows has named. way_starts w c.args.self.now shows c.args.k part has named;
    }

pub better_child-node-requires-clause-node : goal.better_child-node-requires-clause-node
better_child-node-requires-clause-node c =
    let bound : c.loop.counter < c.self.inside.dim = omega arith in
    let level : c.self.inside.dim + c.args.k - c.loop.counter + c.loop.counter ≡ c.self.inside.dim + c.args.k = omega (arith, bound) in
    inner_node c.args.self.now.dim (c.self.inside.dim + c.args.k - c.loop.counter) c.loop.node (omega (arith, bound))
    (c.loop.invariant.level (c.self.inside.dim + c.args.k - c.loop.counter) level)

pub loop-preserved : goal.loop-preserved
loop-preserved c = record {
  ends = c.loop.invariant.ends;
  bound = omega arith;
  level = λ d sum. child_level c.args.self.now.dim d c.loop.node c.better_child-node.result
      (c.loop.invariant.level (suc d) (omega (arith, sum))) c.better_child-node.ensures.child;
  goes = λ w half shows has of_half.
      let bound : c.loop.counter < c.self.inside.dim = omega arith in
      let level : c.self.inside.dim + c.args.k - c.loop.counter + c.loop.counter ≡ c.self.inside.dim + c.args.k = omega (arith, bound) in
      let at = part_of c.args.self.now.dim (c.self.inside.dim + c.args.k - c.loop.counter) c.loop.node
      (c.loop.invariant.level (c.self.inside.dim + c.args.k - c.loop.counter) level) in
      let before = c.loop.invariant.goes w at.0 shows has at.1 in
      let dim = at.2 in
      let step = c.better_child-node.ensures.goes w at.0 half shows at.1 of_half (omega (arith, bound, dim)) before.0 in
      (step.0, λ s rest. before.1 s (step.1 s rest));
}

pub returns-clause-chosen : goal.returns-clause-chosen
returns-clause-chosen c = λ w shows has.
    let named = subst (λ n. IsNodeOf n c.loop.node c.block_of.result) c.loop.invariant.ends c.block_of.ensures.named in
    (c.loop.invariant.goes w c.block_of.result shows has named).1 c.block_of.result (policy.arrives c.block_of.result c.block_of.ensures.dim)
