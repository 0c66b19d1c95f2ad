-- At the root all nodes apart from the one to avoid were seen.
use Rattle.std.proofs.Common.{◌≡◌, ◌+◌, ◌/◌, suc, subst, arith}
use Rattle.cube_shape.proofs.PathLemmas.{OnPath-self}
use Rattle.fit_tree.specs.Rooms.{IsNode}
use Rattle.fit_tree.proofs.NodeLemmas.{IsNode-in_cube, IsNode-parent}
use Rattle.fit_tree.proofs.ApartLemmas.{most_at_root, most_begins, way_up}
use Rattle.fit_tree.proofs.apart.most_apart.Goals as goal

pub loop-level-init : goal.loop-level-init
loop-level-init c = record {
  node = c.requires.node;
  way = OnPath-self c.args.avoid (IsNode-in_cube c.args.n c.args.dim c.args.avoid c.requires.node).0;
  most = λ sound. most_begins c.args.n c.args.rooms.now c.args.avoid;
}

pub loop-level-preserved : goal.loop-level-preserved
loop-level-preserved c =
    let inv = c.loop-level.invariant in
    let next : suc c.loop-level.level ≡ c.loop-level.level + 1 = omega arith in
    record {
      node = subst (λ d. IsNode c.args.n d (c.loop-level.node / 2)) next (IsNode-parent c.args.n c.loop-level.level c.loop-level.node (omega arith) inv.node);
      way = way_up c.args.n 0 c.args.rooms.now c.args.avoid c.loop-level.level c.loop-level.node inv.node (omega arith) inv.way;
      most = λ sound. c.widen_most-most.ensures sound c.args.avoid inv.way (inv.most sound);
    }

pub returns : goal.returns
returns c = λ sound.
    let inv = c.loop-level.invariant in
    let all : c.loop-level.level ≡ c.args.n = omega (arith, c.requires.node.0, inv.node.0) in
    most_at_root c.args.n c.args.rooms.now c.args.avoid c.loop-level.level c.loop-level.node c.loop-level.most all inv.node (inv.most sound)
