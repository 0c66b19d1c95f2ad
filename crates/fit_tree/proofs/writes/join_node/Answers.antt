-- The children are nodes of the dimension below.
use Rattle.std.proofs.Common.{◌≡◌, ◌+◌, suc, subst, arith}
use Rattle.fit_tree.specs.Rooms.{IsNode}
use Rattle.fit_tree.proofs.NodeLemmas.{IsNode-left, IsNode-right}
use Rattle.fit_tree.proofs.writes.join_node.Goals as goal

pub write_room-requires-2-clause-node : goal.write_room-requires-2-clause-node
write_room-requires-2-clause-node c =
    let next : c.args.dim + 1 ≡ suc c.args.dim = omega arith in
    IsNode-left c.args.n c.args.dim c.args.node (subst (λ d. IsNode c.args.n d c.args.node) next c.requires.node)

pub write_room-requires-3-clause-node : goal.write_room-requires-3-clause-node
write_room-requires-3-clause-node c =
    let next : c.args.dim + 1 ≡ suc c.args.dim = omega arith in
    IsNode-right c.args.n c.args.dim c.args.node (subst (λ d. IsNode c.args.n d c.args.node) next c.requires.node)
