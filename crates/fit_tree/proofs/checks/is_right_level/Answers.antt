-- The numbers of the loop are the nodes of the level.
use Rattle.std.proofs.Common.{◌≡◌, ◌-◌, ◌*◌, ◌%◌, ◌^◌, arith}
use Rattle.std.proofs.lemmas.Nat.{one_shl}
use Rattle.fit_tree.specs.Rooms.{IsNode}
use Rattle.fit_tree.proofs.NodeLemmas.{children_inside}
use Rattle.fit_tree.proofs.MaximalLemmas.{level_end}
use Rattle.fit_tree.proofs.checks.is_right_level.Goals as goal

pub is_right-requires-clause-node : goal.is_right-requires-clause-node
is_right-requires-clause-node c =
    let first : 1 * 2 ^ (c.args.n - c.args.dim) % 2 ^ 64 ≡ 2 ^ (c.args.n - c.args.dim) = one_shl (c.args.n - c.args.dim) 64 (omega arith) in
    omega (arith, first, level_end c.args.n c.args.dim c.requires.dim, c.requires.rooms)

pub is_right-requires-clause-children : goal.is_right-requires-clause-children
is_right-requires-clause-children c = λ inner.
    let first : 1 * 2 ^ (c.args.n - c.args.dim) % 2 ^ 64 ≡ 2 ^ (c.args.n - c.args.dim) = one_shl (c.args.n - c.args.dim) 64 (omega arith) in
    let node : IsNode c.args.n c.args.dim c.loop-node.node = (c.requires.dim, omega (arith, first), omega (arith, first)) in
    omega (arith, children_inside c.args.n c.args.dim c.loop-node.node inner node, c.requires.rooms)
