-- A node is open exactly if it is wholly free and none above it was taken.
use Rattle.std.proofs.Common.{sym, arith}
use Rattle.std.proofs.lemmas.Bool.{true≢false}
use Rattle.fit_tree.proofs.NodeLemmas.{IsNode-in_cube}
use Rattle.fit_tree.proofs.RoomLemmas.{whole_is_open}
use Rattle.fit_tree.proofs.BlockLemmas.{open_above, open_is_whole}
use Rattle.fit_tree.proofs.walks.is_open.Goals as goal

pub bounds-rooms-node : goal.bounds-rooms-node
bounds-rooms-node c = omega (arith, (IsNode-in_cube c.args.n c.args.k c.args.node c.requires.node).1, c.requires.rooms)

pub is_reached-requires-clause-node : goal.is_reached-requires-clause-node
is_reached-requires-clause-node c = IsNode-in_cube c.args.n c.args.k c.args.node c.requires.node

pub returns-then-rooms-node-clause-open : goal.returns-then-rooms-node-clause-open
returns-then-rooms-node-clause-open c = λ sound. (
  λ is. absurd (true≢false (sym is)),
  λ clear. absurd (c.if-rooms-node.true (open_is_whole c.args.n c.args.rooms.now sound c.args.k c.args.node c.requires.node clear)),
)

pub returns-clause-open : goal.returns-clause-open
returns-clause-open c = λ sound.
    let inside = IsNode-in_cube c.args.n c.args.k c.args.node c.requires.node in (
      λ is. whole_is_open c.args.n c.args.rooms.now sound c.args.k c.args.node c.requires.node (omega arith) (c.is_reached.ensures.0 is),
      λ clear. c.is_reached.ensures.1 (open_above c.args.n c.args.rooms.now sound c.args.node inside.0 inside.1 clear),
    )
