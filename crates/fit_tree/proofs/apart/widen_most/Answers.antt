-- The sibling has more room, or not.
use Rattle.std.proofs.Common.{inl, inr, arith}
use Rattle.std.specs.Prelude.{bit_xor}
use Rattle.std.proofs.lemmas.Bool.{cases_lt}
use Rattle.fit_tree.specs.Rooms.{room_of}
use Rattle.fit_tree.proofs.NodeLemmas.{IsNode-in_cube, sibling}
use Rattle.fit_tree.proofs.WalkLemmas.{sibling_room}
use Rattle.fit_tree.proofs.ApartLemmas.{most_taken, most_widened}
use Rattle.fit_tree.proofs.apart.widen_most.Goals as goal

pub bounds-rooms-node : goal.bounds-rooms-node
bounds-rooms-node c = omega (arith, (IsNode-in_cube c.args.n c.args.dim c.args.node c.requires.node).1, c.requires.rooms)

pub bounds-rooms-node-2 : goal.bounds-rooms-node-2
bounds-rooms-node-2 c = omega (arith, sibling_room c.args.n c.args.dim c.args.node c.requires.dim c.requires.node, c.requires.rooms)

pub returns-then-rooms-node-eq0 : goal.returns-then-rooms-node-eq0
returns-then-rooms-node-eq0 c = λ sound avoid way before.
    most_taken c.args.n c.args.rooms.now avoid c.args.dim c.args.node c.requires.node c.requires.dim way (omega arith)

pub returns : goal.returns
returns c = λ sound avoid way before.
    most_widened c.args.n c.args.rooms.now sound avoid c.args.dim c.args.node c.requires.node c.requires.dim way (λ taken. omega (arith, taken)) (bit_xor c.args.node 1) (sibling c.args.node)
    c.args.most c.max.result before (omega (arith, c.max.ensures)) (omega (arith, c.max.ensures)) (elim (cases_lt c.args.most (room_of c.args.rooms.now (bit_xor c.args.node 1))) [
      | inl less ↦ inr (omega (arith, c.max.ensures, less))
      | inr order ↦ inl (omega (arith, c.max.ensures, order))
    ])
