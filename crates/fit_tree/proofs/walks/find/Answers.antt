-- The root has room for the dimension, or no node is open.
use Rattle.std.proofs.Common.{arith}
use Rattle.std.proofs.lemmas.Nat.{pow_pos}
use Rattle.fit_tree.proofs.NodeLemmas.{IsNode-root, all_nodes}
use Rattle.fit_tree.proofs.RoomLemmas.{none_open}
use Rattle.fit_tree.proofs.WalkLemmas.{OnPath-root, above_root}
use Rattle.fit_tree.proofs.walks.find.Goals as goal

pub bounds-rooms-1 : goal.bounds-rooms-1
bounds-rooms-1 c = omega (arith, c.requires.rooms, all_nodes c.args.n, pow_pos c.args.n)

pub returns-then-rooms-k-clause-none : goal.returns-then-rooms-k-clause-none
returns-then-rooms-k-clause-none c = λ sound w node.
    none_open c.args.n c.args.rooms.now sound c.args.n 1 c.args.k w (IsNode-root c.args.n) node (OnPath-root c.args.n c.args.k w node) (omega arith)

pub go_down-requires-clause-node : goal.go_down-requires-clause-node
go_down-requires-clause-node c = IsNode-root c.args.n

pub returns-clause-first : goal.returns-clause-first
returns-clause-first c = λ sound.
    c.go_down.ensures.first (record { sound = sound; enough = omega arith; above = above_root c.args.rooms.now })
